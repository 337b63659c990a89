-- `planes::each_plane` meets its contract: after p turns the first p planes are made anew, and the others stand as they came.
-- Assumes nothing.
use Rattle.std.proofs.Common.{◌≡◌, length, arith, rules}
use Rattle.planes.proofs.Laws.{anew_none, anew_more}
use Rattle.planes.proofs.each_plane.Goals as goal

pub loop-p-init : goal.loop-p-init
loop-p-init g c = anew_none

pub loop-p-preserved : goal.loop-p-preserved
loop-p-preserved g c =
    let x = c.load-x in
    let y = c.plane in
    let n : length c.loop-p.d ≡ 256 = search rules in
    let k : length y.result ≡ 16 = search rules in
    anew_more c.loop-p.invariant (omega arith) n x.result y.result c.put.new.s k x.ensures c.put.ensures y.ensures

pub returns : goal.returns
returns g c = λ q h. c.loop-p.invariant.done q (omega arith)
