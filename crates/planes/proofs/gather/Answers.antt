-- `planes::gather` meets its contract: after l turns the first l lanes stand in their place.
-- Assumes nothing.
use mathlib.Core.Path.{◌≡◌, ap, ap₂, ◌∙◌}
use mathlib.Core.List.{List}
use Prim.Native.Nat.{ℕ, ◌+◌, ◌*◌}
use native.Mathlib.Omega.{arith}
use Rattle.block.specs.Blocks.{with_block}
use Rattle.planes.proofs.Laws.{gathered, gather_none, gather_turn, strided_lane}
use Rattle.planes.proofs.gather.Goals as goal

pub loop-l-init : goal.loop-l-init
loop-l-init c =
    let a = c.args in
    gather_none a.s.now a.d.now a.at

pub loop-l-preserved : goal.loop-l-preserved
loop-l-preserved c =
    let y = c.strided in
    let a = c.args in
    let s : List ℕ = a.s.now in
    let l = c.loop-l.l in
    c.put.ensures
    ∙ ap₂ (λ (t b : List ℕ). with_block t (a.at + 16 * l) b) c.loop-l.invariant (y.ensures ∙ strided_lane s l)
    ∙ gather_turn s a.d.now a.at l (omega arith)

pub returns : goal.returns
returns c =
    let a = c.args in
    let e : c.loop-l.l ≡ a.n = omega arith in
    c.loop-l.invariant ∙ ap (λ (l : ℕ). gathered a.s.now a.d.now a.at l) e
