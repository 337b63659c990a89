-- `bits::turn::spread_block` meets its contract: after t turns the planes below t have their four bytes.
-- Assumes nothing.
use mathlib.Core.Path.{◌≡◌, ◌∙◌}
use mathlib.Core.List.{List}
use Prim.Native.Nat.{ℕ}
use native.Mathlib.Omega.{arith}
use borrow.Author.Rules.{rules}
use lib.ListN.{length}
use Rattle.bits.specs.Planes.{words}
use Rattle.bits.proofs.GroupLaws.{done_more}
use Rattle.bits.proofs.TurnLaws.{Four, spread_one}
use Rattle.bits.proofs.turn.spread_block.Goals as goal

pub loop-t-preserved : goal.loop-t-preserved
loop-t-preserved c =
    let group : List ℕ = c.loop-t.group in
    let l : length group ≡ 32 = search rules in
    done_more group c.put_planes.new.group c.loop-t.t c.shifted.result c.loop-t-test.true l c.put_planes.ensures (λ u q. Four c.args.s.now u (words q))
    c.loop-t.invariant (λ b m. c.shifted.ensures.at b m ∙ c.word.ensures.has b m)

pub returns : goal.returns
returns c = spread_one c.args.s.now c.loop-t.group (λ u h. c.loop-t.invariant u (omega arith))
