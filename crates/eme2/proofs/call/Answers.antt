-- `eme2::call` meets its contract: each return follows from the tests before it, in their order.
-- Assumes nothing.
use mathlib.Core.Path.{◌≡◌, sym, ◌∙◌}
use mathlib.Core.Bool.{true}
use native.Mathlib.Omega.{arith}
use Rattle.eme2.specs.Transform.{key_taken}
use Rattle.eme2.proofs.Ladder.{done}
use Rattle.eme2.proofs.call.Goals as goal
use Rattle.eme2.proofs.call.Goals.{Else-not-key_taken}

-- past the first test the key has one of the sizes
sized : (c : Else-not-key_taken) → key_taken c.args.key.now ≡ true
sized c = sym c.key_taken.ensures ∙ c.if-not-key_taken.false

pub transform-requires : goal.transform-requires
transform-requires c = (sized (goal.at.transform-requires c).Else-not-key_taken, omega arith)

pub returns : goal.returns
returns c =
    let a = c.args in
    done a.back a.key.now a.ad.now a.message.now (sized (goal.at.returns c).Else-not-key_taken)
    (omega arith) (omega arith) (omega arith)
    c.transform.new.message c.transform.ensures
