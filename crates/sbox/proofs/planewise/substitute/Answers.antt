-- `sbox::planewise::substitute` meets its contract: the step is the one that the direction asks for.
-- Assumes nothing.
use mathlib.Core.Path.{sym, subst}
use mathlib.Core.Bool.{Bool}
use Rattle.bits.specs.Planes.{EachOf}
use Rattle.sbox.specs.Directions.{directed}
use Rattle.sbox.proofs.planewise.substitute.Goals as goal

pub returns-then-back : goal.returns-then-back
unfolding directed
returns-then-back c =
    subst (λ (b : Bool). EachOf (directed b) c.args.group.now c.over_planes.new.group) (sym c.if-back.true)
    (record { at = λ t h. (c.over_planes.ensures.at t h).1 })

pub returns-else-back : goal.returns-else-back
unfolding directed
returns-else-back c =
    subst (λ (b : Bool). EachOf (directed b) c.args.group.now c.over_planes-else-back.new.group) (sym c.if-back.false)
    (record { at = λ t h. (c.over_planes-else-back.ensures.at t h).1 })
