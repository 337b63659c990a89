-- `schedule::key_size` meets its contract: each test is one of the sizes.
-- Assumes nothing.
use mathlib.Core.Path.{sym, ap, ◌∙◌}
use mathlib.Core.Bool.{Bool, ◌||◌}
use borrow.Author.Tests.{eq-eqb, ne_eqb}
use lib.Dec.{eqb}
use Rattle.schedule.proofs.key_size.Goals as goal

pub returns-then-n-eq16 : goal.returns-then-n-eq16
returns-then-n-eq16 c =
    let n = c.args.n in
    let e = eq-eqb n 16 c.if-n-eq16.true in
    e ∙ sym (ap (λ (b : Bool). b || eqb n 32) e)

pub returns-else-n-eq16 : goal.returns-else-n-eq16
returns-else-n-eq16 c = let n = c.args.n in sym (ap (λ (b : Bool). b || eqb n 32) (ne_eqb n 16 c.if-n-eq16.false))
