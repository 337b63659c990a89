-- `xts::key_taken` meets its contract.
-- Assumes nothing.
use mathlib.Core.Path.{sym, ap, ◌∙◌}
use mathlib.Core.Bool.{Bool, ◌||◌}
use mathlib.Core.Logic.{inl}
use borrow.Author.Tests.{eq-eqb, ne_eqb}
use lib.Dec.{eqb}
use Rattle.xts.specs.Xts.{key_taken}
use Rattle.xts.proofs.Bounds.{key_taken_lem}
use Rattle.xts.proofs.key_taken.Goals as goal

pub returns-then-n-eq32 : goal.returns-then-n-eq32
returns-then-n-eq32 c = let n = c.args.n in eq-eqb n 32 c.if-n-eq32.true ∙ sym (key_taken_lem n (inl c.if-n-eq32.true))

pub returns-else-n-eq32 : goal.returns-else-n-eq32
unfolding key_taken
returns-else-n-eq32 c = let n = c.args.n in sym (ap (λ (t : Bool). t || eqb n 64) (ne_eqb n 32 c.if-n-eq32.false))
