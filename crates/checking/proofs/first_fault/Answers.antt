-- `checking::first_fault` meets its contract: the first slot that is faulty is the lowest.
-- Assumes nothing.
use Rattle.std.proofs.Common.{rules, ◌≡◌, ℕ, true, false}
use Rattle.std.proofs.lemmas.Iterator.{first_from_Range}
use Rattle.checking.specs.Check.{faulty}
use Rattle.checking.proofs.CheckLaws.{fault_from}
use Rattle.checking.proofs.first_fault.Goals as goal

pub returns : goal.returns
returns c =
    let s = c.args.store.now in
    fault_from s c.count.result c.count.ensures c.find.result
    (first_from_Range _ _ _ c.find.result (λ (k : ℕ). faulty s k ≡ true) (λ (k : ℕ). faulty s k ≡ false) c.find.ensures.ran
    (λ x q k. search rules) (λ x q k. search rules))
