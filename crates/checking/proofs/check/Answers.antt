-- `checking::check` meets its contract: each return follows from the tests before it, in their order.
-- Assumes nothing.
use Rattle.std.proofs.Common.{◌≡◌, ℕ, List, ◌≤◌, false, Ok, sym, ap, ◌∙◌, arith}
use Rattle.slots.specs.Slots.{slots, bad_size}
use Rattle.slots.proofs.SlotLaws.{bad_size_false}
use Rattle.checking.specs.declared.Counts.{Counts}
use Rattle.checking.specs.declared.Checked.TheVariants as checked
use Rattle.checking.proofs.CheckLaws.{fault_some, check_refused, check_fault, check_counts}
use Rattle.checking.proofs.check.Goals as goal
use Rattle.checking.proofs.check.Goals.{Else-bad_size}

pub returns-then-bad_size : goal.returns-then-bad_size
returns-then-bad_size c = check_refused c.args.store.now (sym c.bad_size.ensures ∙ c.if-bad_size.true)

-- past the first test the size is taken
sized : (c : Else-bad_size) → bad_size c.args.store.now ≡ false
sized c = sym c.bad_size.ensures ∙ c.if-bad_size.false

-- so that every count fits into 32 bits
few : (c : Else-bad_size) → slots c.args.store.now ≤ 1024
few c = (bad_size_false c.args.store.now (sized c)).1

pub overflow_cast-result : goal.overflow_cast-result
overflow_cast-result c =
    let s : List ℕ = c.args.store.now in
    omega (arith, few (goal.at.overflow_cast-result c).Else-bad_size, fault_some s c.in-Some.k (sym c.in-Some.ensures))

pub five_counts-requires : goal.five_counts-requires
five_counts-requires c = few (goal.at.five_counts-requires c).Else-bad_size

pub returns-in-Some : goal.returns-in-Some
returns-in-Some c =
    check_fault c.args.store.now (sized (goal.at.returns-in-Some c).Else-bad_size) c.in-Some.k (sym c.in-Some.ensures)

pub returns-in-None : goal.returns-in-None
returns-in-None c =
    let s : List ℕ = c.args.store.now in
    ap (λ (x : Counts). Ok (checked.Counts x)) c.five_counts.ensures
    ∙ check_counts s (sized (goal.at.returns-in-None c).Else-bad_size) (sym c.in-None.ensures)
