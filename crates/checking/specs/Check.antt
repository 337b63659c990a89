-- 01, the store: what check answers, for every input, and that this determines it. The store is s.
-- Assumes nothing.
use Rattle.std.specs.Prelude.{Bool, cond, not, ◌&&◌, ◌||◌, ◌≡◌, List, Option, Some, None, Result, Ok, Err, ℕ, eqb, ltb}
use Rattle.std.proofs.Common.{sym, ◌∙◌}
use Rattle.numbers.specs.declared.Refusal.{Refusal}
use Rattle.numbers.specs.declared.Refusal.TheVariants.{StoreLength}
use Rattle.records.specs.Record.{num, mark, sound}
use Rattle.slots.specs.Slots.{slots, slot, lowest, tally, find, bad_size}
use Rattle.checking.specs.declared.Counts.{Counts}
use Rattle.checking.specs.declared.Checked.{Checked}
use Rattle.checking.specs.declared.Checked.TheVariants as checked

-- a faulty slot: unsound, or repeating a lower slot's number other than 0
unfoldable pub faulty : List ℕ → ℕ → Bool
faulty s k = not (sound (slot s k)) || (not (eqb (num (slot s k)) 0) && ltb (find s (num (slot s k))) k)

-- the lowest faulty slot, or the count of slots
unfoldable pub first_fault : List ℕ → ℕ
first_fault s = lowest (faulty s) (slots s)

-- the same, and none where no slot is faulty
abbrev pub fault : List ℕ → Option ℕ
fault s = let k : ℕ = first_fault s in cond (ltb k (slots s)) (Some k) None

-- used, and used with mark m
abbrev pub used : List ℕ → Bool
used r = not (eqb (num r) 0)

abbrev pub marked : ℕ → List ℕ → Bool
marked m r = used r && eqb (mark r) m

-- how many slots pass a test on their record
unfoldable pub counted : (List ℕ → Bool) → List ℕ → ℕ
counted p s = tally (λ k. p (slot s k)) (slots s)

-- the five counts: used, free, and used with each mark
abbrev pub five : List ℕ → Counts
five s =
    record {
      used = counted used s;
      free = counted (λ r. not (used r)) s;
      clear = counted (marked 0) s;
      old = counted (marked 1) s;
      new = counted (marked 2) s;
    }

abbrev pub counts : List ℕ → Result Checked Refusal
counts s = Ok (checked.Counts (five s))

unfoldable pub check_answer : List ℕ → Result Checked Refusal
check_answer s = cond (bad_size s) (Err StoreLength) (cond (ltb (first_fault s) (slots s)) (Ok (checked.Fault (first_fault s))) (counts s))

-- what check promises
abbrev pub CheckCalled : List ℕ → Result Checked Refusal → Type 0
CheckCalled s a = a ≡ check_answer s

pub check_determined : (s : List ℕ) (a a' : Result Checked Refusal) → CheckCalled s a → CheckCalled s a' → a ≡ a'
check_determined s a a' p q = p ∙ sym q
