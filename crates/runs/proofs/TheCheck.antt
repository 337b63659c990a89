-- The exported check answers 0 exactly where the check of `claims` passes; and its counts of clear and old are 0 where no sheet is marked so.
-- Assumes nothing.
use mathlib.Core.Path.{◌≡◌, refl, ap, ap₂, ◌∙◌}
use mathlib.Core.Bool.{Bool, true, false, cond}
use mathlib.Core.List.{List}
use Prim.Native.Nat.{ℕ, zero, suc, ◌+◌, ◌<◌}
use native.Mathlib.Omega.{arith}
use lib.Dec.{ltb}
use Rattle.std.specs.Prelude.{Ok, Err}
use Rattle.numbers.specs.declared.Refusal.TheVariants.{StoreLength}
use Rattle.slots.specs.Slots.{slots, slot, tally, bad_size}
use Rattle.checking.specs.declared.Checked.TheVariants.{Fault}
use Rattle.checking.specs.Check.{first_fault, counted, marked, counts, check_answer}
use Rattle.claims.specs.Claims.{Passes, NoneLeft}
use Rattle.answers.specs.Sheets.{check_number, clear_or, old_or}
use Rattle.runs.specs.Runs.{Six, Checks, ChecksOut}

pub checks_pass : (s : List ℕ) → ChecksOut s → Passes s
unfolding check_answer
checks_pass s e = by_tests (bad_size s) (ltb (first_fault s) (slots s)) e.2.0
  where
    by_tests : (x y : Bool) → 0 ≡ check_number (cond x (Err StoreLength) (cond y (Ok (Fault (first_fault s))) (counts s)))
        → cond x (Err StoreLength) (cond y (Ok (Fault (first_fault s))) (counts s)) ≡ counts s
    by_tests true y q = let z : ⊥ = omega arith in absurd z
    by_tests false true q = let z : ⊥ = omega arith in absurd z
    by_tests false false q = refl

-- a count of slots none of which passes the test
tally_none : (p : ℕ → Bool) (n : ℕ) → ((k : ℕ) → k < n → p k ≡ false) → tally p n ≡ 0
unfolding tally
tally_none p zero h = refl
tally_none p (suc n) h = ap₂ (λ (i : ℕ) (t : Bool). i + cond t 1 0) (tally_none p n (λ k g. h k (omega arith))) (h n (omega arith))

none_counted : (m : ℕ) (s : List ℕ) → ((k : ℕ) → k < slots s → marked m (slot s k) ≡ false) → counted (marked m) s ≡ 0
unfolding counted
none_counted m s h = tally_none (λ k. marked m (slot s k)) (slots s) h

module _ (s : List ℕ) (ok : Passes s) (b : Six) (n : ℕ) (a : Six) (q : Checks s b n a) where
  pub passes_checks : n ≡ 0
  passes_checks = q.0 ∙ ap check_number ok

  pub none_left_counted : NoneLeft s → (a.clear ≡ 0) × (a.old ≡ 0)
  none_left_counted e =
      (q.4 ∙ ap (clear_or b.clear) ok ∙ none_counted 0 s (λ k h. (e k h).0), q.5 ∙ ap (old_or b.old) ok ∙ none_counted 1 s (λ k h. (e k h).1))
