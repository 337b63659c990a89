-- A removal that had run and is made again, while nothing else came between: it is refused with 7. The slot that had the number is empty, and in a
-- store that passes the check no other slot had it. In one that does not, a number may stand in two slots, and then the second removal is accepted.
-- Assumes nothing.
use mathlib.Core.Path.{◌≡◌, refl, sym, ap, ◌∙◌}
use mathlib.Core.Bool.{Bool, true, false}
use mathlib.Core.List.{List}
use Prim.Native.Nat.{ℕ, ◌<◌}
use native.Mathlib.Omega.{arith}
use borrow.Author.Tests.{eqb-true, eqb-false}
use lib.Dec.{eqb}
use Rattle.std.specs.Prelude.{Ok, Err}
use Rattle.numbers.specs.declared.Refusal.TheVariants.{NoSheet}
use Rattle.records.specs.Record.{num}
use Rattle.slots.specs.Slots.{slots, slot, put, emptied, bad_size, find}
use Rattle.slots.proofs.FindLaws.{find_le, find_has, find_lowest}
use Rattle.slots.proofs.PutLaws.{slot_other, num_emptied, length-emptied, slots_put, slot_put, size_put}
use Rattle.plans.specs.Plans.{remove_plan, Plan}
use Rattle.plans.proofs.PlanLaws.{remove_says, remove_absent, remove_found, remove_sized}
use Rattle.store.specs.Calls.{remove_answer, remove_store}
use Rattle.claims.specs.Claims.{Passes, removed_again, RemovedOnce, RightSize}
use Rattle.claims.proofs.Checking.{Apart, passes_apart}
use Rattle.claims.proofs.TwoClear.{two_of, num_clear, slots_two, size_two, bytes_two, first_of_two, second_of_two}

-- no slot has the number once the one that had it is empty
nowhere : (s : List ℕ) → Apart s → (n k : ℕ) → (n ≡ 0 → ⊥) → k < slots s → num (slot s k) ≡ n → find (put s k emptied) n ≡ slots (put s k emptied)
nowhere s a n k z h e =
    let s' : List ℕ = put s k emptied in
    let same : slots s' ≡ slots s = slots_put s k h emptied length-emptied in
    let found : find s' n < slots s' → ⊥ = λ q. by_slot (find s' n) (omega arith) (find_has (slots s') (slot s') n q) (eqb (find s' n) k) refl in
    omega (arith, find_le (slots s') (slot s') n, found)
  where
    by_slot : (j : ℕ) → j < slots s → num (slot (put s k emptied) j) ≡ n → (t : Bool) → eqb j k ≡ t → ⊥
    by_slot j hj q true c =
        let i : j ≡ k = eqb-true j k c in
        z (sym q ∙ ap (λ (m : ℕ). num (slot (put s k emptied) m)) i ∙ ap num (slot_put s k h emptied length-emptied) ∙ num_emptied)
    by_slot j hj q false c =
        let away : j ≡ k → ⊥ = eqb-false j k c in
        let d : num (slot s j) ≡ n = sym (ap num (slot_other s k h emptied length-emptied j away)) ∙ q in
        away (a j k hj h (λ y. z (sym d ∙ y)) (d ∙ sym e))

again : (s : List ℕ) → Apart s → (n k : ℕ) → remove_plan s n ≡ Ok k → remove_plan (put s k emptied) n ≡ Err NoSheet
again s a n k e =
    let c = remove_says s n k e in
    let f = c.1 in
    remove_absent (put s k emptied) (size_put s k f.within emptied length-emptied ∙ c.0) n f.some
    (nowhere s a n k f.some f.within f.number)

pub remove_again : RemovedOnce Passes
remove_again s bs ok n e = by_plan (remove_plan s n) refl e
  where
    by_plan : (p : Plan) → remove_plan s n ≡ p → remove_answer p ≡ Ok tt → remove_answer (remove_plan (remove_store s p) n) ≡ Err NoSheet
    by_plan (Err x) q c = let z : ◌≡◌ {A = ℕ} 0 1 = cc in let y : ⊥ = omega arith in absurd y
    by_plan (Ok k) q c = ap remove_answer (again s (passes_apart s bs ok) n k q)

-- ---- a number that stands in two slots, as in no store that passes the check: the second removal is accepted too

-- it is found while any slot has it
standing : (s : List ℕ) (n k : ℕ) → k < slots s → num (slot s k) ≡ n → find s n < slots s
standing s n k h e =
    let away : k < find s n → ⊥ = λ q. find_lowest (slots s) (slot s) n k q e in
    omega (arith, away)

taken : (s : List ℕ) → bad_size s ≡ false → (n : ℕ) → (n ≡ 0 → ⊥) → (k : ℕ) → k < slots s → num (slot s k) ≡ n → remove_plan s n ≡ Ok (find s n)
taken s size n some k h e = remove_sized s n size ∙ remove_found (slots s) (slot s) n some (standing s n k h e)

module _ (s : List ℕ) (size : bad_size s ≡ false) (n : ℕ) (some : n ≡ 0 → ⊥) (j k : ℕ) (apart : j ≡ k → ⊥)
    (hj : j < slots s) (hk : k < slots s) (ej : num (slot s j) ≡ n) (ek : num (slot s k) ≡ n) where
  -- one that is left once the lowest is empty
  left : (m : ℕ) → m < slots s → num (slot s m) ≡ n → (m ≡ find s n → ⊥) → removed_again s n ≡ Ok tt
  left m h e other =
      let f : ℕ = find s n in
      let hf : f < slots s = standing s n j hj ej in
      let s' : List ℕ = put s f emptied in
      let same : slots s' ≡ slots s = slots_put s f hf emptied length-emptied in
      let still : num (slot s' m) ≡ n = ap num (slot_other s f hf emptied length-emptied m other) ∙ e in
      ap (λ (p : Plan). remove_answer (remove_plan (remove_store s p) n)) (taken s size n some j hj ej)
      ∙ ap remove_answer (taken s' (size_put s f hf emptied length-emptied ∙ size) n some m (omega arith) still)

  pub accepted_again : removed_again s n ≡ Ok tt
  accepted_again = by_slot (eqb j (find s n)) refl
    where
      by_slot : (t : Bool) → eqb j (find s n) ≡ t → removed_again s n ≡ Ok tt
      by_slot true c = left k hk ek (λ q. apart (eqb-true j (find s n) c ∙ sym q))
      by_slot false c = left j hj ej (eqb-false j (find s n) c)

-- ---- two slots with sheet 1: a store of the right size, which removes it twice

abbrev twice : List ℕ
twice = two_of 1 1

pub twice_right_size : RightSize twice
twice_right_size = size_two 1 1

first_number : num (slot twice 0) ≡ 1
first_number = ap num (first_of_two 1 1) ∙ num_clear 1 (omega arith)

second_number : num (slot twice 1) ≡ 1
second_number = ap num (second_of_two 1 1) ∙ num_clear 1 (omega arith)

pub twice_removed : (remove_answer (remove_plan twice 1) ≡ Ok tt) × (removed_again twice 1 ≡ Ok tt)
twice_removed =
    let some : ◌≡◌ {A = ℕ} 1 0 → ⊥ = λ q. let y : ⊥ = omega arith in y in
    let two : slots twice ≡ 2 = slots_two 1 1 in (
      ap remove_answer (taken twice (size_two 1 1) 1 some 0 (omega arith) first_number),
      accepted_again twice (size_two 1 1) 1 some 0 1 (λ q. let y : ⊥ = omega arith in y) (omega arith) (omega arith) first_number second_number,
    )

-- so it must be a store that passes the check
pub any_store_shut_out : RemovedOnce RightSize → ⊥
any_store_shut_out claim =
    let e : removed_again twice 1 ≡ Err NoSheet = claim twice (bytes_two 1 1) twice_right_size 1 twice_removed.0 in
    let d : removed_again twice 1 ≡ Ok tt = twice_removed.1 in
    let z : ◌≡◌ {A = ℕ} 0 1 = cc in
    let y : ⊥ = omega arith in
    y
