-- Laws of check: the tests on a slot, the counts of the records that pass a test, and each way out of the call.
-- Assumes nothing.
use mathlib.Core.Path.{◌≡◌, refl, sym, ap, ap₂, ◌∙◌}
use mathlib.Core.Bool.{Bool, true, false, cond, not, ◌&&◌, ◌||◌}
use mathlib.Core.List.{List}
use Prim.Native.Nat.{ℕ, ◌+◌, ◌-◌, ◌≤◌, ◌<◌}
use native.Mathlib.Omega.{arith}
use borrow.Author.Tests.{lt-ltb, le-ltb, eq-eqb, ne_eqb}
use lib.Dec.{eqb, ltb}
use lib.ListN.{length}
use Rattle.std.proofs.Common.{Option, Some, None, Result, Ok, Err}
use Rattle.std.specs.Option.{MatchOption}
use Rattle.std.specs.List.{filter, count_by}
use Rattle.std.proofs.lemmas.List.Sums.{length-filter}
use Rattle.block.specs.Tab.{tab}
use Rattle.block.proofs.BoolLaws.{clash}
use Rattle.numbers.specs.declared.Refusal.{Refusal}
use Rattle.numbers.specs.declared.Refusal.TheVariants.{StoreLength}
use Rattle.records.specs.Record.{num, sound}
use Rattle.slots.specs.Slots.{slots, slot, lowest, find, bad_size}
use Rattle.slots.proofs.FindLaws.{tally_le, tally_not, lowest_has, lowest_is, place_some, place_none, some_place, none_place, count_tab}
use Rattle.checking.specs.declared.Checked.{Checked}
use Rattle.checking.specs.declared.Checked.TheVariants as checked
use Rattle.checking.specs.Check.{faulty, first_fault, fault, used, counted, counts, check_answer}

-- ---- the tests on a slot

module _ (s : List ℕ) (k : ℕ) where
  pub faulty_unsound : sound (slot s k) ≡ false → faulty s k ≡ true
  unfolding faulty
  faulty_unsound e = ap (λ (t : Bool). not t || (not (eqb (num (slot s k)) 0) && ltb (find s (num (slot s k))) k)) e

  pub faulty_free : sound (slot s k) ≡ true → num (slot s k) ≡ 0 → faulty s k ≡ false
  unfolding faulty
  faulty_free e h = ap₂ (λ (t u : Bool). not t || (not u && ltb (find s (num (slot s k))) k)) e (eq-eqb (num (slot s k)) 0 h)

  pub faulty_used : sound (slot s k) ≡ true → (num (slot s k) ≡ 0 → ⊥) → faulty s k ≡ ltb (find s (num (slot s k))) k
  unfolding faulty
  faulty_used e h = ap₂ (λ (t u : Bool). not t || (not u && ltb (find s (num (slot s k))) k)) e (ne_eqb (num (slot s k)) 0 h)

module _ (r : List ℕ) where
  pub used_not : num r ≡ 0 → used r ≡ false
  used_not h = ap not (eq-eqb (num r) 0 h)

  pub used_so : (num r ≡ 0 → ⊥) → used r ≡ true
  used_so h = ap not (ne_eqb (num r) 0 h)

-- whether the place found is below k, where there are more than k places
pub lower_than : (m n k : ℕ) (o : Option ℕ) (b : Bool) (P : ℕ → Type 0) → o ≡ cond (ltb m n) (Some m) None → k < n
    → ((x : ℕ) → P x → b ≡ ltb x k) → MatchOption o (b ≡ false) P → b ≡ ltb m k
lower_than m n k None b P e h f q = let l : n ≤ m = none_place m n (sym e) in q ∙ sym (le-ltb m k (omega arith))
lower_than m n k (Some x) b P e h f q = f x q ∙ ap (λ (i : ℕ). ltb i k) (some_place m n x (sym e)).0

-- ---- the lowest faulty slot

module _ (s : List ℕ) where
  pub fault_some : (k : ℕ) → fault s ≡ Some k → (k ≡ first_fault s) × (k < slots s)
  fault_some k e = some_place (first_fault s) (slots s) k e

  pub fault_none : fault s ≡ None → slots s ≤ first_fault s
  fault_none e = none_place (first_fault s) (slots s) e

  -- what a search over the slots below c found
  pub fault_from : (c : ℕ) → c ≡ slots s → (r : Option ℕ)
      → MatchOption r ((k : ℕ) → 0 ≤ k → k < c → faulty s k ≡ false)
      (λ i. (0 ≤ i) × (i < c) × (faulty s i ≡ true) × ((k : ℕ) → 0 ≤ k → k < i → faulty s k ≡ false))
      → r ≡ fault s
  unfolding first_fault
  fault_from c e None h =
      let t : ℕ → Bool = faulty s in
      let m : ℕ = lowest t (slots s) in
      let out : m < slots s → ⊥ = λ l. clash (t m) (lowest_has t (slots s) l) (h m (omega arith) (omega arith)) in
      sym (place_none m (slots s) (omega (arith, out)))
  fault_from c e (Some i) h =
      let t : ℕ → Bool = faulty s in
      let l : i < slots s = omega (arith, h.1) in
      let m : lowest t (slots s) ≡ i = lowest_is t (slots s) i l h.2 (λ j q. h.3 j (omega arith) q) in
      ap (λ (k : ℕ). Some k) (sym m) ∙ sym (place_some (lowest t (slots s)) (slots s) (omega arith))

-- ---- counts

-- whether slot k passes a test on its record
abbrev pub passing : (List ℕ → Bool) → List ℕ → ℕ → Bool
passing p s k = p (slot s k)

module _ (p : List ℕ → Bool) (s : List ℕ) where
  -- the records of the store that pass the test
  pub counted_of : (rs : List (List ℕ)) → rs ≡ tab (slots s) (slot s) → length (filter p rs) ≡ counted p s
  unfolding counted
  counted_of rs e = length-filter p rs ∙ ap (count_by p) e ∙ count_tab p (slots s) (slot s)

  pub counted_le : counted p s ≤ slots s
  unfolding counted
  counted_le = tally_le (passing p s) (slots s)

  pub counted_not : counted p s + counted (λ r. not (p r)) s ≡ slots s
  unfolding counted
  counted_not = tally_not (passing p s) (slots s)

-- ---- the ways out of check

module _ (s : List ℕ) where
  -- the answer once the two tests are known
  abbrev answer : Bool → Bool → Result Checked Refusal
  answer a b = cond a (Err StoreLength) (cond b (Ok (checked.Fault (first_fault s))) (counts s))

  from_tests : (a b : Bool) → bad_size s ≡ a → ltb (first_fault s) (slots s) ≡ b → check_answer s ≡ answer a b
  unfolding check_answer
  from_tests a b p q = ap₂ answer p q

  pub check_refused : bad_size s ≡ true → Err StoreLength ≡ check_answer s
  check_refused e = sym (from_tests true (ltb (first_fault s) (slots s)) e refl)

  pub check_fault : bad_size s ≡ false → (k : ℕ) → fault s ≡ Some k → Ok (checked.Fault k) ≡ check_answer s
  check_fault e k f =
      let t = fault_some s k f in
      let l : first_fault s < slots s = omega (arith, t) in
      ap (λ (i : ℕ). Ok (checked.Fault i)) t.0 ∙ sym (from_tests false true e (lt-ltb (first_fault s) (slots s) l))

  pub check_counts : bad_size s ≡ false → fault s ≡ None → counts s ≡ check_answer s
  check_counts e f = sym (from_tests false false e (le-ltb (first_fault s) (slots s) (fault_none s f)))

  pub free_count : (c n : ℕ) → c ≡ slots s → n ≡ counted used s → c - n ≡ counted (λ r. not (used r)) s
  free_count c n e p = omega (arith, counted_not used s)
