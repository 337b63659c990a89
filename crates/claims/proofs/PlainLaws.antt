-- The plain list by itself: where a sheet is found, what a place written anew changes, and what a call that is accepted says of the list.
-- Assumes nothing.
use mathlib.Core.Path.{◌≡◌, refl, sym, ap, ◌∙◌}
use mathlib.Core.Bool.{Bool, true, false}
use mathlib.Core.List.{List}
use Prim.Native.Nat.{ℕ, ◌<◌}
use native.Mathlib.Omega.{arith}
use borrow.Author.Tests.{eqb-true, eqb-false, eq-eqb, not-false}
use lib.Dec.{eqb}
use lib.ListN.{length, set, length-set}
use lib.Seq.{get_or-set_same, get_or-set_other}
use Rattle.std.specs.Prelude.{Ok}
use Rattle.slots.specs.Slots.{scan}
use Rattle.slots.proofs.FindLaws.{lowest_le, lowest_has, lowest_below, lowest_is, scan_same}
use Rattle.plans.proofs.PlanLaws.{passed, same_slot}
use Rattle.claims.specs.Plain.{Place, nothing, number_of, at, find_in, absent_in, add_in, revise_in, remove_in}

-- the test by which a place is found
abbrev numbered : List Place → ℕ → ℕ → Bool
numbered l n k = eqb (number_of (at l k)) n

module _ (l : List Place) (n : ℕ) where
  pub in_has : find_in l n < length l → number_of (at l (find_in l n)) ≡ n
  unfolding find_in
  in_has h = eqb-true (number_of (at l (find_in l n))) n (lowest_has (numbered l n) (length l) h)

  pub in_lowest : (j : ℕ) → j < find_in l n → number_of (at l j) ≡ n → ⊥
  unfolding find_in
  in_lowest j h = eqb-false (number_of (at l j)) n (lowest_below (numbered l n) (length l) j h)

  pub in_there : absent_in l n ≡ false → find_in l n < length l
  unfolding find_in
  in_there e =
      let h : find_in l n ≡ length l → ⊥ = eqb-false (find_in l n) (length l) e in
      omega (arith, lowest_le (numbered l n) (length l), h)

-- ---- a place written anew

module _ (l : List Place) (k : ℕ) (h : k < length l) (x : Place) where
  pub at_set : at (set l k x) k ≡ x
  at_set = get_or-set_same l k x nothing h

  pub at_other : (j : ℕ) → (j ≡ k → ⊥) → at (set l k x) j ≡ at l j
  at_other j e = get_or-set_other l k j x nothing e

  -- a sheet is found where it was, if the place has its number exactly where it had it
  pub found_as_before : (n : ℕ) → eqb (number_of x) n ≡ eqb (number_of (at l k)) n → find_in (set l k x) n ≡ find_in l n
  unfolding find_in
  found_as_before n q =
      ap (scan (numbered (set l k x) n) 0) (length-set l k x)
      ∙ scan_same (numbered (set l k x) n) (numbered l n) 0 (length l) (λ j a b. by_place j (eqb j k) refl)
    where
      by_place : (j : ℕ) (t : Bool) → eqb j k ≡ t → numbered (set l k x) n j ≡ numbered l n j
      by_place j true e =
          let f : j ≡ k = eqb-true j k e in
          ap (numbered (set l k x) n) f ∙ ap (λ (y : Place). eqb (number_of y) n) at_set ∙ q ∙ sym (ap (numbered l n) f)
      by_place j false e = ap (λ (y : Place). eqb (number_of y) n) (at_other j (eqb-false j k e))

  -- and at the place itself, if it has the number now and no lower place had it
  pub found_there : (n : ℕ) → number_of x ≡ n → ((j : ℕ) → j < k → numbered l n j ≡ false) → find_in (set l k x) n ≡ k
  unfolding find_in
  found_there n e f =
      lowest_is (numbered (set l k x) n) (length (set l k x)) k (omega (arith, length-set l k x))
      (eq-eqb (number_of (at (set l k x) k)) n (ap number_of at_set ∙ e))
      (λ j g. ap (λ (y : Place). eqb (number_of y) n) (at_other j (λ q. let z : ⊥ = omega arith in z)) ∙ f j g)

-- ---- what an accepted call says

-- an add at place k: no place has the number, and the place is free
pub record AddsAt (l : List Place) (n k : ℕ) : Type 0 where
  pub some : n ≡ 0 → ⊥
  pub new : find_in l n ≡ length l
  pub within : k < length l
  pub free : number_of (at l k) ≡ 0

pub adds_at : (l : List Place) (n : ℕ) (t : List ℕ) (k : ℕ) → add_in l n t ≡ Ok k → AddsAt l n k
unfolding add_in
adds_at l n t k e =
    let p1 = passed _ _ _ k e in
    let p2 = passed _ _ _ k p1.1 in
    let p3 = passed _ _ _ k p2.1 in
    let p4 = passed _ _ _ k p3.1 in
    let f : find_in l 0 ≡ k = same_slot _ _ p4.1 in
    let h : find_in l 0 < length l = in_there l 0 p4.0 in
    record {
      some = eqb-false n 0 p1.0;
      new = eqb-true (find_in l n) (length l) (not-false (absent_in l n) p3.0);
      within = omega arith;
      free = sym (ap (λ (j : ℕ). number_of (at l j)) f) ∙ in_has l 0 h;
    }

-- a revision or a removal at place k: it is where the sheet is found
pub record WorksAt (l : List Place) (n k : ℕ) : Type 0 where
  pub some : n ≡ 0 → ⊥
  pub within : k < length l
  pub place : find_in l n ≡ k
  pub number : number_of (at l k) ≡ n

works_at : (l : List Place) (n k : ℕ) → eqb n 0 ≡ false → absent_in l n ≡ false → find_in l n ≡ k → WorksAt l n k
works_at l n k z a f =
    let h : find_in l n < length l = in_there l n a in
    record { some = eqb-false n 0 z; within = omega arith; place = f; number = sym (ap (λ (j : ℕ). number_of (at l j)) f) ∙ in_has l n h }

pub revises_at : (l : List Place) (n v : ℕ) (t : List ℕ) (k : ℕ) → revise_in l n v t ≡ Ok k → WorksAt l n k
unfolding revise_in
revises_at l n v t k e =
    let p1 = passed _ _ _ k e in
    let p2 = passed _ _ _ k p1.1 in
    let p3 = passed _ _ _ k p2.1 in
    let p4 = passed _ _ _ k p3.1 in
    let p5 = passed _ _ _ k p4.1 in
    works_at l n k p1.0 p3.0 (same_slot _ _ p5.1)

pub removes_at : (l : List Place) (n k : ℕ) → remove_in l n ≡ Ok k → WorksAt l n k
unfolding remove_in
removes_at l n k e =
    let p1 = passed _ _ _ k e in
    let p2 = passed _ _ _ k p1.1 in
    works_at l n k p1.0 p2.0 (same_slot _ _ p2.1)
