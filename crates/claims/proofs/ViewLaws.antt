-- A store seen as a plain list: its places are those of its slots, a sheet is found at the same place, and a slot written anew changes that
-- place alone.
-- Assumes nothing.
use mathlib.Core.Path.{◌≡◌, refl, sym, ap, ap₂, ◌∙◌}
use mathlib.Core.Bool.{Bool, true, false, cond}
use mathlib.Core.List.{List, ◌∷◌}
use Prim.Native.Nat.{ℕ, zero, suc, ◌+◌, ◌≤◌, ◌<◌}
use native.Mathlib.Nat.{not-suc-le-zero, le_of_suc-le-suc}
use native.Mathlib.Omega.{arith}
use borrow.Author.Tests.{eqb-true}
use lib.Dec.{eqb}
use lib.ListN.{length, set}
use Rattle.records.specs.Record.{record_size, num, rev}
use Rattle.slots.specs.Slots.{slots, slot, put, lowest, find}
use Rattle.slots.proofs.FindLaws.{has_num, scan_same, find_by_lem}
use Rattle.slots.proofs.PutLaws.{slots_put, slot_put, slot_other}
use Rattle.sheets.specs.Text.{text_of}
use Rattle.claims.specs.Plain.{Place, nothing, holding, number_of, at, find_in}
use Rattle.claims.specs.View.{place_of, places_from, plain}

-- ---- places by a rule

length_places : (f : ℕ → Place) (i n : ℕ) → length (places_from f i n) ≡ n
unfolding places_from
length_places f i zero = refl
length_places f i (suc n) = ap suc (length_places f (suc i) n)

at_places : (f : ℕ → Place) (i n k : ℕ) → k < n → at (places_from f i n) k ≡ f (i + k)
unfolding places_from
at_places f i zero k h = absurd (not-suc-le-zero h)
at_places f i (suc n) zero h = let e : i ≡ i + 0 = omega arith in ap f e
at_places f i (suc n) (suc k) h =
    let e : suc i + k ≡ i + suc k = omega arith in
    at_places f (suc i) n k (le_of_suc-le-suc h) ∙ ap f e

pub same_places : (f g : ℕ → Place) (i n : ℕ) → ((j : ℕ) → i ≤ j → j < i + n → f j ≡ g j) → places_from f i n ≡ places_from g i n
unfolding places_from
same_places f g i zero h = refl
same_places f g i (suc n) h =
    ap₂ (λ (x : Place) (l : List Place). x ∷ l) (h i (omega arith) (omega arith)) (same_places f g (suc i) n (λ j a b. h j (omega arith) (omega arith)))

-- one place by another rule
set_places : (f g : ℕ → Place) (i n k : ℕ) → k < n → ((j : ℕ) → (j ≡ i + k → ⊥) → f j ≡ g j) → places_from g i n ≡ set (places_from f i n) k (g (i + k))
unfolding places_from
set_places f g i zero k h e = absurd (not-suc-le-zero h)
set_places f g i (suc n) zero h e =
    let z : i ≡ i + 0 = omega arith in
    ap₂ (λ (x : Place) (l : List Place). x ∷ l) (ap g z) (same_places g f (suc i) n (λ j a b. sym (e j (λ q. let y : ⊥ = omega arith in y))))
set_places f g i (suc n) (suc k) h e =
    let m : suc i + k ≡ i + suc k = omega arith in
    ap₂ (λ (x : Place) (l : List Place). x ∷ l) (sym (e i (λ q. let y : ⊥ = omega arith in y)))
    (set_places f g (suc i) n k (le_of_suc-le-suc h) (λ j a. e j (λ q. a (q ∙ sym m))) ∙ ap (λ (j : ℕ). set (places_from f (suc i) n) k (g j)) m)

-- ---- the store as a list

number_place : (o w r : List ℕ) → number_of (place_of o w r) ≡ num r
unfolding place_of
number_place o w r = by_test (eqb (num r) 0) refl
  where
    by_test : (t : Bool) → eqb (num r) 0 ≡ t → number_of (cond t nothing (holding (num r) (rev r) (text_of o w r))) ≡ num r
    by_test true e = sym (eqb-true (num r) 0 e)
    by_test false e = refl

module _ (o w s : List ℕ) where
  pub length-plain : length (plain o w s) ≡ slots s
  unfolding plain
  length-plain = length_places (λ k. place_of o w (slot s k)) 0 (slots s)

  pub at_plain : (k : ℕ) → k < slots s → at (plain o w s) k ≡ place_of o w (slot s k)
  unfolding plain
  at_plain k h =
      let e : 0 + k ≡ k = omega arith in
      at_places (λ j. place_of o w (slot s j)) 0 (slots s) k h ∙ ap (λ (j : ℕ). place_of o w (slot s j)) e

  -- a sheet is found at the same place
  pub find_plain : (n : ℕ) → find_in (plain o w s) n ≡ find s n
  unfolding find_in
  find_plain n =
      ap (lowest (λ k. eqb (number_of (at (plain o w s) k)) n)) length-plain
      ∙ scan_same (λ k. eqb (number_of (at (plain o w s) k)) n) (has_num (slot s) n) 0 (slots s)
      (λ j a b. ap (λ (m : ℕ). eqb m n) (ap number_of (at_plain j (omega arith)) ∙ number_place o w (slot s j)))
      ∙ sym (find_by_lem (slots s) (slot s) n)

  -- a slot written anew changes its place alone
  pub put_plain : (k : ℕ) (x : List ℕ) → k < slots s → length x ≡ record_size → plain o w (put s k x) ≡ set (plain o w s) k (place_of o w x)
  unfolding plain
  put_plain k x h l =
      let c : slots (put s k x) ≡ slots s = slots_put s k h x l in
      let e : 0 + k ≡ k = omega arith in
      ap (places_from (λ j. place_of o w (slot (put s k x) j)) 0) c
      ∙ set_places (λ j. place_of o w (slot s j)) (λ j. place_of o w (slot (put s k x) j)) 0 (slots s) k h
      (λ j a. ap (place_of o w) (sym (slot_other s k h x l j (λ q. a (q ∙ sym e)))))
      ∙ ap (λ (j : ℕ). set (places_from (λ i. place_of o w (slot s i)) 0 (slots s)) k (place_of o w (slot (put s k x) j))) e
      ∙ ap (λ (r : List ℕ). set (places_from (λ i. place_of o w (slot s i)) 0 (slots s)) k (place_of o w r)) (slot_put s k h x l)
