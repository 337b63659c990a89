-- 02, order 1: records already stored keep their bytes and their meaning. What was sound is sound, with the same revision, and a record at a revision
-- up to 65,535 is written as before. Sheet number, mark, text length, lead and stored text are the same functions as before (`Record: num`, `mark`,
-- `len`, `lead_of`, `stored`), so of them there is nothing to prove.
-- Assumes nothing.
use mathlib.Core.Path.{◌≡◌, refl, sym, ap, ap₂, ◌∙◌}
use mathlib.Core.Bool.{Bool, true, false, cond, ◌&&◌}
use mathlib.Core.List.{List, [], ◌∷◌}
use Prim.Native.Nat.{ℕ, zero, suc, ◌+◌, ◌/◌, ◌%◌, ◌≤◌}
use native.Mathlib.Omega.{arith}
use borrow.Author.Tests.{ltb-true, leb-true, eqb-true, eqb-false, eq-eqb, ne_eqb}
use lib.Dec.{eqb, ltb, leb}
use lib.ListN.{take, drop, replicate}
use lib.Seq.{get_or-drop, drop-drop}
use Rattle.block.specs.Tab.{byte}
use Rattle.block.proofs.BoolLaws.{both}
use Rattle.records.specs.Record.{text_most, num, rev, mark, len, all_zero, sound, lead}
use Rattle.records.specs.Earlier as earlier
use Rattle.records.proofs.FieldLaws.{all, sound_free, sound_taken, used_last}

-- ---- zeros

zero_at : (s : List ℕ) → all_zero s ≡ true → (i : ℕ) → byte s i ≡ 0
unfolding all_zero
zero_at [] h i = refl
zero_at (x ∷ s) h zero = eqb-true x 0 (both (eqb x 0) (all_zero s) h).0
zero_at (x ∷ s) h (suc i) = zero_at s (both (eqb x 0) (all_zero s) h).1 i

-- of six zeros the last four are zeros
last_four : (t : List ℕ) → all_zero (take 6 t) ≡ true → all_zero (take 4 (drop 2 t)) ≡ true
unfolding all_zero
last_four [] h = refl
last_four (x ∷ []) h = refl
last_four (x ∷ y ∷ t) h = (both (eqb y 0) (all_zero (take 4 t)) (both (eqb x 0) (eqb y 0 && all_zero (take 4 t)) h).1).1

first_two : (t : List ℕ) → all_zero (take 6 t) ≡ true → (byte t 0 ≡ 0) × (byte t 1 ≡ 0)
first_two [] h = (refl, refl)
first_two (x ∷ []) h = (zero_at (x ∷ []) h 0, refl)
first_two (x ∷ y ∷ t) h = let z = zero_at (x ∷ y ∷ take 4 t) h in (z 0, z 1)

-- ---- a record

module _ (r : List ℕ) where
  -- a high half of zeros adds nothing
  low_half : byte r 10 ≡ 0 → byte r 11 ≡ 0 → rev r ≡ earlier.rev r
  unfolding rev earlier.rev
  low_half a b = omega arith

  free : num r ≡ 0 → earlier.sound r ≡ all_zero r
  unfolding earlier.sound
  free e = ap (λ (t : Bool). cond t (all_zero r) (earlier.sound_used r)) (eq-eqb (num r) 0 e)

  taken : (num r ≡ 0 → ⊥) → earlier.sound r ≡ earlier.sound_used r
  unfolding earlier.sound
  taken z = ap (λ (t : Bool). cond t (all_zero r) (earlier.sound_used r)) (ne_eqb (num r) 0 z)

  of_used : (num r ≡ 0 → ⊥) → earlier.sound_used r ≡ true → (rev r ≡ earlier.rev r) × (sound r ≡ true)
  unfolding earlier.sound_used
  of_used z h =
      let t : List ℕ = drop 10 r in
      let p = all (ltb 0 (earlier.rev r)) (leb (mark r) 2) (eqb (byte r 7) 0) (leb 16 (len r)) (leb (len r) text_most) (all_zero (take 6 t))
      (all_zero (drop (16 + len r) r)) h in
      let high = first_two t p.5 in
      let same : rev r ≡ earlier.rev r = low_half (sym (get_or-drop 10 r 0 0) ∙ high.0) (sym (get_or-drop 10 r 1 0) ∙ high.1) in
      let revised : 1 ≤ rev r = omega (arith, ltb-true 0 (earlier.rev r) p.0) in
      let spares : all_zero (take 4 (drop 12 r)) ≡ true = ap (λ (u : List ℕ). all_zero (take 4 u)) (sym (drop-drop 2 10 r)) ∙ last_four t p.5 in
      let marked : mark r ≤ 2 = leb-true (mark r) 2 p.1 in
      let spare : byte r 7 ≡ 0 = eqb-true (byte r 7) 0 p.2 in
      let least : 16 ≤ len r = leb-true 16 (len r) p.3 in
      let most : len r ≤ text_most = leb-true (len r) text_most p.4 in
      (same, sound_taken r z ∙ used_last r revised marked spare least most spares ∙ p.6)

  of_free : num r ≡ 0 → all_zero r ≡ true → (rev r ≡ earlier.rev r) × (sound r ≡ true)
  of_free e h = (low_half (zero_at r h 10) (zero_at r h 11), sound_free r e ∙ h)

  -- what was sound has the revision that it had, and is sound
  pub as_before : earlier.sound r ≡ true → (rev r ≡ earlier.rev r) × (sound r ≡ true)
  as_before h = by_number (eqb (num r) 0) refl
    where
      by_number : (t : Bool) → eqb (num r) 0 ≡ t → (rev r ≡ earlier.rev r) × (sound r ≡ true)
      by_number true e = let n : num r ≡ 0 = eqb-true (num r) 0 e in of_free n (sym (free n) ∙ h)
      by_number false e = let z : num r ≡ 0 → ⊥ = eqb-false (num r) 0 e in of_used z (sym (taken z) ∙ h)

-- a record at a revision up to 65,535 is written as before
pub lead_as_before : (n v m l : ℕ) → v ≤ 65535 → lead n v m l ≡ earlier.lead n v m l
unfolding lead earlier.lead
lead_as_before n v m l h =
    let high : v / 256 / 256 % 256 ≡ 0 = omega arith in
    let highest : v / 256 / 256 / 256 % 256 ≡ 0 = omega arith in
    ap₂ (λ (x y : ℕ).
    n % 256
    ∷ n / 256 % 256
    ∷ n / 256 / 256 % 256
    ∷ n / 256 / 256 / 256 % 256
    ∷ v % 256
    ∷ v / 256 % 256
    ∷ m
    ∷ 0
    ∷ l % 256
    ∷ l / 256 % 256
    ∷ x
    ∷ y
    ∷ replicate 4 0) high highest
