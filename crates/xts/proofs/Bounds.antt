-- The numbers of 02's order 3 in plain inequalities: a call gets each exactly if they hold, however great the lengths are.
-- Assumes nothing.
use mathlib.Core.Path.{◌≡◌, refl, sym, ap, ap₂, ◌∙◌}
use mathlib.Core.Bool.{Bool, true, false, cond, not, ◌||◌, or-true}
use mathlib.Core.Logic.{◌↔◌, ◌⊎◌, inl, inr, ⊎_elim}
use Prim.Native.Nat.{ℕ, ◌+◌, ◌/◌, ◌%◌, ◌≤◌, ◌<◌}
use native.Mathlib.Omega.{arith}
use borrow.Author.Tests.{eqb-true, eqb-false, eq-eqb, ne_eqb, ltb-true, ltb-false, lt-ltb, le-ltb}
use lib.Dec.{eqb, ltb}
use Rattle.block.proofs.BoolLaws.{either, neither}
use Rattle.unit.specs.Unit.{alone}
use Rattle.unit.proofs.AloneLaws.{is_alone, not_alone}
use Rattle.xts.specs.Xts.{key_taken, bad_unit, number, block_number}

-- ---- the tests

-- a key is taken exactly if it is 32 or 64 bytes
pub key_good : (n : ℕ) → key_taken n ≡ true → (n ≡ 32) ⊎ (n ≡ 64)
unfolding key_taken
key_good n = either (eqb n 32) (eqb n 64) (λ e. inl (eqb-true n 32 e)) (λ e. inr (eqb-true n 64 e))

pub key_taken_lem : (n : ℕ) → (n ≡ 32) ⊎ (n ≡ 64) → key_taken n ≡ true
unfolding key_taken
key_taken_lem n =
    ⊎_elim (λ (h : n ≡ 32). ap (λ (t : Bool). t || eqb n 64) (eq-eqb n 32 h))
    (λ (h : n ≡ 64). ap (λ (t : Bool). eqb n 32 || t) (eq-eqb n 64 h) ∙ or-true (eqb n 32))

key_bad : (n : ℕ) → key_taken n ≡ false → (n ≡ 32 → ⊥) × (n ≡ 64 → ⊥)
unfolding key_taken
key_bad n e = let t = neither (eqb n 32) (eqb n 64) e in (eqb-false n 32 t.0, eqb-false n 64 t.1)

key_refused : (n : ℕ) → (n ≡ 32 → ⊥) × (n ≡ 64 → ⊥) → key_taken n ≡ false
unfolding key_taken
key_refused n h = ap₂ (λ (x y : Bool). x || y) (ne_eqb n 32 h.0) (ne_eqb n 64 h.1)

-- a unit is refused exactly if it is below 16 bytes or above 65,536
pub unit_refused : (n : ℕ) → (n < 16) ⊎ (65536 < n) → bad_unit n ≡ true
unfolding bad_unit
unit_refused n =
    ⊎_elim (λ (h : n < 16). ap (λ (t : Bool). t || ltb 65536 n) (lt-ltb n 16 h))
    (λ (h : 65536 < n). ap (λ (t : Bool). ltb n 16 || t) (lt-ltb 65536 n h) ∙ or-true (ltb n 16))

unit_bad : (n : ℕ) → bad_unit n ≡ true → (n < 16) ⊎ (65536 < n)
unfolding bad_unit
unit_bad n = either (ltb n 16) (ltb 65536 n) (λ e. inl (ltb-true n 16 e)) (λ e. inr (ltb-true 65536 n e))

pub unit_taken : (n : ℕ) → (16 ≤ n) × (n ≤ 65536) → bad_unit n ≡ false
unfolding bad_unit
unit_taken n h = ap₂ (λ (x y : Bool). x || y) (le-ltb n 16 h.0) (le-ltb 65536 n h.1)

unit_good : (n : ℕ) → bad_unit n ≡ false → (16 ≤ n) × (n ≤ 65536)
unfolding bad_unit
unit_good n e = let t = neither (ltb n 16) (ltb 65536 n) e in (ltb-false n 16 t.0, ltb-false 65536 n t.1)

-- ---- the number, by the tests of key and unit

abbrev pub picked : Bool → Bool → ℕ
picked a b = cond (not a) 15 (cond b 16 0)

at_15 : (a b : Bool) → picked a b ≡ 15 → a ≡ false
at_15 true true e = let z : ⊥ = omega arith in absurd z
at_15 true false e = let z : ⊥ = omega arith in absurd z
at_15 false b e = refl

at_16 : (a b : Bool) → picked a b ≡ 16 → (a ≡ true) × (b ≡ true)
at_16 true true e = (refl, refl)
at_16 true false e = let z : ⊥ = omega arith in absurd z
at_16 false b e = let z : ⊥ = omega arith in absurd z

at_0 : (a b : Bool) → picked a b ≡ 0 → (a ≡ true) × (b ≡ false)
at_0 true true e = let z : ⊥ = omega arith in absurd z
at_0 true false e = (refl, refl)
at_0 false b e = let z : ⊥ = omega arith in absurd z

-- of a key of k bytes and a unit of n
module _ (k n : ℕ) where
  pub by_tests : (a b : Bool) → key_taken k ≡ a → bad_unit n ≡ b → number k n ≡ picked a b
  unfolding number
  by_tests a b p q = ap₂ picked p q

  tests : number k n ≡ picked (key_taken k) (bad_unit n)
  tests = by_tests (key_taken k) (bad_unit n) refl refl

  pub number_15 : (number k n ≡ 15) ↔ ((k ≡ 32 → ⊥) × (k ≡ 64 → ⊥))
  number_15 = (
    λ e. key_bad k (at_15 (key_taken k) (bad_unit n) (sym tests ∙ e)),
    λ h. by_tests false (bad_unit n) (key_refused k h) refl,
  )

  pub number_16 : (number k n ≡ 16) ↔ (((k ≡ 32) ⊎ (k ≡ 64)) × ((n < 16) ⊎ (65536 < n)))
  number_16 = (
    λ e. let t = at_16 (key_taken k) (bad_unit n) (sym tests ∙ e) in (key_good k t.0, unit_bad n t.1),
    λ h. by_tests true true (key_taken_lem k h.0) (unit_refused n h.1),
  )

  pub number_0 : (number k n ≡ 0) ↔ (((k ≡ 32) ⊎ (k ≡ 64)) × ((16 ≤ n) × (n ≤ 65536)))
  number_0 = (
    λ e. let t = at_0 (key_taken k) (bad_unit n) (sym tests ∙ e) in (key_good k t.0, unit_good n t.1),
    λ h. by_tests true false (key_taken_lem k h.0) (unit_taken n h.1),
  )

  -- a key that passed, as the code's contracts have it
  pub taken_0 : number k n ≡ 0 → (key_taken k ≡ true) × (16 ≤ n)
  taken_0 e = let t = at_0 (key_taken k) (bad_unit n) (sym tests ∙ e) in (t.0, (unit_good n t.1).0)

  -- the refusals part by part, by which the tactics find each refused return of `tested`, whatever the numbers are that the code tests against
  pub number_by_key : key_taken k ≡ false → number k n ≡ 15
  number_by_key e = by_tests false (bad_unit n) e refl

  pub number_below : key_taken k ≡ true → n < 16 → number k n ≡ 16
  number_below e h = by_tests true true e (unit_refused n (inl h))

  pub number_above : key_taken k ≡ true → 65536 < n → number k n ≡ 16
  number_above e h = by_tests true true e (unit_refused n (inr h))

pub ruleset refusals = (number_by_key, number_below, number_above)

-- ---- the number of the call for block j: after these two tests, whether it can be read alone

abbrev picked_block : Bool → Bool → Bool → ℕ
picked_block a b c = cond (eqb (picked a b) 0) (cond c 0 17) (picked a b)

block_at_15 : (a b c : Bool) → picked_block a b c ≡ 15 → picked a b ≡ 15
block_at_15 true true c e = let z : ⊥ = omega arith in absurd z
block_at_15 true false true e = let z : ⊥ = omega arith in absurd z
block_at_15 true false false e = let z : ⊥ = omega arith in absurd z
block_at_15 false b c e = refl

block_at_16 : (a b c : Bool) → picked_block a b c ≡ 16 → picked a b ≡ 16
block_at_16 true true c e = refl
block_at_16 true false true e = let z : ⊥ = omega arith in absurd z
block_at_16 true false false e = let z : ⊥ = omega arith in absurd z
block_at_16 false b c e = let z : ⊥ = omega arith in absurd z

block_at_17 : (a b c : Bool) → picked_block a b c ≡ 17 → (picked a b ≡ 0) × (c ≡ false)
block_at_17 true true c e = let z : ⊥ = omega arith in absurd z
block_at_17 true false true e = let z : ⊥ = omega arith in absurd z
block_at_17 true false false e = (refl, refl)
block_at_17 false b c e = let z : ⊥ = omega arith in absurd z

block_at_0 : (a b c : Bool) → picked_block a b c ≡ 0 → (picked a b ≡ 0) × (c ≡ true)
block_at_0 true true c e = let z : ⊥ = omega arith in absurd z
block_at_0 true false true e = (refl, refl)
block_at_0 true false false e = let z : ⊥ = omega arith in absurd z
block_at_0 false b c e = let z : ⊥ = omega arith in absurd z

module _ (k n j : ℕ) where
  -- the number of the unit, and what the last test then makes of it
  pub block_by : (m : ℕ) (t : Bool) → number k n ≡ m → ltb j (alone n) ≡ t → block_number k n j ≡ cond (eqb m 0) (cond t 0 17) m
  unfolding block_number
  block_by m t p q = ap₂ (λ (x : ℕ) (y : Bool). cond (eqb x 0) (cond y 0 17) x) p q

  block_tests : block_number k n j ≡ picked_block (key_taken k) (bad_unit n) (ltb j (alone n))
  block_tests = block_by (picked (key_taken k) (bad_unit n)) (ltb j (alone n)) (tests k n) refl

  pub block_15 : (block_number k n j ≡ 15) ↔ ((k ≡ 32 → ⊥) × (k ≡ 64 → ⊥))
  block_15 = (
    λ e. (number_15 k n).0 (tests k n ∙ block_at_15 (key_taken k) (bad_unit n) (ltb j (alone n)) (sym block_tests ∙ e)),
    λ h. block_by 15 (ltb j (alone n)) ((number_15 k n).1 h) refl,
  )

  pub block_16 : (block_number k n j ≡ 16) ↔ (((k ≡ 32) ⊎ (k ≡ 64)) × ((n < 16) ⊎ (65536 < n)))
  block_16 = (
    λ e. (number_16 k n).0 (tests k n ∙ block_at_16 (key_taken k) (bad_unit n) (ltb j (alone n)) (sym block_tests ∙ e)),
    λ h. block_by 16 (ltb j (alone n)) ((number_16 k n).1 h) refl,
  )

  -- with f full blocks, f = n / 16: 17 unless block j is below f where n is a multiple of 16, and below f - 1 where it is not
  pub block_17 : (block_number k n j ≡ 17)
      ↔ (((k ≡ 32) ⊎ (k ≡ 64))
      × ((16 ≤ n) × (n ≤ 65536))
      × (((n % 16 ≡ 0) × (n / 16 ≤ j)) ⊎ ((0 < n % 16) × (n / 16 ≤ j + 1))))
  block_17 = (
    λ e.
        let t = block_at_17 (key_taken k) (bad_unit n) (ltb j (alone n)) (sym block_tests ∙ e) in
        let h = (number_0 k n).0 (tests k n ∙ t.0) in
        (h.0, h.1, (not_alone n j).0 (ltb-false j (alone n) t.1)),
    λ h. block_by 0 false ((number_0 k n).1 (h.0, h.1)) (le-ltb j (alone n) ((not_alone n j).1 h.2)),
  )

  pub block_0 : (block_number k n j ≡ 0)
      ↔ (((k ≡ 32) ⊎ (k ≡ 64))
      × ((16 ≤ n) × (n ≤ 65536))
      × (((n % 16 ≡ 0) × (j < n / 16)) ⊎ ((0 < n % 16) × (j + 1 < n / 16))))
  block_0 = (
    λ e.
        let t = block_at_0 (key_taken k) (bad_unit n) (ltb j (alone n)) (sym block_tests ∙ e) in
        let h = (number_0 k n).0 (tests k n ∙ t.0) in
        (h.0, h.1, (is_alone n j).0 (ltb-true j (alone n) t.1)),
    λ h. block_by 0 true ((number_0 k n).1 (h.0, h.1)) (lt-ltb j (alone n) ((is_alone n j).1 h.2)),
  )

  -- a call that passed, as the code and the theorems about it have it
  pub block_taken : block_number k n j ≡ 0 → (number k n ≡ 0) × (j < alone n)
  block_taken e =
      let t = block_at_0 (key_taken k) (bad_unit n) (ltb j (alone n)) (sym block_tests ∙ e) in
      (tests k n ∙ t.0, ltb-true j (alone n) t.1)
