-- How many blocks can be read alone, and the bytes after them: none, or 17 to 31.
-- Assumes nothing.
use mathlib.Core.Path.{◌≡◌, refl, ap}
use mathlib.Core.Bool.{Bool, true, false, cond}
use mathlib.Core.Logic.{◌↔◌, ◌⊎◌, inl, inr, ⊎_elim}
use Prim.Native.Nat.{ℕ, ◌+◌, ◌-◌, ◌*◌, ◌/◌, ◌%◌, ◌≤◌, ◌<◌}
use native.Mathlib.Omega.{arith}
use borrow.Author.Tests.{eqb-true, eqb-false, eq-eqb, ne_eqb}
use lib.Dec.{eqb}
use Rattle.unit.specs.Unit.{alone}

pub alone_whole : (n : ℕ) → n % 16 ≡ 0 → alone n ≡ n / 16
unfolding alone
alone_whole n h = ap (λ (t : Bool). cond t (n / 16) (n / 16 - 1)) (eq-eqb (n % 16) 0 h)

pub alone_odd : (n : ℕ) → (n % 16 ≡ 0 → ⊥) → alone n ≡ n / 16 - 1
unfolding alone
alone_odd n h = ap (λ (t : Bool). cond t (n / 16) (n / 16 - 1)) (ne_eqb (n % 16) 0 h)

-- what is left after them
pub record Left (n : ℕ) : Type 0 where
  pub within : 16 * alone n ≤ n
  pub left : (n - 16 * alone n ≡ 0) ⊎ ((16 < n - 16 * alone n) × (n - 16 * alone n < 32))

pub left_of : (n : ℕ) → 16 ≤ n → Left n
left_of n h = by (eqb (n % 16) 0) refl
  where
    by : (t : Bool) → eqb (n % 16) 0 ≡ t → Left n
    by true e =
        let z : n % 16 ≡ 0 = eqb-true (n % 16) 0 e in
        let a : alone n ≡ n / 16 = alone_whole n z in
        record { within = omega arith; left = inl (omega arith) }
    by false e =
        let z : n % 16 ≡ 0 → ⊥ = eqb-false (n % 16) 0 e in
        let a : alone n ≡ n / 16 - 1 = alone_odd n z in
        record { within = omega arith; left = inr (omega arith) }

-- with f full blocks, block k can be read alone if k < f where the length is a multiple of 16, else if k < f - 1
pub is_alone : (n k : ℕ) → (k < alone n) ↔ (((n % 16 ≡ 0) × (k < n / 16)) ⊎ ((0 < n % 16) × (k + 1 < n / 16)))
is_alone n k = (
  by (eqb (n % 16) 0) refl,
  ⊎_elim (λ (h : (n % 16 ≡ 0) × (k < n / 16)). omega (arith, alone_whole n h.0))
      (λ (h : (0 < n % 16) × (k + 1 < n / 16)). omega (arith, alone_odd n (λ e. omega arith))),
)
  where
    by : (t : Bool) → eqb (n % 16) 0 ≡ t → k < alone n → ((n % 16 ≡ 0) × (k < n / 16)) ⊎ ((0 < n % 16) × (k + 1 < n / 16))
    by true e h = let z : n % 16 ≡ 0 = eqb-true (n % 16) 0 e in inl (omega (arith, alone_whole n z))
    by false e h = let z : n % 16 ≡ 0 → ⊥ = eqb-false (n % 16) 0 e in inr (omega (arith, alone_odd n z))

-- and else not
pub not_alone : (n k : ℕ) → (alone n ≤ k) ↔ (((n % 16 ≡ 0) × (n / 16 ≤ k)) ⊎ ((0 < n % 16) × (n / 16 ≤ k + 1)))
not_alone n k = (
  by (eqb (n % 16) 0) refl,
  ⊎_elim (λ (h : (n % 16 ≡ 0) × (n / 16 ≤ k)). omega (arith, alone_whole n h.0))
      (λ (h : (0 < n % 16) × (n / 16 ≤ k + 1)). omega (arith, alone_odd n (λ e. omega arith))),
)
  where
    by : (t : Bool) → eqb (n % 16) 0 ≡ t → alone n ≤ k → ((n % 16 ≡ 0) × (n / 16 ≤ k)) ⊎ ((0 < n % 16) × (n / 16 ≤ k + 1))
    by true e h = let z : n % 16 ≡ 0 = eqb-true (n % 16) 0 e in inl (omega (arith, alone_whole n z))
    by false e h = let z : n % 16 ≡ 0 → ⊥ = eqb-false (n % 16) 0 e in inr (omega (arith, alone_odd n z))
