-- Which blocks after the first begin a new mask: every 128th, that is 129, 257, 385 and so on. The table of edges shows the first of them alone.
-- Assumes nothing.
use Rattle.std.specs.Prelude.{◌≡◌, true, ◌↔◌, ℕ, ◌+◌, ◌-◌, ◌*◌, ◌/◌, ◌%◌, ◌≤◌}
use Rattle.std.proofs.Common.{arith, eqb-true, eq-eqb}
use Rattle.mode.specs.Wide.{begins}

pub begins_exactly : (i : ℕ) → 2 ≤ i → (begins i ≡ true) ↔ ((q : ℕ) × (1 ≤ q) × (i ≡ 128 * q + 1))
begins_exactly i h = (
  λ (b : begins i ≡ true). let e : (i - 1) % 128 ≡ 0 = eqb-true ((i - 1) % 128) 0 b in ((i - 1) / 128, omega arith, omega arith),
  λ (k : (q : ℕ) × (1 ≤ q) × (i ≡ 128 * q + 1)). eq-eqb ((i - 1) % 128) 0 (omega arith),
)
