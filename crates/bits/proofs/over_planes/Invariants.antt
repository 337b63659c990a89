-- `bits::over_planes` meets its contract: after t turns the planes below t are done, and the others as they came.
-- Assumes nothing.
use mathlib.Core.Path.{◌≡◌}
use Prim.Native.Nat.{ℕ, ◌≤◌, ◌<◌}
use Rattle.bits.specs.Planes.{planes}
use Rattle.bits.proofs.over_planes.Given as goal

abbrev pub invariant-loop-t : goal.invariant-loop-t
invariant-loop-t g l = record {
  done : (u : ℕ) → u < l.t → goal.F-post g l.f (planes l.initial.group u) (planes l.group u);
  left : (u : ℕ) → l.t ≤ u → u < 4 → planes l.group u ≡ planes l.initial.group u;
}
