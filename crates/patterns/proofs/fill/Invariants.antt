-- `patterns::fill` meets its contract: what is passed is the pattern.
-- Assumes nothing.
use Rattle.std.proofs.Common.{◌≡◌, ◌<◌, ℕ, slice_index}
use Rattle.patterns.specs.Pattern.{pattern_byte}
use Rattle.patterns.proofs.fill.Given as goal

abbrev pub invariant-loop-i : goal.invariant-loop-i
invariant-loop-i l = (k : ℕ) → k < l.i → slice_index l.s k ≡ pattern_byte l.by l.from k
