-- `block::copy` meets its contract: after i turns i bytes of the text stand in their place.
-- Assumes nothing.
use Rattle.std.proofs.Common.{◌≡◌}
use lib.Seq.{paste}
use Rattle.block.proofs.copy.Given as goal

abbrev pub invariant-loop-i : goal.invariant-loop-i
invariant-loop-i l = l.s ≡ paste l.initial.s l.at l.text l.i
