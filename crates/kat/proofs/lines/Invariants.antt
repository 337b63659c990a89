-- `kat::lines` ends: each line takes it further into the text.
use Rattle.std.proofs.Common.{length}
use Rattle.kat.proofs.lines.Given as goal

abbrev pub decreases-loop-letter : goal.decreases-loop-letter
decreases-loop-letter g l = length l.text.rest.now
