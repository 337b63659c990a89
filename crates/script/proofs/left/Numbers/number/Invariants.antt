-- `script::left::Numbers::number` ends: each digit leaves less of the line.
-- Assumes nothing.
use Rattle.std.proofs.Common.{length}
use Rattle.script.proofs.left.Numbers.number.Given as goal

abbrev pub decreases-loop-self : goal.decreases-loop-self
decreases-loop-self l = length l.self.rest.now
