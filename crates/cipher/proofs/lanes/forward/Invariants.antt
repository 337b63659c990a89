-- `cipher::lanes::forward` meets its contract: before the turn at index i each of the blocks has gone through the rounds 1 to i.
-- Assumes nothing.
use Rattle.planes.specs.Lanes.{Lanewise}
use Rattle.cipher.specs.Cipher.{through_rounds}
use Rattle.cipher.proofs.lanes.forward.Given as goal

abbrev pub invariant-loop-key : goal.invariant-loop-key
invariant-loop-key l = Lanewise (through_rounds l.fn.keys.keys l.key-index) l.initial.b l.b
