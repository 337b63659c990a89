-- `cipher::forward` meets its contract: before the turn at index i the state has gone through the rounds 1 to i.
-- Assumes nothing.
use Rattle.std.proofs.Common.{◌≡◌}
use Rattle.cipher.specs.Cipher.{through_rounds}
use Rattle.cipher.proofs.forward.Given as goal

abbrev pub invariant-loop-key : goal.invariant-loop-key
invariant-loop-key l = l.s ≡ through_rounds l.fn.keys.keys l.key-index l.initial.s
