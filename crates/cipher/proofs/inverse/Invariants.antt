-- `cipher::inverse` meets its contract: what is left of the rounds, from j - 1 down, makes of the state what they all make of the first.
-- Assumes nothing.
use Rattle.std.proofs.Common.{◌≡◌, ◌-◌}
use Rattle.cipher.specs.Cipher.{inverse_from}
use Rattle.cipher.proofs.inverse.Given as goal

abbrev pub invariant-loop-j : goal.invariant-loop-j
invariant-loop-j l = inverse_from l.keys.keys (l.j - 1) l.s ≡ inverse_from l.keys.keys (l.keys.rounds - 1) l.initial.s
