-- `cipher::lanes::inverse` meets its contract: of each of the blocks, what is left of the rounds makes what they all make of the first.
-- Assumes nothing.
use Rattle.std.proofs.Common.{◌≡◌, ℕ, ◌-◌, ◌<◌}
use Rattle.planes.specs.Lanes.{lane}
use Rattle.cipher.specs.Cipher.{inverse_from}
use Rattle.cipher.proofs.lanes.inverse.Given as goal

abbrev pub invariant-loop-j : goal.invariant-loop-j
invariant-loop-j l =
    (n : ℕ) → n < 16 → inverse_from l.keys.keys (l.j - 1) (lane l.b n) ≡ inverse_from l.keys.keys (l.keys.rounds - 1) (lane l.initial.b n)
