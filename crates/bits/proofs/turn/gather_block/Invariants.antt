-- `bits::turn::gather_block` meets its contract: after t turns the bytes of the planes below t are in their places.
-- Assumes nothing.
use Prim.Native.Nat.{ℕ, ◌<◌}
use Rattle.bits.specs.Planes.{planes_of}
use Rattle.bits.proofs.TurnLaws.{Four}
use Rattle.bits.proofs.turn.gather_block.Given as goal

abbrev pub invariant-loop-t : goal.invariant-loop-t
invariant-loop-t l = (u : ℕ) → u < l.t → Four l.s u (planes_of l.group u)
