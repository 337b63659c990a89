-- `bits::turn::spread_block` meets its contract: after t turns the planes below t have their four bytes.
-- Assumes nothing.
use Prim.Native.Nat.{ℕ, ◌<◌}
use Rattle.bits.specs.Planes.{planes_of}
use Rattle.bits.proofs.TurnLaws.{Four}
use Rattle.bits.proofs.turn.spread_block.Given as goal

abbrev pub invariant-loop-t : goal.invariant-loop-t
invariant-loop-t l = (u : ℕ) → u < l.t → Four l.s u (planes_of l.group u)
