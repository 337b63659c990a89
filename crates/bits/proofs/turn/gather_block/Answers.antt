-- `bits::turn::gather_block` meets its contract: after t turns the bytes of the planes below t are in their places.
-- Assumes nothing.
use native.Mathlib.Omega.{arith}
use Rattle.bits.proofs.TurnLaws.{spread_one}
use Rattle.bits.proofs.turn.gather_block.Goals as goal

pub returns : goal.returns
returns c = spread_one c.loop-t.s c.args.group.now (λ u h. c.loop-t.invariant u (omega arith))
