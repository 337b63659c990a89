-- `bits::turn::gather` meets its contract: planes, turned, are words of bytes.
-- Assumes nothing.
use native.Mathlib.Omega.{arith}
use Rattle.bits.proofs.TurnLaws.{gather_eight}
use Rattle.bits.proofs.turn.gather.Goals as goal

pub returns : goal.returns
returns c =
    gather_eight c.loop-i.s c.args.group.now c.over_planes.new.group (λ t h. (c.over_planes.ensures.at t h).1)
    (record { at = λ m h. c.loop-i.invariant m (omega arith) })
