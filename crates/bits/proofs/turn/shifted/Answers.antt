-- `bits::turn::shifted` meets its contract: bit 0 of a byte of the word shifted by i is its bit i.
-- Assumes nothing.
use Rattle.bits.proofs.PlaneLaws.{placed_shift}
use Rattle.bits.proofs.turn.shifted.Goals as goal

pub returns : goal.returns
returns c = placed_shift c.args.w
