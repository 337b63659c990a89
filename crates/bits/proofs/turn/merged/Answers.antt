-- `bits::turn::merged` meets its contract: the masked bits lie apart, so that their xor has them all.
-- Assumes nothing.
use Rattle.bits.proofs.PlaneLaws.{placed_merge}
use Rattle.bits.proofs.turn.merged.Goals as goal

pub returns : goal.returns
returns c =
    let q = c.args.q in
    placed_merge q.p0 q.p1 q.p2 q.p3 q.p4 q.p5 q.p6 q.p7
