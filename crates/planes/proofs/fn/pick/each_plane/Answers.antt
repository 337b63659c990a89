-- The closure of `planes::pick`: how far it picks at most.
-- Assumes nothing.
use Rattle.std.proofs.Common.{arith}
use Rattle.planes.proofs.Laws.{pick_bound}
use Rattle.planes.proofs.fn.pick.each_plane.Goals as goal

pub overflow_mul-k : goal.overflow_mul-k
overflow_mul-k c = omega (arith, pick_bound c.captures.k c.args.p (omega arith))

pub overflow_add-p : goal.overflow_add-p
overflow_add-p c = omega (arith, pick_bound c.captures.k c.args.p (omega arith))
