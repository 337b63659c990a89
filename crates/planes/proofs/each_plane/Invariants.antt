-- `planes::each_plane` meets its contract: after p turns the first p planes are made anew, and the others stand as they came.
-- Assumes nothing.
use Rattle.planes.proofs.Laws.{Anew}
use Rattle.planes.proofs.each_plane.Given as goal

abbrev pub invariant-loop-p : goal.invariant-loop-p
invariant-loop-p g l = Anew (goal.F-post g l.plane) l.fn.d l.d l.p
