-- `planes::gather` meets its contract: after l turns the first l lanes stand in their place.
-- Assumes nothing.
use mathlib.Core.Path.{◌≡◌}
use Rattle.planes.proofs.Laws.{gathered}
use Rattle.planes.proofs.gather.Given as goal

abbrev pub invariant-loop-l : goal.invariant-loop-l
invariant-loop-l l = l.d ≡ gathered l.s l.initial.d l.at l.l
