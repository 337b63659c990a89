-- `lines::laying::text` meets its contract: the bytes passed are laid.
-- Assumes nothing.
use lib.ListN.{take}
use Rattle.lines.specs.Laid.{Laid}
use Rattle.lines.proofs.laying.text.Given as goal

abbrev pub invariant-loop-x : goal.invariant-loop-x
invariant-loop-x l = Laid (take l.x-index l.t) l.at l.initial.out l.next l.out
