-- `tables::all_looked_up` meets its contract: the bytes below the index are those of the table, and the others as they came.
-- Assumes nothing.
use mathlib.Core.Path.{◌≡◌}
use mathlib.Core.List.{◌++◌, map}
use lib.ListN.{take, drop}
use Rattle.block.specs.Tab.{byte}
use Rattle.tables.proofs.all_looked_up.Given as goal

abbrev pub invariant-loop-x : goal.invariant-loop-x
invariant-loop-x l = l.s ≡ map (byte l.t) (take l.x-index l.initial.s) ++ drop l.x-index l.initial.s
