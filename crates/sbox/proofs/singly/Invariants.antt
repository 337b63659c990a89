-- `sbox::singly` meets its contract: the bytes below the index are done, and the others as they came.
-- Assumes nothing.
use mathlib.Core.Path.{◌≡◌}
use mathlib.Core.List.{◌++◌, map}
use lib.ListN.{take, drop}
use Rattle.sbox.specs.Directions.{directed}
use Rattle.sbox.proofs.singly.Given as goal

abbrev pub invariant-loop-x : goal.invariant-loop-x
invariant-loop-x l = l.s ≡ map (directed l.back) (take l.x-index l.initial.s) ++ drop l.x-index l.initial.s
