-- `sbox::together` meets its contract: after i turns the first 128 i bytes are done, and the others as they came.
-- Assumes nothing.
use mathlib.Core.Path.{◌≡◌}
use mathlib.Core.List.{◌++◌, map}
use Prim.Native.Nat.{◌*◌}
use lib.ListN.{take, drop}
use Rattle.sbox.specs.Directions.{directed}
use Rattle.sbox.proofs.together.Given as goal

abbrev pub invariant-loop-i : goal.invariant-loop-i
invariant-loop-i l = l.s ≡ take (128 * l.i) (map (directed l.back) l.initial.s) ++ drop (128 * l.i) l.initial.s
