-- `planes::strided` meets its contract: after i turns the first i bytes are those sixteen apart.
-- Assumes nothing.
use mathlib.Core.Path.{◌≡◌}
use mathlib.Core.Bool.{cond}
use mathlib.Core.List.{◌++◌}
use Prim.Native.Nat.{◌+◌, ◌*◌}
use lib.Dec.{ltb}
use lib.ListN.{take, drop, replicate}
use Rattle.block.specs.Tab.{tab, byte}
use Rattle.planes.proofs.strided.Given as goal

abbrev pub invariant-loop-i : goal.invariant-loop-i
invariant-loop-i l = l.r ≡ take l.i (tab 16 (λ j. cond (ltb j l.n) (byte l.s (l.at + 16 * j)) 0)) ++ drop l.i (replicate 16 0)
