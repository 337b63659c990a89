-- `bits::turn::gather` meets its contract: planes, turned, are words of bytes, and after i turns of the loop the words below i are put.
-- Assumes nothing.
use Prim.Native.Nat.{ℕ, ◌*◌, ◌<◌}
use lib.ListN.{get_or}
use Rattle.bits.specs.Planes.{Word}
use Rattle.bits.proofs.turn.gather.Given as goal

abbrev pub invariant-loop-i : goal.invariant-loop-i
invariant-loop-i l = (m : ℕ) → m < l.i → Word (get_or l.w-items m 0) l.s (4 * m)
