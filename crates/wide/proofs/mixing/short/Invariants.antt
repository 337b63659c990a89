-- `wide::mixing::short` meets its contract: the bytes below i are done.
-- Assumes nothing.
use Rattle.std.proofs.Common.{◌≡◌, ◌++◌, take, drop}
use Rattle.block.specs.Xor.{◌⊕◌}
use Rattle.wide.proofs.mixing.short.Given as goal

abbrev pub invariant-loop-i : goal.invariant-loop-i
invariant-loop-i l = l.x-items ≡ take l.i (l.initial.x-items ⊕ l.mm) ++ drop l.i l.initial.x-items
