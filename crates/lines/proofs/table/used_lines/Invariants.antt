-- `lines::table::used_lines` meets its contract: the lines of the slots passed are laid.
-- Assumes nothing.
use Prim.Native.Nat.{◌*◌, ◌≤◌}
use Rattle.lines.specs.Laid.{Laid}
use Rattle.lines.specs.Listing.{lines}
use Rattle.lines.proofs.table.used_lines.Given as goal

abbrev pub invariant-loop-k : goal.invariant-loop-k
invariant-loop-k l = (l.at ≤ 105 * l.k) × Laid (lines l.store l.k) 0 l.initial.out l.at l.out
