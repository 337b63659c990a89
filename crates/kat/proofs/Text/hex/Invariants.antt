-- `kat::Text::hex` takes none of the text back.
use Rattle.std.proofs.Common.{◌≤◌, length}
use Rattle.kat.proofs.Text.hex.Given as goal

abbrev pub invariant-loop-i : goal.invariant-loop-i
invariant-loop-i l = length l.self.rest.now ≤ length l.fn.self.rest.now
