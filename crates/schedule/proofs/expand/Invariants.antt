-- `schedule::expand` meets its contract: before the turn at i the words before w[i] are made, and the buffer is as it came from there on.
-- Assumes nothing.
use Rattle.std.proofs.Common.{◌≡◌}
use Rattle.schedule.proofs.Laws.{made}
use Rattle.schedule.proofs.expand.Given as goal

abbrev pub invariant-loop-i : goal.invariant-loop-i
invariant-loop-i l = l.w ≡ made l.nk l.fn.w l.i
