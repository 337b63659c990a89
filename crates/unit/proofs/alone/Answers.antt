-- `unit::alone` meets its contract.
-- Assumes nothing.
use mathlib.Core.Path.{sym}
use Rattle.unit.proofs.AloneLaws.{alone_whole, alone_odd}
use Rattle.unit.proofs.alone.Goals as goal

pub returns-then-n-eq0 : goal.returns-then-n-eq0
returns-then-n-eq0 c = sym (alone_whole c.args.n c.if-n-eq0.true)

pub returns : goal.returns
returns c = sym (alone_odd c.args.n c.if-n-eq0.false)
