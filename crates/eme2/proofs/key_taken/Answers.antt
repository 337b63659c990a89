-- `eme2::key_taken` meets its contract.
-- Assumes nothing.
use mathlib.Core.Path.{sym}
use Rattle.eme2.proofs.Ladder.{key_below}
use Rattle.eme2.proofs.key_taken.Goals as goal

pub returns-then-n-lt32 : goal.returns-then-n-lt32
returns-then-n-lt32 c = sym (key_below c.args.key.now c.if-n-lt32.true)

pub returns : goal.returns
returns c = c.key_size.ensures
