-- `records::fields::mark` meets its contract: byte 6.
-- Assumes nothing.
use mathlib.Core.Path.{refl}
use Rattle.records.specs.Record.{mark}
use Rattle.records.proofs.fields.mark.Goals as goal

pub returns : goal.returns
unfolding mark
returns c = refl
