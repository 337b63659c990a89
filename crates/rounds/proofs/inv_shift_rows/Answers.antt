-- `rounds::inv_shift_rows` meets its contract: the places are those of the definition, as it computes.
-- Assumes nothing.
use mathlib.Core.Path.{refl}
use Rattle.rounds.specs.Steps.{inv_shift_rows}
use Rattle.rounds.proofs.inv_shift_rows.Goals as goal

pub returns : goal.returns
unfolding inv_shift_rows
returns c = refl
