-- `rounds::shift_rows` meets its contract: the places are those of the definition, as it computes.
-- Assumes nothing.
use mathlib.Core.Path.{refl}
use Rattle.rounds.specs.Steps.{shift_rows}
use Rattle.rounds.proofs.shift_rows.Goals as goal

pub returns : goal.returns
unfolding shift_rows
returns c = refl
