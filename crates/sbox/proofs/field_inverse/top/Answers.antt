-- `sbox::field_inverse::top` meets its contract: its gates are those of the data, one by one.
-- Assumes nothing.
use mathlib.Core.Path.{refl}
use Rattle.sbox.specs.Gates.{stage}
use Rattle.sbox.proofs.field_inverse.top.Goals as goal

pub returns : goal.returns
unfolding stage
returns c = refl
