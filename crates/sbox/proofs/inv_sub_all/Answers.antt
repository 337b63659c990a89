-- `sbox::inv_sub_all` meets its contract: the direction is the one that it asks for.
-- Assumes nothing.
use Rattle.sbox.specs.Directions.{directed}
use Rattle.sbox.proofs.inv_sub_all.Goals as goal

pub returns : goal.returns
unfolding directed
returns c = c.all_substituted.ensures
