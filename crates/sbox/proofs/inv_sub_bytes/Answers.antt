-- `sbox::inv_sub_bytes` meets its contract: the direction is the one that it asks for.
-- Assumes nothing.
use Rattle.sbox.specs.Sub.{inv_sub_bytes}
use Rattle.sbox.specs.Directions.{directed}
use Rattle.sbox.proofs.inv_sub_bytes.Goals as goal

pub returns : goal.returns
unfolding directed inv_sub_bytes
returns c = c.block_substituted.ensures
