-- `tables::inv_sub_bytes` meets its contract: the table that is lent is the one of the definition.
-- Assumes nothing.
use Rattle.sbox.specs.Sub.{inv_sub, inv_sub_bytes}
use Rattle.tables.proofs.inv_sub_bytes.Goals as goal

pub returns : goal.returns
unfolding inv_sub inv_sub_bytes
returns c = c.looked_up.ensures
