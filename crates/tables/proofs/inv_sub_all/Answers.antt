-- `tables::inv_sub_all` meets its contract: the table that is lent is the one of the definition.
-- Assumes nothing.
use Rattle.sbox.specs.Sub.{inv_sub}
use Rattle.tables.proofs.inv_sub_all.Goals as goal

pub returns : goal.returns
unfolding inv_sub
returns c = c.all_looked_up.ensures
