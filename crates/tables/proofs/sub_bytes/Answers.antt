-- `tables::sub_bytes` meets its contract: the table that is lent is the one of the definition.
-- Assumes nothing.
use Rattle.sbox.specs.Sub.{sub, sub_bytes}
use Rattle.tables.proofs.sub_bytes.Goals as goal

pub returns : goal.returns
unfolding sub sub_bytes
returns c = c.looked_up.ensures
