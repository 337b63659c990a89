-- `tables::sub_word` meets its contract: the table that is lent is the one of the definition.
-- Assumes nothing.
use Rattle.sbox.specs.Sub.{sub, sub_word}
use Rattle.tables.proofs.sub_word.Goals as goal

pub returns : goal.returns
unfolding sub sub_word
returns c = c.looked_up.ensures
