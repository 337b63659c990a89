-- `xts::key1` meets its contract: the first half of a key that is taken is a key of AES.
-- Assumes nothing.
use Rattle.xts.proofs.KeyLaws.{size_1}
use Rattle.xts.proofs.key1.Goals as goal

pub key_setup-requires : goal.key_setup-requires
key_setup-requires c = size_1 c.args.key.now c.requires
