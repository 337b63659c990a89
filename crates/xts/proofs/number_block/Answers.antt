-- `xts::number_block` meets its contract: the number's eight bytes, then zeros.
-- Assumes nothing.
use Rattle.std.proofs.Common.{List, ℕ, ◌++◌, replicate, ap, ◌∙◌}
use Rattle.xts.proofs.NumberLaws.{le_bytes}
use Rattle.xts.proofs.number_block.Goals as goal

pub returns : goal.returns
returns c = ap (λ (b : List ℕ). b ++ replicate 8 0) (c.copy_from_slice.ensures.after ∙ c.to_le_bytes.ensures) ∙ le_bytes c.args.number
