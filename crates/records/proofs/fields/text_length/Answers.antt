-- `records::fields::text_length` meets its contract: bytes 8 and 9.
-- Assumes nothing.
use Rattle.std.proofs.Common.{arith}
use Rattle.records.specs.Record.{len}
use Rattle.records.proofs.fields.text_length.Goals as goal

pub returns : goal.returns
unfolding len
returns c = omega arith
