-- `records::fields::number` meets its contract: bytes 0 to 3.
-- Assumes nothing.
use Rattle.std.proofs.Common.{arith}
use Rattle.records.specs.Record.{num}
use Rattle.records.proofs.fields.number.Goals as goal

pub returns : goal.returns
unfolding num
returns c = omega arith
