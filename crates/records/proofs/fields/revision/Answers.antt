-- `records::fields::revision` meets its contract: the low half in bytes 4 and 5, the high one in bytes 10 and 11.
-- Assumes nothing.
use Rattle.std.proofs.Common.{arith}
use Rattle.records.specs.Record.{rev}
use Rattle.records.proofs.fields.revision.Goals as goal

pub returns : goal.returns
unfolding rev
returns c = omega arith
