-- `slots::records_of` meets its contract: the chunks of a record's size are the slots.
-- Assumes nothing.
use Rattle.std.proofs.Common.{◌∙◌}
use Rattle.records.specs.Record.{record_size}
use Rattle.slots.specs.Slots.{slots}
use Rattle.slots.proofs.SlotLaws.{chunks_rows}
use Rattle.slots.proofs.records_of.Goals as goal

pub returns : goal.returns
returns c = c.as_chunks.ensures.front ∙ chunks_rows record_size (slots c.args.s.now) c.args.s.now
