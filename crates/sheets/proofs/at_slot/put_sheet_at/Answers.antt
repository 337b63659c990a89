-- `sheets::at_slot::put_sheet_at` meets its contract: the part that is lent is the slot.
-- Assumes nothing.
use mathlib.Core.Path.{ap, ◌∙◌}
use Rattle.slots.specs.Slots.{put}
use Rattle.slots.proofs.SlotLaws.{slot_changed}
use Rattle.sheets.proofs.at_slot.put_sheet_at.Goals as goal

pub returns : goal.returns
returns c =
    let a = c.args in
    slot_changed a.s.now a.k c.put_sheet.new.r ∙ ap (put a.s.now a.k) c.put_sheet.ensures
