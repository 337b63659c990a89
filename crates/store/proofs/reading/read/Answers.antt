-- `store::reading::read` meets its contract: the plan ends at a slot whose record is sound and fits the buffer.
-- Assumes nothing.
use Rattle.std.proofs.Common.{sym, ◌∙◌, ℕ, length}
use Rattle.records.proofs.FieldLaws.{sound_len}
use Rattle.slots.specs.Slots.{slot}
use Rattle.plans.proofs.PlanLaws.{used, read_says}
use Rattle.store.proofs.reading.read.Goals as goal

pub read_slot-requires : goal.read_slot-requires
read_slot-requires c =
    let a = c.args in
    let k : ℕ = c.in_ok-k.k in
    let r = read_says a.keys.old.now a.keys.new.now a.store.now a.sheet (length a.text.now) k (sym c.read_plan.ensures ∙ c.in_ok-k.was) in
    (r.at.within, (sound_len (slot a.store.now k) r.whole (used r.at)).1, r.room)
