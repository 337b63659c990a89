-- `slots::empty` meets its contract: the part that is lent is the slot.
-- Assumes nothing.
use Rattle.std.proofs.Common.{◌≡◌, ℕ, List, length, replicate, ap, ◌∙◌}
use Rattle.slots.specs.Slots.{put, emptied}
use Rattle.slots.proofs.SlotLaws.{slot_part, length-slot, slot_changed}
use Rattle.slots.proofs.empty.Goals as goal

pub returns : goal.returns
returns c =
    let s : List ℕ = c.args.s.now in
    let k : ℕ = c.args.k in
    let zeros : c.fill.new.self ≡ emptied =
    c.fill.ensures.after (λ y h. h) ∙ ap (λ (n : ℕ). replicate {A = ℕ} n 0) (ap length (slot_part s k) ∙ length-slot s k c.requires) in
    slot_changed s k c.fill.new.self ∙ ap (put s k) zeros
