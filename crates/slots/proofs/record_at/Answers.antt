-- `slots::record_at` meets its contract: the k-th of the records is the slot.
-- Assumes nothing.
use Rattle.std.proofs.Common.{ℕ, List, [], length, get_or, ap, ◌∙◌, arith}
use Rattle.block.proofs.TabLaws.{get_or-tab}
use Rattle.slots.specs.Slots.{slots, slot}
use Rattle.slots.proofs.FindLaws.{length-tab}
use Rattle.slots.proofs.record_at.Goals as goal

pub bounds-records_of-k : goal.bounds-records_of-k
bounds-records_of-k c =
    let s : List ℕ = c.args.s.now in
    omega (arith, ap length c.records_of.ensures, length-tab (slots s) (slot s), c.requires)

pub returns : goal.returns
returns c =
    let s : List ℕ = c.args.s.now in
    ap (λ (t : List (List ℕ)). get_or t c.args.k []) c.records_of.ensures ∙ get_or-tab (slots s) (slot s) c.args.k [] c.requires
