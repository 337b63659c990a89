-- `plans::ladders::read_at_plan` meets its contract where no test refuses: 14 is shown impossible.
-- Assumes nothing.
use Rattle.std.proofs.Common.{ℕ, List, arith}
use Rattle.block.specs.Bytes.{Bytes}
use Rattle.block.proofs.RowLaws.{bytes-row}
use Rattle.records.specs.Record.{record_size}
use Rattle.slots.specs.Slots.{slot}
use Rattle.slots.proofs.SlotLaws.{length-slot}
use Rattle.plans.specs.Plans.{read_at_plan, guard}
use Rattle.plans.proofs.PlanLaws.{not_changed}
use Rattle.plans.proofs.ladders.read_at_plan.Goals as goal

pub returns : goal.returns
unfolding read_at_plan guard
returns c =
    let a = c.args in
    let s : List ℕ = a.store.now in
    let bo : Bytes a.old.now = record { below = λ i. (c.shared_slice_known-1.given i).fits } in
    let bw : Bytes a.new.now = record { below = λ i. (c.shared_slice_known-2-1.given i).fits } in
    let bs : Bytes s = record { below = λ i. (c.type_inv.store i).fits } in
    let l = length-slot s a.k c.requires.0 in
    let e = not_changed a.old.now a.new.now (slot s a.k) bo bw (bytes-row record_size s a.k bs) l c.requires.1 in
    grind (arith, e)
