-- `store::writing::revise` meets its contract: the plan ends at a slot that has the revision seen, which is not the greatest, and the text fits.
-- Assumes nothing.
use Rattle.std.proofs.Common.{refl, sym, ◌∙◌, arith}
use Rattle.plans.proofs.PlanLaws.{Revises, revise_says}
use Rattle.store.proofs.writing.revise.Goals as goal
use Rattle.store.proofs.writing.revise.Goals.{In_ok-k}

planned : (c : In_ok-k)
    → let a = c.args in
    Revises a.keys.old.now a.keys.new.now a.store.now a.sheet a.seen a.text.now c.in_ok-k.k
planned c =
    let a = c.args in
    revise_says a.keys.old.now a.keys.new.now a.store.now a.sheet a.seen a.text.now c.in_ok-k.k (sym c.revise_plan.ensures ∙ c.in_ok-k.was)

pub overflow_add-v : goal.overflow_add-v
overflow_add-v c =
    let p = planned (goal.at.overflow_add-v c).In_ok-k in
    omega (arith, p.seen, p.below)

pub put_sheet_at-requires : goal.put_sheet_at-requires
put_sheet_at-requires c =
    let p = planned (goal.at.put_sheet_at-requires c).In_ok-k in
    (p.at.within, p.fits)

pub returns : goal.returns
returns c =
    let e = sym c.revise_plan.ensures ∙ c.in_ok-k.was in
    let v = (planned (goal.at.returns c).In_ok-k).seen in
    rw (e, ← v) (refl, c.put_sheet_at.ensures)
