-- `store::writing::add` meets its contract: the plan ends at a slot, and the text fits it.
-- Assumes nothing.
use Rattle.std.proofs.Common.{sym, ◌∙◌}
use Rattle.plans.proofs.PlanLaws.{add_says}
use Rattle.store.proofs.writing.add.Goals as goal

pub put_sheet_at-requires : goal.put_sheet_at-requires
put_sheet_at-requires c =
    let a = c.args in
    let r = add_says a.keys.old.now a.keys.new.now a.store.now a.sheet a.text.now c.in_ok-k.k (sym c.add_plan.ensures ∙ c.in_ok-k.was) in
    (r.within, r.fits)
