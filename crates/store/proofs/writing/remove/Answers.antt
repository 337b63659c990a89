-- `store::writing::remove` meets its contract: the plan ends at a slot.
-- Assumes nothing.
use Rattle.std.proofs.Common.{sym, ◌∙◌}
use Rattle.plans.proofs.PlanLaws.{remove_says}
use Rattle.store.proofs.writing.remove.Goals as goal

pub empty-requires : goal.empty-requires
empty-requires c =
    let a = c.args in
    (remove_says a.store.now a.sheet c.in_ok-k.k (sym c.remove_plan.ensures ∙ c.in_ok-k.was)).1.within
