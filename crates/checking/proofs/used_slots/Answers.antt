-- `checking::used_slots` meets its contract: the records that pass the test are counted.
-- Assumes nothing.
use Rattle.std.proofs.Common.{rules, ◌∙◌}
use Rattle.std.proofs.lemmas.Iterator.{YieldsList-from_slice}
use Rattle.std.proofs.lemmas.Iterator.Consumers.{YieldsList-from_filter, count_from_yields_List}
use Rattle.checking.specs.Check.{used}
use Rattle.checking.proofs.CheckLaws.{counted_of}
use Rattle.checking.proofs.used_slots.Goals as goal

pub returns : goal.returns
returns c =
    count_from_yields_List _ _ c.count.ensures.ran
    (YieldsList-from_filter _ used (YieldsList-from_slice c.records_of.result.now cc) c.filter.ensures.closure (λ x b q k. search rules))
    ∙ counted_of used c.args.store.now c.records_of.result.now c.records_of.ensures
