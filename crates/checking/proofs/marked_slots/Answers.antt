-- `checking::marked_slots` meets its contract: the records that pass the test are counted.
-- Assumes nothing.
use Rattle.std.proofs.Common.{List, ℕ, Bool, rules, ◌∙◌}
use Rattle.std.proofs.lemmas.Iterator.{YieldsList-from_slice}
use Rattle.std.proofs.lemmas.Iterator.Consumers.{YieldsList-from_filter, count_from_yields_List}
use Rattle.records.specs.Marks.{mark_byte}
use Rattle.checking.specs.Check.{marked}
use Rattle.checking.proofs.CheckLaws.{counted_of}
use Rattle.checking.proofs.marked_slots.Goals as goal

pub returns : goal.returns
returns c =
    let test : List ℕ → Bool = marked (mark_byte c.args.m) in
    let rs : List (List ℕ) = c.records_of.result.now in
    count_from_yields_List _ _ c.count.ensures.ran
    (YieldsList-from_filter _ test (YieldsList-from_slice rs cc) c.filter.ensures.closure (λ x b q k. search rules))
    ∙ counted_of test c.args.store.now rs c.records_of.ensures
