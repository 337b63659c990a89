-- `slots::find` meets its contract: the place of the first record with the sheet number.
-- Assumes nothing.
use Rattle.std.proofs.Common.{rules, ℕ, Bool, eqb, List, ap, ◌∙◌}
use Rattle.std.specs.List.{position}
use Rattle.std.proofs.lemmas.Iterator.{YieldsList-from_slice}
use Rattle.std.proofs.lemmas.Iterator.Search.{position_from_yields_List}
use Rattle.records.specs.Record.{num}
use Rattle.slots.specs.Slots.{slots, slot, find_by}
use Rattle.slots.proofs.FindLaws.{position_tab}
use Rattle.slots.proofs.find.Goals as goal

pub returns : goal.returns
unfolding find_by
returns c =
    let s : List ℕ = c.args.s.now in
    let test : List ℕ → Bool = λ r. eqb (num r) c.args.n in
    position_from_yields_List test _ _ _ c.position.ensures.ran (YieldsList-from_slice c.records_of.result.now cc) (λ x b q k. search rules)
    ∙ ap (position test) c.records_of.ensures
    ∙ position_tab test (slots s) (slot s)
