-- `records::fields::zeros` meets its contract: eight bytes at a time are asked, and then each that is left.
-- Assumes nothing.
use Rattle.std.proofs.Common.{◌≡◌, ℕ, ◌/◌, Bool, eqb, ◌&&◌, List, length, sym, ap, ap₂, ◌∙◌, rules, arith}
use Rattle.std.specs.List.{list_all}
use Rattle.std.proofs.lemmas.Iterator.{YieldsList-from_slice}
use Rattle.std.proofs.lemmas.Iterator.Search.{all_from_yields_List}
use Rattle.records.specs.Record.{all_zero}
use Rattle.records.proofs.ZeroLaws.{none_set, eights, each}
use Rattle.records.proofs.fields.zeros.Goals as goal
use Rattle.records.proofs.fields.zeros.Goals.{After-all}

-- the eights and what is left are the whole
whole : (c : After-all) → c.all.result && all_zero c.as_chunks.result.1.now ≡ all_zero c.args.s.now
whole c =
    let s : List ℕ = c.args.s.now in
    let n : ℕ = length s / 8 in
    let es : List (List ℕ) = c.as_chunks.result.0.now in
    let asked : c.all.result ≡ list_all none_set es =
    all_from_yields_List none_set _ _ _ c.all.ensures.ran (YieldsList-from_slice es cc) (λ x b q k. search rules)
    in
    ap₂ (λ (a b : Bool). a && b) (asked ∙ ap (λ (l : List (List ℕ)). list_all none_set l) c.as_chunks.ensures.front) (ap all_zero c.as_chunks.ensures.back)
    ∙ eights n s (omega arith)

pub returns-then-all : goal.returns-then-all
returns-then-all c =
    let r : List ℕ = c.as_chunks.result.1.now in
    all_from_yields_List (λ (x : ℕ). eqb x 0) _ _ _ c.all-then-all.ensures.ran (YieldsList-from_slice r cc) (λ x b q k. search rules)
    ∙ each r
    ∙ sym (ap (λ (t : Bool). t && all_zero r) c.if-all.true)
    ∙ whole (goal.at.returns-then-all c).After-all

pub returns-else-all : goal.returns-else-all
returns-else-all c =
    let r : List ℕ = c.as_chunks.result.1.now in
    c.if-all.false ∙ sym (ap (λ (t : Bool). t && all_zero r) c.if-all.false) ∙ whole (goal.at.returns-else-all c).After-all
