-- `lines::table::slot_line` meets its contract: a used slot has its record's line, and a free one none.
-- Assumes nothing.
use mathlib.Core.Path.{◌≡◌, sym, ◌∙◌}
use native.Mathlib.Omega.{arith}
use Rattle.records.specs.Record.{num}
use Rattle.lines.proofs.LaidLaws.{laid_nothing, laid_as}
use Rattle.lines.proofs.ListingLaws.{record_free, record_used}
use Rattle.lines.proofs.table.slot_line.Goals as goal

pub returns-then-number-eq0 : goal.returns-then-number-eq0
returns-then-number-eq0 c =
    let a = c.args in
    let z : num a.r.now ≡ 0 = sym c.number.ensures ∙ c.if-number-eq0.true in
    (laid_as (sym (record_free a.k a.r.now z)) (laid_nothing a.at a.out.now), omega arith)

pub returns : goal.returns
returns c =
    let a = c.args in
    let z : num a.r.now ≡ 0 → ⊥ = λ e. c.if-number-eq0.false (c.number.ensures ∙ e) in
    (laid_as (sym (record_used a.k a.r.now z)) c.line.ensures.0, c.line.ensures.1)
