-- `records::fields::is_sound_used` meets its contract: each test before the last can refuse, and then the last decides.
-- Assumes nothing.
use mathlib.Core.Path.{sym, ap, ◌∙◌}
use mathlib.Core.List.{List}
use Prim.Native.Nat.{ℕ}
use native.Mathlib.Omega.{arith}
use Rattle.records.specs.Record.{all_zero}
use Rattle.records.proofs.FieldLaws.{Used, unsound, unsound_spares, used_last, record_rest}
use Rattle.records.proofs.fields.is_sound_used.Goals as goal

pub returns-then-revision-eq0 : goal.returns-then-revision-eq0
returns-then-revision-eq0 c =
    let r : List ℕ = c.args.r.now in
    sym (unsound r (λ (u : Used r). omega arith))

pub returns-then-mark-from : goal.returns-then-mark-from
returns-then-mark-from c =
    let r : List ℕ = c.args.r.now in
    sym (unsound r (λ (u : Used r). omega arith))

pub returns-then-r-ne0 : goal.returns-then-r-ne0
returns-then-r-ne0 c =
    let r : List ℕ = c.args.r.now in
    sym (unsound r (λ (u : Used r). c.if-r-ne0.true u.spare))

pub returns-then-l-lt16 : goal.returns-then-l-lt16
returns-then-l-lt16 c =
    let r : List ℕ = c.args.r.now in
    sym (unsound r (λ (u : Used r). omega arith))

pub returns-then-l-gt-TEXT_MOST : goal.returns-then-l-gt-TEXT_MOST
returns-then-l-gt-TEXT_MOST c =
    let r : List ℕ = c.args.r.now in
    sym (unsound r (λ (u : Used r). omega arith))

pub returns-then-not-zeros : goal.returns-then-not-zeros
returns-then-not-zeros c =
    let r : List ℕ = c.args.r.now in
    sym (unsound_spares r (sym c.zeros.ensures ∙ c.if-not-zeros.true))

pub returns : goal.returns
returns c =
    let r : List ℕ = c.args.r.now in
    c.zeros-2.ensures
    ∙ ap all_zero (record_rest r (omega arith) c.text_length-l.result c.text_length-l.ensures)
    ∙ sym
    (used_last r (omega arith) (omega arith) c.if-r-ne0.false (omega arith) (omega arith)
    (sym c.zeros.ensures ∙ c.if-not-zeros.false))
