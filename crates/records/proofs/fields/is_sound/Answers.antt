-- `records::fields::is_sound` meets its contract: by the sheet number.
-- Assumes nothing.
use mathlib.Core.Path.{◌≡◌, sym, ◌∙◌}
use mathlib.Core.List.{List}
use Prim.Native.Nat.{ℕ}
use Rattle.records.specs.Record.{num}
use Rattle.records.proofs.FieldLaws.{sound_free, sound_taken}
use Rattle.records.proofs.fields.is_sound.Goals as goal

pub returns-then-number-eq0 : goal.returns-then-number-eq0
returns-then-number-eq0 c =
    let r : List ℕ = c.args.r.now in
    c.zeros.ensures ∙ sym (sound_free r (sym c.number.ensures ∙ c.if-number-eq0.true))

pub returns : goal.returns
returns c =
    let r : List ℕ = c.args.r.now in
    c.is_sound_used.ensures ∙ sym (sound_taken r (λ (e : num r ≡ 0). c.if-number-eq0.false (c.number.ensures ∙ e)))
