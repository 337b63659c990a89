-- `sheets::text::take_text` meets its contract: the stored text copied, and deciphered there under the key that the mark names.
-- Assumes nothing.
use Rattle.std.proofs.Common.{◌≡◌, sym, ap, ◌∙◌, ℕ, List, ◌++◌, true, drop, arith}
use Rattle.eme2.specs.Transform.{afterwards}
use Rattle.records.specs.Record.{mark, len, lead_of, stored}
use Rattle.sheets.specs.Text.{text_of}
use Rattle.sheets.proofs.TextLaws.{copied, opened, text_clear, text_old, text_new}
use Rattle.sheets.proofs.text.take_text.Goals as goal
use Rattle.sheets.proofs.text.take_text.Goals.{After-copy, then-m-from-2, else-m-from-2}

-- the stored text, copied
put_there : (c : After-copy)
    → let a = c.args in
    c.copy.new.s ≡ stored a.r.now ++ drop (len a.r.now) a.out.now
put_there c =
    let a = c.args in
    copied a.r.now a.out.now c.copy.new.s c.text_length-l.result (omega (arith, c.requires)) c.text_length-l.ensures c.copy.ensures

pub returns-then-m-from : goal.returns-then-m-from
returns-then-m-from c =
    let a = c.args in
    let r : List ℕ = a.r.now in
    let e : mark r ≡ 0 = sym c.mark-m.ensures ∙ c.if-m-from.true ∙ c.from.ensures in
    put_there (goal.at.returns-then-m-from c).After-copy
    ∙ ap (λ (x : List ℕ). x ++ drop (len r) a.out.now) (sym (text_clear r a.keys.old.now a.keys.new.now e))

pub returns : goal.returns
returns c =
    let a = c.args in
    let r : List ℕ = a.r.now in
    let d : List ℕ = drop (len r) a.out.now in
    let k : List ℕ = c.if-m-from-2.key.now in
    let y : mark r ≡ 0 → ⊥ = λ q. c.if-m-from.false (c.mark-m.ensures ∙ q ∙ sym c.from.ensures) in
    let t : afterwards true k (lead_of r) (stored r) ≡ text_of a.keys.old.now a.keys.new.now r =
    elim c.if-m-from-2.branch [
      | then-m-from-2 w ↦
          let e : mark r ≡ 1 = sym c.mark-m.ensures ∙ w.if-m-from-2.true ∙ c.from-2.ensures in
          ap (λ x. afterwards true x.now (lead_of r) (stored r)) w.key-is ∙ sym (text_old r a.keys.old.now a.keys.new.now y e)
      | else-m-from-2 w ↦
          let z : mark r ≡ 1 → ⊥ = λ q. w.if-m-from-2.false (c.mark-m.ensures ∙ q ∙ sym c.from-2.ensures) in
          ap (λ x. afterwards true x.now (lead_of r) (stored r)) w.key-is ∙ sym (text_new r a.keys.old.now a.keys.new.now y z)
    ] in
    opened r k c.load-h.result c.decipher.new.message d c.copy.new.s c.text_length-l.result (omega (arith, c.requires))
    c.text_length-l.ensures c.load-h.ensures (put_there (goal.at.returns c).After-copy) c.decipher.ensures.1
    ∙ ap (λ (x : List ℕ). x ++ d) t
