-- `sheets::text::put_sheet` meets its contract: the record written, then its text enciphered.
-- Assumes nothing.
use mathlib.Core.Path.{◌≡◌, sym, ap, ◌∙◌}
use mathlib.Core.List.{List}
use Prim.Native.Nat.{ℕ}
use native.Mathlib.Omega.{arith}
use lib.ListN.{length}
use Rattle.records.specs.Record.{record_size, record_of}
use Rattle.sheets.proofs.SealLaws.{sealed, sheet_sealed}
use Rattle.sheets.proofs.text.put_sheet.Goals as goal

pub seal-requires : goal.seal-requires
seal-requires c =
    omega (arith, c.write.auto.r, c.requires)

pub shape_of-r : goal.shape_of-r
shape_of-r c = c.seal.auto.r ∙ c.write.auto.r

pub returns : goal.returns
returns c =
    let a = c.args in
    let t : List ℕ = a.text.now in
    let r1 : List ℕ = record_of a.n a.v 2 t in
    let e : c.seal.new.r ≡ sealed a.w.now r1 (length t) =
    c.seal.ensures ∙ ap (λ (r : List ℕ). sealed a.w.now r (length t)) (c.write.ensures ∙ ap (λ (m : ℕ). record_of a.n a.v m t) c.from.ensures) in
    let l : length (sealed a.w.now r1 (length t)) ≡ record_size = sym (ap length e) ∙ c.seal.auto.r ∙ c.write.auto.r ∙ c.requires.0 in
    e ∙ sheet_sealed a.w.now a.n a.v t c.requires.1 l
