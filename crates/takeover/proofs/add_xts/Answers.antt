-- `takeover::add_xts` meets its contract: by the answer of the tests, and by the unit's length.
-- Assumes nothing.
use Rattle.std.proofs.Common.{◌≡◌, sym, ap, ◌∙◌, List, ℕ, ◌-◌, length, take, Err, arith}
use Rattle.block.specs.Bytes.{Bytes}
use Rattle.numbers.specs.Numbers.{answer_paper}
use Rattle.takeover.proofs.SourceLaws.{refused_so, too_long_so, added_so}
use Rattle.takeover.proofs.add_xts.Goals as goal

pub returns-in_err-tested : goal.returns-in_err-tested
returns-in_err-tested c =
    let a = c.args in
    let h = c.in_err-tested in
    let r = refused_so a.keys.old.now a.keys.new.now a.store.now a.sheet a.key.now a.number a.unit.now c.tested.result h.field-0.0 c.tested.ensures h.was in
    let q : c.from_residual.result ≡ Err h.field-0.0 = grind arith in
    (q ∙ r.0, r.1)

pub returns-then-l-gt-TEXT_MOST : goal.returns-then-l-gt-TEXT_MOST
returns-then-l-gt-TEXT_MOST c =
    let a = c.args in
    let k : List ℕ = a.key.now in
    let u : List ℕ = a.unit.now in
    let bk : Bytes k = record { below = λ i. (c.type_inv.key i).fits } in
    let bu : Bytes u = record { below = λ i. (c.type_inv.unit i).fits } in
    too_long_so a.keys.old.now a.keys.new.now a.store.now a.sheet k a.number u (sym c.tested.ensures ∙ ap answer_paper c.in_ok-tested.was)
    c.add.result c.add.new.store bk bu c.if-l-gt-TEXT_MOST.true c.add.ensures

pub decipher_into-requires : goal.decipher_into-requires
decipher_into-requires c = (sym c.tested.ensures ∙ ap answer_paper c.in_ok-tested.was, omega arith)

pub returns : goal.returns
returns c =
    let a = c.args in
    let u : List ℕ = a.unit.now in
    let n : length u - 0 ≡ length u = omega arith in
    added_so a.keys.old.now a.keys.new.now a.store.now a.sheet a.key.now a.number u (sym c.tested.ensures ∙ ap answer_paper c.in_ok-tested.was)
    c.add-2.result c.add-2.new.store _ (ap (λ (j : ℕ). take j c.decipher_into.new.room) n ∙ c.decipher_into.ensures) c.add-2.ensures
