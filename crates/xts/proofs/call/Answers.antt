-- `xts::call` meets its contract: refused as the tests answer, or past them.
-- Assumes nothing.
use Rattle.std.proofs.Common.{◌≡◌, length, sym, ap, ◌∙◌}
use Rattle.std.proofs.lemmas.Result.{err_from_is_err_and}
use Rattle.numbers.specs.Numbers.{answer_paper}
use Rattle.xts.specs.Xts.{number}
use Rattle.xts.proofs.Bounds.{taken_0}
use Rattle.xts.proofs.Ladder.{refused, done}
use Rattle.xts.proofs.call.Goals as goal
use Rattle.xts.proofs.call.Goals.{In_ok-tested}

-- a key and a unit that passed the tests
passed : (c : In_ok-tested) → number (length c.args.key.now) (length c.args.unit.now) ≡ 0
passed c = sym c.tested.ensures ∙ ap answer_paper c.in_ok-tested.was

pub returns-in_err-tested : goal.returns-in_err-tested
returns-in_err-tested c =
    let a = c.args in
    let p = err_from_is_err_and c.from_residual.result c.from_residual.ensures.1 in
    rw (p.1, p.2) (refused a.back a.key.now a.number a.unit.now c.in_err-tested.field-0.0 c.in_err-tested.ensures)

pub transform-requires : goal.transform-requires
transform-requires c =
    let a = c.args in
    taken_0 (length a.key.now) (length a.unit.now) (passed (goal.at.transform-requires c).In_ok-tested)

pub returns : goal.returns
returns c =
    let a = c.args in
    done a.back a.key.now a.number a.unit.now (sym (passed (goal.at.returns c).In_ok-tested)) c.transform.new.unit c.transform.ensures
