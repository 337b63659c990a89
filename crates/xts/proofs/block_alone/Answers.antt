-- `xts::block_alone` meets its contract: each way out follows from the answer of the tests, and then from the block's place.
-- Assumes nothing.
use Rattle.std.proofs.Common.{◌≡◌, ℕ, ◌+◌, ◌*◌, ◌≤◌, true, length, sym, ap, ◌∙◌, arith}
use Rattle.std.proofs.lemmas.Result.{err_from_is_err_and}
use Rattle.numbers.specs.Numbers.{answer_paper}
use Rattle.unit.proofs.AloneLaws.{left_of}
use Rattle.xts.specs.Xts.{key_taken, number, block_under}
use Rattle.xts.proofs.Bounds.{taken_0}
use Rattle.xts.proofs.Ladder.{unit_refused, not_alone, block_done}
use Rattle.xts.proofs.block_alone.Goals as goal
use Rattle.xts.proofs.block_alone.Goals.{Else-k-alone, In_ok-tested}

-- a key and a unit that passed the tests
passed : (c : In_ok-tested) → number (length c.args.key.now) (length c.args.unit.now) ≡ 0
passed c = sym c.tested.ensures ∙ ap answer_paper c.in_ok-tested.was

good : (c : In_ok-tested) → (key_taken (length c.args.key.now) ≡ true) × (16 ≤ length c.args.unit.now)
good c = taken_0 (length c.args.key.now) (length c.args.unit.now) (passed c)

pub returns-in_err-tested : goal.returns-in_err-tested
returns-in_err-tested c =
    let a = c.args in
    let p = err_from_is_err_and c.from_residual.result c.from_residual.ensures.1 in
    rw (p.1, p.2) (unit_refused a.key.now a.number a.unit.now a.k c.in_err-tested.field-0.0 c.in_err-tested.ensures)

pub alone-requires : goal.alone-requires
alone-requires c = (good (goal.at.alone-requires c).In_ok-tested).1

pub returns-then-k-alone : goal.returns-then-k-alone
returns-then-k-alone c =
    let a = c.args in
    not_alone a.key.now a.number a.unit.now a.k (sym (passed (goal.at.returns-then-k-alone c).In_ok-tested))
    (omega (arith, c.alone.ensures, c.if-k-alone.true))

-- the block lies within the unit
lies : (c : Else-k-alone) → 16 * c.args.k + 16 ≤ length c.args.unit.now
lies c =
    let n : ℕ = length c.args.unit.now in
    let e : number (length c.args.key.now) n ≡ 0 = sym c.tested.ensures ∙ ap answer_paper c.in_ok-tested.was in
    omega (arith, c.alone.ensures, c.if-k-alone.false, (left_of n (taken_0 (length c.args.key.now) n e).1).within)

pub overflow_mul-at : goal.overflow_mul-at
overflow_mul-at c = record { fits = omega (arith, lies (goal.at.overflow_mul-at c).Else-k-alone) }

pub load-requires : goal.load-requires
load-requires c = lies (goal.at.load-requires c).Else-k-alone

pub block_under-requires : goal.block_under-requires
block_under-requires c = (good (goal.at.block_under-requires c).In_ok-tested).0

pub returns : goal.returns
returns c =
    let a = c.args in
    block_done a.key.now a.number a.unit.now a.k c.block_under.result
    (c.block_under.ensures ∙ ap (block_under a.key.now a.number a.k) c.load.ensures)
    (sym (passed (goal.at.returns c).In_ok-tested)) (omega (arith, c.alone.ensures, c.if-k-alone.false))
