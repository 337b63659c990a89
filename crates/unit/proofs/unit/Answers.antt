-- `unit::unit` meets its contract: the blocks that can be read alone, and what is left, each in its part of the unit.
-- Assumes nothing.
use mathlib.Core.List.{List, ◌++◌}
use Prim.Native.Nat.{ℕ, ◌*◌, ◌≤◌}
use native.Mathlib.Omega.{arith}
use lib.ListN.{length, drop}
use lib.Seq.{length-take-le}
use Rattle.aes.specs.Aes.{crypted}
use Rattle.unit.proofs.PassLaws.{within, as_long, left_over, unit_steps}
use Rattle.unit.proofs.unit.Goals as goal
use Rattle.unit.proofs.unit.Goals.{After-blocks-next}

pub overflow_mul-end : goal.overflow_mul-end
overflow_mul-end c = omega (arith, within c.args.s.now c.requires c.alone-end.result c.alone-end.ensures)

pub slice_bounds-blocks-end : goal.slice_bounds-blocks-end
slice_bounds-blocks-end c = omega (arith, within c.args.s.now c.requires c.alone-end.result c.alone-end.ensures)

pub slice_bounds-blocks-end-2 : goal.slice_bounds-blocks-end-2
slice_bounds-blocks-end-2 c =
    let s : List ℕ = c.args.s.now in
    let k : ℕ = c.alone-end.result in
    let w : 16 * k ≤ length s = within s c.requires k c.alone-end.ensures in
    omega (arith, length-take-le (16 * k) s w)

-- the part that is left starts within the unit, which is as long as it was
starts : (c : After-blocks-next) → 16 * c.alone-end.result ≤ length (c.blocks-next.new.s ++ drop (16 * c.alone-end.result) c.args.s.now)
starts c =
    let s : List ℕ = c.args.s.now in
    let k : ℕ = c.alone-end.result in
    let x : List ℕ = c.blocks-next.new.s in
    omega (arith, within s c.requires k c.alone-end.ensures, as_long s c.requires k c.alone-end.ensures x c.blocks-next.auto.s)

pub slice_bounds-last_two-start : goal.slice_bounds-last_two-start
slice_bounds-last_two-start c = starts (goal.at.slice_bounds-last_two-start c).After-blocks-next

pub slice_bounds-last_two-count : goal.slice_bounds-last_two-count
slice_bounds-last_two-count c = starts (goal.at.slice_bounds-last_two-count c).After-blocks-next

pub last_two-requires : goal.last_two-requires
last_two-requires c =
    let s : List ℕ = c.args.s.now in
    let k : ℕ = c.alone-end.result in
    let x : List ℕ = c.blocks-next.new.s in
    left_over s c.requires k c.alone-end.ensures (x ++ drop (16 * k) s) (as_long s c.requires k c.alone-end.ensures x c.blocks-next.auto.s)

pub returns : goal.returns
returns c =
    let a = c.args in
    unit_steps a.s.now c.requires c.alone-end.result c.alone-end.ensures (crypted a.back a.keys.keys a.keys.rounds) a.back a.t
    c.blocks-next.result c.blocks-next.new.s c.last_two.new.s
    c.blocks-next.ensures.0 c.blocks-next.ensures.1 c.blocks-next.auto.s c.last_two.ensures
