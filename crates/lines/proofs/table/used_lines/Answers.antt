-- `lines::table::used_lines` meets its contract: the lines of the slots passed are laid.
-- Assumes nothing.
use mathlib.Core.Path.{◌≡◌, sym, ap, ◌∙◌}
use mathlib.Core.List.{List, [], ◌++◌}
use Prim.Native.Nat.{ℕ, ◌<◌}
use native.Mathlib.Omega.{arith}
use lib.ListN.{length, get_or}
use Rattle.block.proofs.TabLaws.{get_or-tab}
use Rattle.slots.specs.Slots.{slots, slot}
use Rattle.slots.proofs.FindLaws.{length-tab}
use Rattle.lines.specs.Listing.{record_line, lines}
use Rattle.lines.proofs.LaidLaws.{laid_nothing, laid_then, laid_as}
use Rattle.lines.proofs.ListingLaws.{lines_none, lines_more}
use Rattle.lines.proofs.table.used_lines.Goals as goal

pub loop-k-init : goal.loop-k-init
loop-k-init c =
    let a = c.args in
    (omega arith, laid_as (sym (lines_none a.store.now)) (laid_nothing 0 a.out.now))

pub slot_line-at-requires : goal.slot_line-at-requires
slot_line-at-requires c =
    let s : List ℕ = c.args.store.now in
    omega (arith, ap length c.records_of-r-items.ensures, length-tab (slots s) (slot s), c.requires)

pub loop-k-preserved : goal.loop-k-preserved
loop-k-preserved c =
    let s : List ℕ = c.args.store.now in
    let k : ℕ = c.loop-k.k in
    let rs = c.records_of-r-items in
    let h : k < slots s = omega (arith, ap length rs.ensures, length-tab (slots s) (slot s)) in
    let r : get_or rs.result.now k [] ≡ slot s k = ap (λ (t : List (List ℕ)). get_or t k []) rs.ensures ∙ get_or-tab (slots s) (slot s) k [] h in (
      omega (arith, c.slot_line-at.ensures.1),
      laid_as (ap (λ (x : List ℕ). lines s k ++ record_line k x) r ∙ lines_more s k) (laid_then c.loop-k.invariant.1 c.slot_line-at.ensures.0),
    )

pub returns : goal.returns
returns c =
    let s : List ℕ = c.args.store.now in
    let e : c.loop-k.k ≡ slots s = omega (arith, ap length c.records_of-r-items.ensures, length-tab (slots s) (slot s)) in
    (laid_as (ap (lines s) e) c.loop-k.invariant.1, omega (arith, c.requires))
