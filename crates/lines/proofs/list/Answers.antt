-- `lines::list` meets its contract: each way out lays the output that the definition has there.
-- Assumes nothing.
use mathlib.Core.Path.{◌≡◌, sym, ap, ◌∙◌}
use mathlib.Core.List.{List}
use Prim.Native.Nat.{ℕ}
use native.Mathlib.Omega.{arith}
use Rattle.std.proofs.Common.{Ok, Err}
use Rattle.numbers.specs.Numbers.{paper}
use Rattle.checking.specs.declared.Counts.{Counts}
use Rattle.checking.specs.declared.Checked.{Checked}
use Rattle.checking.specs.declared.Checked.TheVariants.{Fault}
use Rattle.checking.specs.declared.Checked.TheVariants as checked
use Rattle.checking.specs.Check.{check_answer}
use Rattle.lines.specs.Listing.{newline, too_long, refused, fault_at, named}
use Rattle.lines.proofs.LaidLaws.{laid_then}
use Rattle.lines.proofs.ListingLaws.{listing_long, listing_checked, listed}
use Rattle.lines.proofs.list.Goals as goal

pub returns-then-store-gt-MOST : goal.returns-then-store-gt-MOST
unfolding too_long
returns-then-store-gt-MOST c =
    let s : List ℕ = c.args.store.now in
    (listed s (listing_long s c.if-store-gt-MOST.true) c.text.ensures, omega (arith, c.text.ensures.place))

pub returns-in-Err : goal.returns-in-Err
unfolding refused
returns-in-Err c =
    let s : List ℕ = c.args.store.now in
    let x = c.in-Err.x in
    let n : named refused c.from.result newline ≡ named refused (paper x) newline = ap (λ (k : ℕ). named refused k newline) c.from.ensures in
    (listed s (listing_checked s (Err x) c.if-store-gt-MOST.false c.in-Err.ensures ∙ sym n) c.named.ensures.0, omega (arith, c.named.ensures.1))

pub returns-in-Ok-Fault : goal.returns-in-Ok-Fault
unfolding fault_at
returns-in-Ok-Fault c =
    let s : List ℕ = c.args.store.now in
    let k : ℕ = c.in-Ok-Fault.k in
    let e : Ok (Fault k) ≡ check_answer s = ap (λ (x : Checked). Ok x) (sym c.in-Ok-Fault.field-0-is) ∙ c.in-Ok-Fault.ensures in
    (listed s (listing_checked s (Ok (Fault k)) c.if-store-gt-MOST.false e) c.named-in-Ok-Fault.ensures.0, omega (arith, c.named-in-Ok-Fault.ensures.1))

pub returns-in-Ok-Counts : goal.returns-in-Ok-Counts
returns-in-Ok-Counts c =
    let s : List ℕ = c.args.store.now in
    let x : Counts = c.in-Ok-Counts.c in
    let e : Ok (checked.Counts x) ≡ check_answer s = ap (λ (y : Checked). Ok y) (sym c.in-Ok-Counts.field-0-is) ∙ c.in-Ok-Counts.ensures in (
      listed s (listing_checked s (Ok (checked.Counts x)) c.if-store-gt-MOST.false e) (laid_then c.used_lines-at.ensures.0 c.counts.ensures.0),
      omega (arith, c.used_lines-at.ensures.1, c.counts.ensures.1),
    )
