-- `lines::laying::text` meets its contract: the bytes passed are laid.
-- Assumes nothing.
use mathlib.Core.Path.{sym, ap}
use Prim.Native.Nat.{ℕ}
use native.Mathlib.Numerals.{add-one}
use native.Mathlib.Omega.{arith}
use lib.ListN.{take}
use Rattle.lines.proofs.LaidLaws.{laid_as, laid_more}
use Rattle.lines.proofs.laying.text.Goals as goal

pub loop-x-preserved : goal.loop-x-preserved
loop-x-preserved c =
    let a = c.args in
    laid_as (ap (λ (n : ℕ). take n a.t.now) (sym (add-one c.loop-x.x-index)))
    (laid_more a.t.now c.loop-x.x-index (omega arith) c.loop-x.invariant c.put-next.ensures)
