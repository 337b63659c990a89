-- Each way out of the calls, from the answer of the tests that leads there.
-- Assumes nothing.
use Rattle.std.specs.Prelude.{Err, Ok}
use mathlib.Core.Path.{◌≡◌, refl, sym, ap, ◌∙◌}
use mathlib.Core.Bool.{Bool, true, false, cond}
use mathlib.Core.List.{List}
use Prim.Native.Nat.{ℕ, ◌*◌, ◌≤◌, ◌<◌}
use native.Mathlib.Omega.{arith}
use borrow.Author.Tests.{ne_eqb, lt-ltb, le-ltb}
use lib.Dec.{eqb, ltb}
use lib.ListN.{length, replicate}
use Rattle.block.specs.Blocks.{block_at}
use Rattle.numbers.specs.declared.Refusal.{Refusal}
use Rattle.numbers.specs.declared.Refusal.TheVariants.{BlockNotAlone}
use Rattle.numbers.specs.Numbers.{paper, some_number}
use Rattle.unit.specs.Unit.{alone}
use Rattle.xts.specs.Xts.{number, xts, afterwards, block_number, block_under, block_answered}
use Rattle.xts.specs.Calls.{Called, BlockCalled}
use Rattle.xts.proofs.Bounds.{block_by}

-- no refusal has the number 0
not_0 : (x : Refusal) → eqb (paper x) 0 ≡ false
not_0 x = ne_eqb (paper x) 0 (λ (e : paper x ≡ 0). omega (arith, some_number x))

-- ---- a unit

module _ (back : Bool) (k : List ℕ) (i : ℕ) (u : List ℕ) where
  -- the unit that goes with a number
  with_number : (n : ℕ) → number (length k) (length u) ≡ n → afterwards back k i u ≡ cond (eqb n 0) (xts back k i u) u
  unfolding afterwards
  with_number n e = ap (λ (m : ℕ). cond (eqb m 0) (xts back k i u) u) e

  pub refused : (x : Refusal) → paper x ≡ number (length k) (length u) → Called back k i u (Err x) u
  refused x e = (e, sym (with_number (paper x) (sym e) ∙ ap (λ (t : Bool). cond t (xts back k i u) u) (not_0 x)))

  pub done : 0 ≡ number (length k) (length u) → (u' : List ℕ) → u' ≡ xts back k i u → Called back k i u (Ok tt) u'
  done e u' p = (e, p ∙ sym (with_number 0 (sym e)))

-- ---- a single block

module _ (k : List ℕ) (i : ℕ) (u : List ℕ) (j : ℕ) where
  -- refused as the unit is
  pub unit_refused : (x : Refusal) → paper x ≡ number (length k) (length u) → BlockCalled k i u j (Err x)
  unit_refused x e =
      let t : Bool = ltb j (alone (length u)) in
      let n : block_number (length k) (length u) j ≡ paper x =
      block_by (length k) (length u) j (paper x) t (sym e) refl ∙ ap (λ (z : Bool). cond z (cond t 0 17) (paper x)) (not_0 x) in
      (sym n, tt)

  -- the unit is taken, and the block can't be read alone
  pub not_alone : 0 ≡ number (length k) (length u) → alone (length u) ≤ j → BlockCalled k i u j (Err BlockNotAlone)
  not_alone e h = (sym (block_by (length k) (length u) j 0 false (sym e) (le-ltb j (alone (length u)) h)), tt)

  pub block_done : (b : List ℕ) → b ≡ block_under k i j (block_at u (16 * j)) → 0 ≡ number (length k) (length u) → j < alone (length u)
      → BlockCalled k i u j (Ok b)
  unfolding block_answered
  block_done b q e h =
      let n : block_number (length k) (length u) j ≡ 0 = block_by (length k) (length u) j 0 true (sym e) (lt-ltb j (alone (length u)) h) in
      (sym n, q ∙ sym (ap (λ (m : ℕ). cond (eqb m 0) (block_under k i j (block_at u (16 * j))) (replicate 16 0)) n))
