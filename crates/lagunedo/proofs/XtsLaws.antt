-- What stands in the 16 bytes behind the pointer after a call for a block, by its answer.
-- Assumes nothing.
use mathlib.Core.Path.{◌≡◌, sym, ap, ◌∙◌}
use mathlib.Core.Bool.{Bool, cond}
use mathlib.Core.List.{List}
use Prim.Native.Nat.{ℕ, ◌*◌}
use native.Mathlib.Omega.{arith}
use borrow.Author.Tests.{ne_eqb}
use lib.Dec.{eqb}
use lib.ListN.{length, replicate}
use Rattle.block.specs.Blocks.{block_at}
use Rattle.numbers.specs.declared.Refusal.{Refusal}
use Rattle.numbers.specs.Numbers.{paper, some_number}
use Rattle.xts.specs.Xts.{block_number, block_under, block_answered}

module _ (k : List ℕ) (i : ℕ) (u : List ℕ) (j : ℕ) (b : List ℕ) where
  pub block_given : block_number (length k) (length u) j ≡ 0
      → block_answered k i u j ≡ cond (eqb (block_number (length k) (length u) j) 0) (block_under k i j (block_at u (16 * j))) b
  unfolding block_answered
  block_given e =
      ap (λ (n : ℕ). cond (eqb n 0) (block_under k i j (block_at u (16 * j))) (replicate 16 0)) e
      ∙ sym (ap (λ (n : ℕ). cond (eqb n 0) (block_under k i j (block_at u (16 * j))) b) e)

  pub block_kept : (x : Refusal) → paper x ≡ block_number (length k) (length u) j
      → b ≡ cond (eqb (block_number (length k) (length u) j) 0) (block_under k i j (block_at u (16 * j))) b
  block_kept x e =
      let n : ℕ = block_number (length k) (length u) j in
      sym
      (ap (λ (t : Bool). cond t (block_under k i j (block_at u (16 * j))) b)
      (ne_eqb n 0 (λ q. let z : ⊥ = omega (arith, some_number x) in z)))
