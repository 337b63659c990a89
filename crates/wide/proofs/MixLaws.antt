-- The mixing as the code makes it: running sums, and one block after the other.
-- Assumes nothing.
use mathlib.Core.Path.{◌≡◌, ap, ap₂, ◌∙◌}
use mathlib.Core.Bool.{Bool, true, false, cond}
use mathlib.Core.List.{List, [], ◌∷◌, ◌++◌}
use Prim.Native.Nat.{ℕ, ◌+◌, ◌-◌, ◌*◌, ◌%◌, ◌≤◌, ◌<◌}
use native.Mathlib.Omega.{arith}
use borrow.Author.Tests.{eq-eqb, ne_eqb}
use lib.Dec.{eqb}
use lib.ListN.{length, take, drop}
use Rattle.block.specs.Xor.{◌⊕◌}
use Rattle.block.specs.Blocks.{full, blocks}
use Rattle.block.specs.Double.{double, pad}
use Rattle.block.proofs.XorLaws.{length_⊕}
use Rattle.block.proofs.BlockLaws.{first_block, first_rest}
use Rattle.mode.specs.Wide.{total, padded, begins, mask, ccc_of}
use Rattle.mode.proofs.ShortBlock.{not_short, is_short_lem}
use Rattle.wide.specs.Passes.{total_of}

-- ---- steps 18 and 40: a running sum

pub total_turn : (X d : List ℕ) → 16 ≤ length d → total_of X d ≡ total_of (X ⊕ take 16 d) (drop 16 d)
unfolding total
total_turn X d h = ap₂ (λ (xs : List (List ℕ)) (r : List ℕ). total X (xs ++ padded r)) (first_block d h) (first_rest d h)

total_last : (X d : List ℕ) → length d < 16 → total_of X d ≡ total X (padded d)
unfolding blocks
total_last X d h =
    let e : full d ≡ 0 = omega arith in
    ap (λ (k : ℕ). total X (blocks k d ++ padded (drop (k * 16) d))) e

pub total_end : (X d : List ℕ) → length d ≡ 0 → total_of X d ≡ X
unfolding total padded
total_end X d h = total_last X d (omega arith) ∙ ap (λ (t : Bool). total X (cond t (pad d ∷ []) [])) (not_short d h)

pub total_short : (X d : List ℕ) → 0 < length d → length d < 16 → total_of X d ≡ X ⊕ pad d
unfolding total padded
total_short X d h k = total_last X d k ∙ ap (λ (t : Bool). total X (cond t (pad d ∷ []) [])) (is_short_lem d h)

-- ---- steps 24 to 32 and 36 to 39: block k, counted from 0

begins_at : (k : ℕ) (t : Bool) → eqb (k % 128) 0 ≡ t → begins (k + 1) ≡ t
begins_at k t e =
    let n : k + 1 - 1 ≡ k = omega arith in
    ap (λ (j : ℕ). eqb (j % 128) 0) n ∙ e

module _ (f : List ℕ → List ℕ) (M1 : List ℕ) (k : ℕ) (M X : List ℕ) where
  pub mask_doubled : (k % 128 ≡ 0 → ⊥) → mask f M1 (k + 1) M X ≡ double M
  mask_doubled h = ap (λ (t : Bool). cond t ((X ⊕ M1) ⊕ f (X ⊕ M1)) (double M)) (begins_at k false (ne_eqb (k % 128) 0 h))

  pub mask_new : k % 128 ≡ 0 → mask f M1 (k + 1) M X ≡ (X ⊕ M1) ⊕ f (X ⊕ M1)
  mask_new h = ap (λ (t : Bool). cond t ((X ⊕ M1) ⊕ f (X ⊕ M1)) (double M)) (begins_at k true (eq-eqb (k % 128) 0 h))

  pub ccc_doubled : (k % 128 ≡ 0 → ⊥) → ccc_of f M1 (k + 1) M X ≡ X ⊕ M
  ccc_doubled h = ap (λ (t : Bool). cond t (f (X ⊕ M1) ⊕ M1) (X ⊕ M)) (begins_at k false (ne_eqb (k % 128) 0 h))

  pub ccc_new : k % 128 ≡ 0 → ccc_of f M1 (k + 1) M X ≡ f (X ⊕ M1) ⊕ M1
  ccc_new h = ap (λ (t : Bool). cond t (f (X ⊕ M1) ⊕ M1) (X ⊕ M)) (begins_at k true (eq-eqb (k % 128) 0 h))

module _ (f : List ℕ → List ℕ) (size : (x : List ℕ) → length (f x) ≡ 16) where
  of_ccc : (t : Bool) (M1 M X : List ℕ) → length X ≡ 16 → length (cond t (f (X ⊕ M1) ⊕ M1) (X ⊕ M)) ≡ 16
  of_ccc true M1 M X h = length_⊕ (f (X ⊕ M1)) M1 ∙ size (X ⊕ M1)
  of_ccc false M1 M X h = length_⊕ X M ∙ h

  pub length_ccc : (M1 : List ℕ) (i : ℕ) (M X : List ℕ) → length X ≡ 16 → length (ccc_of f M1 i M X) ≡ 16
  length_ccc M1 i M X h = of_ccc (begins i) M1 M X h
