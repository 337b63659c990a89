-- A block that can be read alone is, in the whole unit, what its own 16 bytes and its own tweak make of it: T doubled as often as there are blocks before it.
-- Assumes nothing.
use mathlib.Core.Path.{◌≡◌, refl, sym, ap, ◌∙◌}
use mathlib.Core.Bool.{Bool}
use mathlib.Core.List.{List, [], ◌∷◌, ◌++◌, append_assoc}
use Prim.Native.Nat.{ℕ, zero, suc, ◌+◌, ◌*◌, ◌≤◌, ◌<◌}
use native.Mathlib.Nat.{le_of_suc-le-suc, not-suc-le-zero}
use native.Mathlib.Omega.{arith}
use lib.ListN.{length, get_or, take, drop}
use lib.Seq.{take_at, drop_at, drop-drop}
use Rattle.block.specs.Bytes.{Bytes, Block}
use Rattle.block.specs.Blocks.{block_at, blocks, join}
use Rattle.block.specs.Double.{double, doubles}
use Rattle.block.specs.Permutation.{Undoes}
use Rattle.block.proofs.BlockLaws.{Sized, length-blocks}
use Rattle.block.proofs.AllBlocks.{AllBlocks, all_sized, all_blocks}
use Rattle.unit.specs.Unit.{alone, xts_block, xts_blocks, last_two, xts_unit}
use Rattle.unit.proofs.AloneLaws.{left_of}
use Rattle.unit.proofs.Undo.{length-xts_blocks, all_xts_blocks}

-- block j of what is put together from blocks, of the first n blocks of a list, and of a list of blocks under their tweaks
at_join : (bs : List (List ℕ)) (s : List ℕ) (j : ℕ) → Sized bs → j < length bs → block_at (join bs ++ s) (16 * j) ≡ get_or bs j []
unfolding join
at_join [] s j h k = absurd (not-suc-le-zero k)
at_join (b ∷ bs) s zero h k = ap (λ (l : List ℕ). take 16 l) (append_assoc b (join bs) s) ∙ take_at b (join bs ++ s) 16 h.0
at_join (b ∷ bs) s (suc j) h k =
    let m : 16 * suc j ≡ 16 + 16 * j = omega arith in
    ap (λ (i : ℕ). block_at (b ++ join bs ++ s) i) m
    ∙ ap (λ (l : List ℕ). take 16 l) (sym (drop-drop (16 * j) 16 (b ++ join bs ++ s)))
    ∙ ap (λ (l : List ℕ). block_at l (16 * j))
    (ap (λ (l : List ℕ). drop 16 l) (append_assoc b (join bs) s) ∙ drop_at b (join bs ++ s) 16 h.0)
    ∙ at_join bs s j h.1 (le_of_suc-le-suc k)

blocks_at : (n : ℕ) (l : List ℕ) (j : ℕ) → j < n → get_or (blocks n l) j [] ≡ block_at l (16 * j)
unfolding blocks
blocks_at zero l j h = absurd (not-suc-le-zero h)
blocks_at (suc n) l zero h = refl
blocks_at (suc n) l (suc j) h =
    let m : 16 + 16 * j ≡ 16 * suc j = omega arith in
    blocks_at n (drop 16 l) j (le_of_suc-le-suc h)
    ∙ ap (λ (x : List ℕ). take 16 x) (drop-drop (16 * j) 16 l)
    ∙ ap (λ (i : ℕ). block_at l i) m

xts_blocks-at : (f : List ℕ → List ℕ) (T : List ℕ) (Ps : List (List ℕ)) (j : ℕ) → j < length Ps
    → get_or (xts_blocks f T Ps) j [] ≡ xts_block f (doubles j T) (get_or Ps j [])
unfolding xts_blocks doubles
xts_blocks-at f T [] j h = absurd (not-suc-le-zero h)
xts_blocks-at f T (P ∷ Ps) zero h = refl
xts_blocks-at f T (P ∷ Ps) (suc j) h = xts_blocks-at f (double T) Ps j (le_of_suc-le-suc h)

module _ (f g : List ℕ → List ℕ) (u : Undoes f g) where
  pub one_block : (back : Bool) {T : List ℕ} → Block T → (P : List ℕ) → 16 ≤ length P → Bytes P → (j : ℕ) → j < alone (length P)
      → block_at (xts_unit f back T P) (16 * j) ≡ xts_block f (doubles j T) (block_at P (16 * j))
  unfolding xts_unit
  one_block back {T} h_t P h b j k =
      let n : ℕ = alone (length P) in
      let Ps : List (List ℕ) = blocks n P in
      let X : List (List ℕ) = xts_blocks f T Ps in
      let h_x : AllBlocks X = all_xts_blocks f g u h_t Ps (all_blocks n P (left_of (length P) h).within b) in
      at_join X (last_two f back (doubles n T) (drop (16 * n) P)) j (all_sized X h_x) (omega (arith, length-xts_blocks f T Ps, length-blocks n P))
      ∙ xts_blocks-at f T Ps j (omega (arith, length-blocks n P))
      ∙ ap (xts_block f (doubles j T)) (blocks_at n P j k)
