-- The wide block keeps the message's length, and its result is bytes: every step keeps how many blocks there are, and makes blocks of blocks.
-- Assumes nothing.
use mathlib.Core.Path.{◌≡◌, refl, ap, ◌∙◌}
use mathlib.Core.List.{List, [], ◌∷◌}
use Prim.Native.Nat.{ℕ, suc, ◌+◌, ◌*◌, ◌≤◌, ◌<◌}
use native.Mathlib.Nat.{not-suc-le-zero}
use native.Mathlib.Omega.{arith}
use lib.ListN.{length, length-append, length-drop}
use Rattle.block.specs.Bytes.{Bytes, Block}
use Rattle.block.specs.Blocks.{full, rest, blocks, join}
use Rattle.block.specs.Double.{double}
use Rattle.block.specs.Permutation.{Undoes}
use Rattle.block.proofs.BytesLaws.{bytes_append, bytes_drop}
use Rattle.block.proofs.BlockLaws.{length_rest, length-join, length-blocks}
use Rattle.block.proofs.AllBlocks.{AllBlocks, all_sized, all_blocks, bytes_joined}
use Rattle.mode.specs.Wide.{enter, leave, middle, Cm, CCCs, CCC1, wide_on, wide}
use Rattle.mode.proofs.ShortBlock.{length-Cm}
use Rattle.mode.proofs.Undo.{block_enter, block_leave, block_CCC1, block_CCCs, bytes-Cm}

pub length-enter : (f : List ℕ → List ℕ) (L : List ℕ) (Ps : List (List ℕ)) → length (enter f L Ps) ≡ length Ps
unfolding enter
length-enter f L [] = refl
length-enter f L (P ∷ Ps) = ap suc (length-enter f (double L) Ps)

length-leave : (f : List ℕ → List ℕ) (L : List ℕ) (Xs : List (List ℕ)) → length (leave f L Xs) ≡ length Xs
unfolding leave
length-leave f L [] = refl
length-leave f L (X ∷ Xs) = ap suc (length-leave f (double L) Xs)

length-middle : (f : List ℕ → List ℕ) (M1 : List ℕ) (i : ℕ) (M : List ℕ) (Xs : List (List ℕ)) → length (middle f M1 i M Xs) ≡ length Xs
unfolding middle
length-middle f M1 i M [] = refl
length-middle f M1 i M (X ∷ Xs) = ap suc (length-middle f M1 (suc i) _ Xs)

module _ (f g : List ℕ → List ℕ) (u : Undoes f g) {L T : List ℕ} (h_l : Block L) (h_t : Block T) where
  on_blocks_lem : (Xs : List (List ℕ)) → AllBlocks Xs → 0 < length Xs → (s : List ℕ) → length s < 16 → Bytes s
      → (length (wide_on f L T Xs s) ≡ length Xs * 16 + length s) × Bytes (wide_on f L T Xs s)
  unfolding wide_on CCCs
  on_blocks_lem [] k h s ls bs = absurd (not-suc-le-zero h)
  on_blocks_lem (X1 ∷ Xs) k h s ls bs =
      let Y : List (List ℕ) = CCC1 f T X1 Xs s ∷ CCCs f T X1 Xs s in
      let h_y : AllBlocks Y = (block_CCC1 f g u h_t k.0 Xs k.1 s ls bs, block_CCCs f g u h_t k.0 Xs k.1 s ls bs) in
      let C : List (List ℕ) = leave f L Y in
      let h_c : AllBlocks C = block_leave f g u h_l Y h_y in
      let n : length (CCCs f T X1 Xs s) ≡ length Xs = length-middle f _ 2 _ Xs in (
        length-append (join C) (Cm f T X1 Xs s)
            ∙ omega (arith, length-join C (all_sized C h_c), length-leave f L Y, n, length-Cm f T X1 Xs s),
        bytes_append (join C) (Cm f T X1 Xs s) (bytes_joined C h_c) (bytes-Cm f g u h_t k.0 Xs k.1 s ls bs),
      )

  whole : (P : List ℕ) → 16 ≤ length P → Bytes P → (length (wide f L T P) ≡ length P) × Bytes (wide f L T P)
  unfolding wide
  whole P h b =
      let Bs : List (List ℕ) = blocks (full P) P in
      let h_x : AllBlocks (enter f L Bs) = block_enter f g u h_l Bs (all_blocks (full P) P (omega arith) b) in
      let n : length (enter f L Bs) ≡ full P = length-enter f L Bs ∙ length-blocks (full P) P in
      let r = on_blocks_lem (enter f L Bs) h_x (omega arith) (rest P) (length_rest P) (bytes_drop (full P * 16) P b) in
      (r.0 ∙ omega (arith, length-drop (full P * 16) P), r.1)

  pub length-wide : (P : List ℕ) → 16 ≤ length P → Bytes P → length (wide f L T P) ≡ length P
  length-wide P h b = (whole P h b).0

  pub bytes-wide : (P : List ℕ) → 16 ≤ length P → Bytes P → Bytes (wide f L T P)
  bytes-wide P h b = (whole P h b).1
