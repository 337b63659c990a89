-- T_star is a block, whatever the associated data.
-- Assumes nothing.
use mathlib.Core.List.{List, [], ◌∷◌, ◌++◌}
use Prim.Native.Nat.{ℕ, ◌*◌, ◌<◌}
use native.Mathlib.Omega.{arith}
use lib.ListN.{length}
use Rattle.block.specs.Bytes.{Bytes, Block}
use Rattle.block.specs.Blocks.{full, rest, blocks}
use Rattle.block.specs.Double.{double, doubles}
use Rattle.block.specs.Permutation.{Undoes}
use Rattle.block.proofs.XorLaws.{block_⊕}
use Rattle.block.proofs.BytesLaws.{bytes_drop, block_zeros}
use Rattle.block.proofs.BlockLaws.{length_rest}
use Rattle.block.proofs.AllBlocks.{AllBlocks, all_append, all_blocks}
use Rattle.block.proofs.DoubleLaws.{block_double, block_pad}
use Rattle.mode.specs.TStar.{TTs, short_tt, sum, some_t_star, t_star, eme2_t_star}
use Rattle.mode.proofs.Totals.{block_total}

block_sum : (Ts : List (List ℕ)) → AllBlocks Ts → Block (sum Ts)
unfolding sum
block_sum [] k = block_zeros
block_sum (T ∷ Ts) k = block_total Ts k.0 k.1

module _ (f g : List ℕ → List ℕ) (u : Undoes f g) where
  block_TTs : {R : List ℕ} → Block R → (Ts : List (List ℕ)) → AllBlocks Ts → AllBlocks (TTs f R Ts)
  unfolding TTs
  block_TTs h_r [] k = tt
  block_TTs {R} h_r (T ∷ Ts) k = (block_⊕ (u.keeps (block_⊕ h_r k.0)) h_r, block_TTs {R = double R} (block_double R) Ts k.1)

  block_short : {R : List ℕ} → Block R → (s : List ℕ) → length s < 16 → Bytes s → AllBlocks (short_tt f R s)
  unfolding short_tt
  block_short h_r [] h k = tt
  block_short h_r (x ∷ s) h k = (block_⊕ (u.keeps (block_⊕ h_r (block_pad (x ∷ s) h k))) h_r, tt)

  pub block_t_star : {Key3 : List ℕ} → Block Key3 → (T : List ℕ) → Bytes T → Block (eme2_t_star f Key3 T)
  unfolding t_star some_t_star
  block_t_star h [] b = u.keeps h
  block_t_star {Key3} h (x ∷ T) b =
      let t : List ℕ = x ∷ T in
      let R : List ℕ = double (doubles (full t) (double Key3)) in
      block_sum (TTs f (double Key3) (blocks (full t) t) ++ short_tt f R (rest t))
      (all_append (TTs f (double Key3) (blocks (full t) t)) (short_tt f R (rest t))
      (block_TTs (block_double Key3) (blocks (full t) t) (all_blocks (full t) t (omega arith) b))
      (block_short (block_double (doubles (full t) (double Key3))) (rest t) (length_rest t) (bytes_drop (full t * 16) t b)))
