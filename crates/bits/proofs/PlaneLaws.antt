-- Bytes of words and of planes, by their bits: what turning planes makes of bytes.
-- Assumes nothing.
use mathlib.Core.Path.{◌≡◌, refl, sym, ap, ◌∙◌}
use mathlib.Core.List.{List, [], ◌∷◌}
use Prim.Native.Nat.{ℕ, suc, ◌+◌, ◌*◌, ◌/◌, ◌^◌, ◌<◌}
use native.Mathlib.Nat.{add_comm}
use native.Mathlib.Omega.{arith}
use lib.ListN.{get_or}
use Rattle.block.specs.Tab.{tab}
use Rattle.block.proofs.TabLaws.{tab_ext}
use Rattle.bits.specs.Planes.{bit, of_bits, byte_at, byte_of, Flipped, Placed}
use Rattle.bits.specs.Wires.{value, merge}
use Rattle.bits.proofs.BitLaws.{bit_right, of_bits_lem}
use Rattle.bits.proofs.WireLaws.{merged_bit}

-- a byte of a word, by its bits
pub byte_bits : (w c : ℕ) → of_bits (tab 8 (λ i. bit w (8 * c + i))) ≡ byte_of w c
byte_bits w c =
    ap of_bits (tab_ext 8 (λ i. bit w (8 * c + i)) (λ i. bit (w / 2 ^ (8 * c)) i) (λ i h. sym (bit_right w (8 * c) i)))
    ∙ of_bits_lem 8 (w / 2 ^ (8 * c))

-- eight words
module _ (x₀ x₁ x₂ x₃ x₄ x₅ x₆ x₇ : ℕ) where
  abbrev eight : List ℕ
  eight = x₀ ∷ x₁ ∷ x₂ ∷ x₃ ∷ x₄ ∷ x₅ ∷ x₆ ∷ x₇ ∷ []

  -- a byte of planes, by its bits
  plane_bits : (k : ℕ) → byte_at eight k ≡ of_bits (tab 8 (λ i. bit (get_or eight i 0) k))
  unfolding byte_at
  plane_bits k = refl

  -- words of bytes turned into planes
  pub flip_planes : (q : List ℕ) → Flipped q eight → (j c : ℕ) → j < 8 → c < 4 → byte_at eight (8 * c + j) ≡ byte_of (get_or q j 0) c
  flip_planes q f j c h k =
      plane_bits (8 * c + j)
      ∙ ap of_bits (tab_ext 8 (λ i. bit (get_or eight i 0) (8 * c + j)) (λ i. bit (get_or q j 0) (8 * c + i)) (λ i l. f.at i j c l h k))
      ∙ byte_bits (get_or q j 0) c

  -- and planes into words of bytes
  pub flip_words : (r : List ℕ) → Flipped eight r → (j c : ℕ) → j < 8 → c < 4 → byte_at eight (8 * c + j) ≡ byte_of (get_or r j 0) c
  flip_words r f j c h k =
      plane_bits (8 * c + j)
      ∙ ap of_bits (tab_ext 8 (λ i. bit (get_or eight i 0) (8 * c + j)) (λ i. bit (get_or r j 0) (8 * c + i)) (λ i l. sym (f.at j i c h l k)))
      ∙ byte_bits (get_or r j 0) c

  -- bit 0 of every byte, merged
  pub placed_merge : Placed (value eight merge) eight
  placed_merge = record {
    at = λ c k.
        plane_bits (8 * c)
        ∙ ap of_bits (tab_ext 8 (λ i. bit (get_or eight i 0) (8 * c)) (λ i. bit (value eight merge) (8 * c + i)) (λ i l. sym (merged_bit eight i c l k)))
        ∙ byte_bits (value eight merge) c;
  }

-- a word shifted
shift_bit : (w c i : ℕ) → bit (w / 2 ^ i) (8 * c) ≡ bit w (8 * c + i)
shift_bit w c i = bit_right w i (8 * c) ∙ ap (λ (j : ℕ). bit w j) (add_comm i (8 * c))

pub placed_shift : (w : ℕ) → Placed w (w ∷ w / 2 ∷ w / 4 ∷ w / 8 ∷ w / 16 ∷ w / 32 ∷ w / 64 ∷ w / 128 ∷ [])
unfolding byte_at
placed_shift w = record {
  at = λ c k.
      ap (λ (x : ℕ). of_bits (bit x (8 * c) ∷ tab 7 (λ i. bit (w / 2 ^ suc i) (8 * c)))) (sym (one w))
      ∙ ap of_bits (tab_ext 8 (λ i. bit (w / 2 ^ i) (8 * c)) (λ i. bit w (8 * c + i)) (λ i h. shift_bit w c i))
      ∙ byte_bits w c;
}
  where
    one : (w : ℕ) → w / 1 ≡ w
    one w = omega arith
