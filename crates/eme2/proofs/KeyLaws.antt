-- The key's fields as the code takes them, and the transform from what its calls ensure.
-- Assumes nothing.
use mathlib.Core.Path.{◌≡◌, ap, ap₂, ◌∙◌}
use mathlib.Core.Bool.{Bool, true, false}
use mathlib.Core.List.{List}
use Prim.Native.Nat.{ℕ, ◌+◌, ◌-◌, ◌/◌, ◌≤◌}
use native.Mathlib.Omega.{arith}
use lib.ListN.{length, take, drop, length-drop}
use lib.Seq.{length-take-le, take_all}
use Rattle.block.specs.Blocks.{block_at}
use Rattle.aes.specs.Aes.{round_keys, crypted, aes}
use Rattle.aes.specs.Promise.{key_bounds, crypted_aes}
use Rattle.mode.specs.Wide.{wide}
use Rattle.mode.specs.TStar.{eme2_t_star}
use Rattle.eme2.specs.Transform.{Key1, Key2, Key3, key_taken, eme2}

module _ (k : List ℕ) (h : 32 ≤ length k) where
  pub length-Key1 : length (Key1 k) ≡ length k - 32
  length-Key1 = length-take-le (length k - 32) k (omega arith)

  -- the last 16 bytes, loaded as a block
  pub key3_loaded : block_at k (length k - 32 + 16) ≡ Key3 k
  key3_loaded =
      let n : length k - 32 + 16 ≡ length k - 16 = omega arith in
      ap (λ (j : ℕ). take 16 (drop j k)) n ∙ take_all 16 (drop (length k - 16) k) (omega (arith, length-drop (length k - 16) k))

  -- each hypothesis is what one call of the code ensures
  pub transformed : (back : Bool) (ad m : List ℕ) (keys : List (List ℕ)) (nr : ℕ) (k3 t l m' : List ℕ)
      → keys ≡ round_keys (Key1 k)
      → nr ≡ length (Key1 k) / 4 + 6
      → k3 ≡ block_at k (length k - 32 + 16)
      → t ≡ eme2_t_star (crypted false keys nr) k3 ad
      → l ≡ block_at k (length k - 32)
      → m' ≡ wide (crypted back keys nr) l t m
      → m' ≡ eme2 back k ad m
  unfolding eme2
  transformed back ad m keys nr k3 t l m' e_keys e_n e_3 e_t e_l e_m =
      let same : (b : Bool) → crypted b keys nr ≡ aes b (Key1 k) =
      λ b. ap₂ (crypted b) e_keys e_n ∙ (λ i x. crypted_aes b (Key1 k) x i) in
      e_m
      ∙ ap₂ (λ (f : List ℕ → List ℕ) (x : List ℕ). wide f x t m) (same back) e_l
      ∙ ap (λ (x : List ℕ). wide (aes back (Key1 k)) (Key2 k) x m)
      (e_t ∙ ap₂ (λ (f : List ℕ → List ℕ) (x : List ℕ). eme2_t_star f x ad) (same false) (e_3 ∙ key3_loaded))

-- a key of an allowed size
pub key_long : (k : List ℕ) → key_taken k ≡ true → (48 ≤ length k) × (length k ≤ 64)
key_long k e = omega (arith, key_bounds (length k - 32) e)
