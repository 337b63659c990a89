-- The key's halves as the code takes them, and what the block calls make with the round keys of each.
-- Assumes nothing.
use mathlib.Core.Path.{◌≡◌, ap, ap₂, ◌∙◌}
use mathlib.Core.Bool.{Bool, true}
use mathlib.Core.List.{List}
use mathlib.Core.Logic.{⊎_elim}
use Prim.Native.Nat.{ℕ, ◌+◌, ◌-◌, ◌/◌}
use native.Mathlib.Omega.{arith}
use lib.ListN.{length, take, drop, length-drop}
use lib.Seq.{length-take-le, take_all}
use Rattle.aes.specs.Aes.{key_size, round_keys, crypted, aes}
use Rattle.aes.specs.Promise.{taken_16, taken_32, crypted_aes}
use Rattle.xts.specs.Xts.{Key1, Key2, key_taken}
use Rattle.xts.proofs.Bounds.{key_good}

-- ---- the halves of a key that is taken

-- half its length is that of an AES key, and both halves are as long
pub record Halves (n : ℕ) : Type 0 where
  pub size : key_size (n / 2) ≡ true
  pub same : n - n / 2 ≡ n / 2

pub halves : (n : ℕ) → key_taken n ≡ true → Halves n
halves n e =
    ⊎_elim
    (λ (h : n ≡ 32). let m : n / 2 ≡ 16 = omega arith in record { size = ap key_size m ∙ taken_16; same = omega arith })
    (λ (h : n ≡ 64). let m : n / 2 ≡ 32 = omega arith in record { size = ap key_size m ∙ taken_32; same = omega arith })
    (key_good n e)

-- the part of the key from its middle on
pub key2_part : (k : List ℕ) → take (length k - length k / 2) (drop (length k / 2) k) ≡ Key2 k
key2_part k = take_all (length k - length k / 2) (drop (length k / 2) k) (omega (arith, length-drop (length k / 2) k))

module _ (k : List ℕ) (t : key_taken (length k) ≡ true) where
  pub length-Key1 : length (Key1 k) ≡ length k / 2
  length-Key1 = length-take-le (length k / 2) k (omega (arith, (halves (length k) t).same))

  pub length-Key2 : length (Key2 k) ≡ length k / 2
  length-Key2 = length-drop (length k / 2) k ∙ (halves (length k) t).same

  pub size_1 : key_size (length (Key1 k)) ≡ true
  size_1 = ap key_size length-Key1 ∙ (halves (length k) t).size

  pub size_2 : key_size (length (Key2 k)) ≡ true
  size_2 = ap key_size length-Key2 ∙ (halves (length k) t).size

  -- the part of the key from 0 on, up to its middle
  pub key1_part : take (length k / 2 - 0) k ≡ Key1 k
  key1_part =
      let n : length k / 2 - 0 ≡ length k / 2 = omega arith in
      ap (λ (j : ℕ). take j k) n

-- what the block calls make with the round keys of a part of the key
pub under : (back : Bool) (keys : List (List ℕ)) (nr : ℕ) (part key : List ℕ) → part ≡ key → keys ≡ round_keys part → nr ≡ length part / 4 + 6
    → crypted back keys nr ≡ aes back key
under back keys nr part key e p q =
    ap₂ (crypted back) (p ∙ ap round_keys e) (q ∙ ap (λ (x : List ℕ). length x / 4 + 6) e) ∙ (λ i x. crypted_aes back key x i)
