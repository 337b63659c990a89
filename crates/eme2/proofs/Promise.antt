-- What is proved of the transform for every key, associated data and message, refused or not: the length is kept, bytes stay bytes, and each
-- direction undoes the other.
-- Assumes nothing.
use mathlib.Core.Path.{◌≡◌, refl, ap, ◌∙◌}
use mathlib.Core.Bool.{Bool, true, false, cond, not}
use mathlib.Core.List.{List}
use Prim.Native.Nat.{ℕ, ◌-◌, ◌≤◌}
use native.Mathlib.Omega.{arith}
use borrow.Author.Tests.{eqb-true}
use lib.Dec.{eqb}
use lib.ListN.{length, drop, length-drop}
use lib.Seq.{length-take-le}
use Rattle.block.specs.Bytes.{Bytes, Block}
use Rattle.block.specs.Permutation.{Undoes}
use Rattle.block.proofs.BytesLaws.{bytes_take, bytes_drop}
use Rattle.aes.specs.Aes.{key_size, aes}
use Rattle.aes.specs.Promise.{aes_block, aes_undone}
use Rattle.mode.specs.TStar.{eme2_t_star}
use Rattle.mode.proofs.Undo.{wide_undone}
use Rattle.mode.proofs.Lengths.{length-wide, bytes-wide}
use Rattle.mode.proofs.TStarLaws.{block_t_star}
use Rattle.eme2.specs.Transform.{Key1, Key2, Key3, key_taken, number, eme2, afterwards}
use Rattle.eme2.proofs.Bounds.{number_0}
use Rattle.eme2.proofs.KeyLaws.{length-Key1, key_long}

module _ (k ad m : List ℕ) (bk : Bytes k) (bad : Bytes ad) (bm : Bytes m) (e : number k ad m ≡ 0) where
  key_good : key_taken k ≡ true
  key_good = ((number_0 k ad m).0 e).0

  long : 16 ≤ length m
  long = ((number_0 k ad m).0 e).1.0

  fields : 48 ≤ length k
  fields = (key_long k key_good).0

  size : key_size (length (Key1 k)) ≡ true
  size = ap key_size (length-Key1 k (omega (arith, fields))) ∙ key_good

  bytes1 : Bytes (Key1 k)
  bytes1 = bytes_take (length k - 32) k bk

  block2 : Block (Key2 k)
  block2 =
      record {
        size = length-take-le 16 (drop (length k - 32) k) (omega (arith, fields, length-drop (length k - 32) k));
        bytes = bytes_take 16 (drop (length k - 32) k) (bytes_drop (length k - 32) k bk);
      }

  block3 : Block (Key3 k)
  block3 = record { size = length-drop (length k - 16) k ∙ omega (arith, fields); bytes = bytes_drop (length k - 16) k bk }

  undoes : (back : Bool) → Undoes (aes back (Key1 k)) (aes (not back) (Key1 k))
  undoes back = record { keeps = λ {b} h. aes_block (Key1 k) size bytes1 back h; back = λ {b} h. aes_undone (Key1 k) size bytes1 back h }

  star : Block (eme2_t_star (aes false (Key1 k)) (Key3 k) ad)
  star = block_t_star (aes false (Key1 k)) (aes true (Key1 k)) (undoes false) block3 ad bad

  length-eme2 : (back : Bool) → length (eme2 back k ad m) ≡ length m
  unfolding eme2
  length-eme2 back = length-wide (aes back (Key1 k)) (aes (not back) (Key1 k)) (undoes back) block2 star m long bm

  bytes-eme2 : (back : Bool) → Bytes (eme2 back k ad m)
  unfolding eme2
  bytes-eme2 back = bytes-wide (aes back (Key1 k)) (aes (not back) (Key1 k)) (undoes back) block2 star m long bm

  eme2_undone : (back : Bool) → eme2 (not back) k ad (eme2 back k ad m) ≡ m
  unfolding eme2
  eme2_undone back = wide_undone (aes back (Key1 k)) (aes (not back) (Key1 k)) (undoes back) block2 star m long bm

-- a message of the same length is taken as well
still_taken : (k ad m m' : List ℕ) → length m' ≡ length m → number k ad m ≡ 0 → number k ad m' ≡ 0
still_taken k ad m m' e n =
    let t = (number_0 k ad m).0 n in
    let h : (16 ≤ length m') × (length m' ≤ 65536) = omega (arith, t.1) in
    (number_0 k ad m').1 (t.0, h, t.2)

module _ (back : Bool) (k ad m : List ℕ) (bk : Bytes k) (bad : Bytes ad) (bm : Bytes m) where
  -- refused or not
  both : (t : Bool) → eqb (number k ad m) 0 ≡ t
      → (length (cond t (eme2 back k ad m) m) ≡ length m) × (afterwards (not back) k ad (cond t (eme2 back k ad m) m) ≡ m)
  unfolding afterwards
  both true e =
      let n : number k ad m ≡ 0 = eqb-true (number k ad m) 0 e in
      let c : List ℕ = eme2 back k ad m in
      let l : length c ≡ length m = length-eme2 k ad m bk bad bm n back in
      (l, ap (λ (x : ℕ). cond (eqb x 0) (eme2 (not back) k ad c) c) (still_taken k ad m c l n) ∙ eme2_undone k ad m bk bad bm n back)
  both false e = (refl, ap (λ (t : Bool). cond t (eme2 (not back) k ad m) m) e)

  pub length_kept : length (afterwards back k ad m) ≡ length m
  unfolding afterwards
  length_kept = (both (eqb (number k ad m) 0) refl).0

  pub undone : afterwards (not back) k ad (afterwards back k ad m) ≡ m
  unfolding afterwards
  undone = (both (eqb (number k ad m) 0) refl).1

  pub bytes_kept : Bytes (afterwards back k ad m)
  unfolding afterwards
  bytes_kept = by_number (eqb (number k ad m) 0) refl
    where
      by_number : (t : Bool) → eqb (number k ad m) 0 ≡ t → Bytes (cond t (eme2 back k ad m) m)
      by_number true e = bytes-eme2 k ad m bk bad bm (eqb-true (number k ad m) 0 e) back
      by_number false e = bm
