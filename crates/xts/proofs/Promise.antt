-- What is proved of XTS-AES for every key, number and unit, refused or not: the length is kept, bytes stay bytes, each direction undoes the other, and a
-- block that is read alone is that block of the deciphered unit, whatever the other blocks are.
-- Assumes nothing.
use mathlib.Core.Path.{◌≡◌, refl, sym, ap, ap₂, ◌∙◌}
use mathlib.Core.Bool.{Bool, true, false, cond, not}
use mathlib.Core.List.{List}
use Prim.Native.Nat.{ℕ, ◌*◌, ◌/◌, ◌≤◌, ◌<◌}
use borrow.Author.Tests.{eqb-true}
use lib.Dec.{eqb}
use lib.ListN.{length, replicate}
use Rattle.block.specs.Bytes.{Bytes, Block}
use Rattle.block.specs.Blocks.{block_at}
use Rattle.block.specs.Permutation.{Undoes}
use Rattle.block.proofs.BytesLaws.{bytes_take, bytes_drop}
use Rattle.aes.specs.Aes.{aes}
use Rattle.aes.specs.Promise.{aes_block, aes_undone}
use Rattle.unit.specs.Unit.{alone}
use Rattle.unit.proofs.Undo.{length_unit, bytes_unit, unit_undone}
use Rattle.unit.proofs.OneBlock.{one_block}
use Rattle.xts.specs.Xts.{Key1, Key2, key_taken, number, block_number, tweak, xts, afterwards, block_under, block_answered}
use Rattle.xts.proofs.Bounds.{taken_0, block_taken}
use Rattle.xts.proofs.NumberLaws.{block_number_lem}
use Rattle.xts.proofs.KeyLaws.{size_1, size_2}

module _ (k : List ℕ) (i : ℕ) (u : List ℕ) (bk : Bytes k) (bu : Bytes u) (e : number (length k) (length u) ≡ 0) where
  good : key_taken (length k) ≡ true
  good = (taken_0 (length k) (length u) e).0

  long : 16 ≤ length u
  long = (taken_0 (length k) (length u) e).1

  undoes : (back : Bool) → Undoes (aes back (Key1 k)) (aes (not back) (Key1 k))
  undoes back =
      record {
        keeps = λ {b} h. aes_block (Key1 k) (size_1 k good) (bytes_take (length k / 2) k bk) back h;
        back = λ {b} h. aes_undone (Key1 k) (size_1 k good) (bytes_take (length k / 2) k bk) back h;
      }

  block_tweak : Block (tweak k i)
  unfolding tweak
  block_tweak = aes_block (Key2 k) (size_2 k good) (bytes_drop (length k / 2) k bk) false (block_number_lem i)

  length-xts : (back : Bool) → length (xts back k i u) ≡ length u
  unfolding xts
  length-xts back = length_unit (aes back (Key1 k)) (aes (not back) (Key1 k)) (undoes back) back block_tweak u long bu

  bytes-xts : (back : Bool) → Bytes (xts back k i u)
  unfolding xts
  bytes-xts back = bytes_unit (aes back (Key1 k)) (aes (not back) (Key1 k)) (undoes back) back block_tweak u long bu

  xts_undone : (back : Bool) → xts (not back) k i (xts back k i u) ≡ u
  unfolding xts
  xts_undone back = unit_undone (aes back (Key1 k)) (aes (not back) (Key1 k)) (undoes back) back block_tweak u long bu

  block_xts : (j : ℕ) → j < alone (length u) → block_at (xts true k i u) (16 * j) ≡ block_under k i j (block_at u (16 * j))
  unfolding xts block_under
  block_xts j h = one_block (aes true (Key1 k)) (aes false (Key1 k)) (undoes true) true block_tweak u long bu j h

-- ---- a unit

module _ (back : Bool) (k : List ℕ) (i : ℕ) (u : List ℕ) (bk : Bytes k) (bu : Bytes u) where
  -- refused or not
  both : (t : Bool) → eqb (number (length k) (length u)) 0 ≡ t
      → (length (cond t (xts back k i u) u) ≡ length u)
      × (Bytes (cond t (xts back k i u) u))
      × (afterwards (not back) k i (cond t (xts back k i u) u) ≡ u)
  unfolding afterwards
  both true e =
      let n : number (length k) (length u) ≡ 0 = eqb-true (number (length k) (length u)) 0 e in
      let c : List ℕ = xts back k i u in
      let l : length c ≡ length u = length-xts k i u bk bu n back in (
        l,
        bytes-xts k i u bk bu n back,
        ap (λ (x : ℕ). cond (eqb x 0) (xts (not back) k i c) c) (ap (number (length k)) l ∙ n) ∙ xts_undone k i u bk bu n back,
      )
  both false e = (refl, bu, ap (λ (t : Bool). cond t (xts (not back) k i u) u) e)

  pub length_kept : length (afterwards back k i u) ≡ length u
  unfolding afterwards
  length_kept = (both (eqb (number (length k) (length u)) 0) refl).0

  pub bytes_kept : Bytes (afterwards back k i u)
  unfolding afterwards
  bytes_kept = (both (eqb (number (length k) (length u)) 0) refl).1

  pub undone : afterwards (not back) k i (afterwards back k i u) ≡ u
  unfolding afterwards
  undone = (both (eqb (number (length k) (length u)) 0) refl).2

-- ---- a single block

-- read alone, it is block j of the deciphered unit
pub block_of_unit : (k : List ℕ) (i : ℕ) (u : List ℕ) (j : ℕ) → Bytes k → Bytes u → block_number (length k) (length u) j ≡ 0
    → block_answered k i u j ≡ block_at (afterwards true k i u) (16 * j)
unfolding afterwards block_answered
block_of_unit k i u j bk bu e =
    let t = block_taken (length k) (length u) j e in
    ap (λ (n : ℕ). cond (eqb n 0) (block_under k i j (block_at u (16 * j))) (replicate 16 0)) e
    ∙ sym (block_xts k i u bk bu t.0 j t.1)
    ∙ ap (λ (n : ℕ). block_at (cond (eqb n 0) (xts true k i u) u) (16 * j)) (sym t.0)

-- it needs no other: two units of one length that agree on block j answer alike
pub no_other_block : (k : List ℕ) (i : ℕ) (u u' : List ℕ) (j : ℕ) → length u ≡ length u' → block_at u (16 * j) ≡ block_at u' (16 * j)
    → (block_number (length k) (length u) j ≡ block_number (length k) (length u') j) × (block_answered k i u j ≡ block_answered k i u' j)
unfolding block_answered
no_other_block k i u u' j l e = (
  ap (λ (n : ℕ). block_number (length k) n j) l,
  ap₂ (λ (n : ℕ) (b : List ℕ). cond (eqb (block_number (length k) n j) 0) (block_under k i j b) (replicate 16 0)) l e,
)
