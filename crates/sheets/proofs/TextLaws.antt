-- The text of a record taken to the front of a buffer, from what the calls ensure.
-- Assumes nothing.
use mathlib.Core.Path.{◌≡◌, sym, ap, ap₂, ◌∙◌}
use mathlib.Core.Bool.{Bool, true, false, cond}
use mathlib.Core.List.{List, ◌++◌}
use Prim.Native.Nat.{ℕ, ◌+◌, ◌-◌, ◌≤◌}
use native.Mathlib.Omega.{arith}
use borrow.Author.Tests.{eq-eqb, ne_eqb}
use borrow.Rule.Slice.PartMut.{put_mid}
use lib.Dec.{eqb}
use lib.ListN.{length, take, drop, length-append, length-drop}
use lib.Seq.{length-take-le, take_at, drop_at}
use Rattle.block.specs.Bytes.{Bytes}
use Rattle.block.specs.Blocks.{block_at}
use Rattle.block.proofs.BytesLaws.{bytes_take, bytes_drop}
use Rattle.block.proofs.PartLaws.{part_changed}
use Rattle.eme2.specs.Transform.{afterwards}
use Rattle.eme2.proofs.Promise.{length_kept, bytes_kept}
use Rattle.records.specs.Record.{num, rev, mark, len, lead_of, stored}
use Rattle.sheets.specs.Text.{text_of, sheet}

module _ (r : List ℕ) where
  pub length-stored : 16 + len r ≤ length r → length (stored r) ≡ len r
  unfolding stored
  length-stored h = length-take-le (len r) (drop 16 r) (omega (arith, length-drop 16 r))

  -- the stored text copied
  pub copied : (out out1 : List ℕ) (l : ℕ) → 16 + len r ≤ length r → l ≡ len r
      → out1 ≡ take 0 out ++ (take (16 + l - 16) (drop 16 r) ++ drop (0 + length (take (16 + l - 16) (drop 16 r))) out)
      → out1 ≡ stored r ++ drop (len r) out
  unfolding stored
  copied out out1 l h e p =
      let n : 16 + l - 16 ≡ len r = omega arith in
      let m : 0 + length (stored r) ≡ len r = omega (arith, length-stored h) in
      p
      ∙ ap (λ (j : ℕ). take j (drop 16 r) ++ drop (0 + length (take j (drop 16 r))) out) n
      ∙ ap (λ (j : ℕ). stored r ++ drop j out) m

  -- and deciphered there
  pub opened : (k h x d out1 : List ℕ) (l : ℕ) → 16 + len r ≤ length r → l ≡ len r → h ≡ block_at r 0 → out1 ≡ stored r ++ d
      → x ≡ afterwards true k h (take (l - 0) (drop 0 out1))
      → put_mid 0 (l - 0) out1 x ≡ afterwards true k (lead_of r) (stored r) ++ d
  unfolding lead_of
  opened k h x d out1 l g e p q y =
      let n : l - 0 ≡ len r = omega arith in
      let c : length (stored r) ≡ l = length-stored g ∙ sym e in
      let t : take (l - 0) out1 ≡ stored r =
      ap₂ take n q ∙ take_at (stored r) d (len r) (length-stored g) in
      part_changed 0 l out1 x (omega arith)
      ∙ ap₂ (λ (a b : List ℕ). a ++ b) (y ∙ ap₂ (afterwards true k) p t) (ap (drop l) q ∙ drop_at (stored r) d l c)

  -- ---- the text in clear, by the mark

  module _ (o w : List ℕ) where
    pub text_clear : mark r ≡ 0 → text_of o w r ≡ stored r
    unfolding text_of
    text_clear e =
        ap (λ (t : Bool). cond t (stored r) (afterwards true (cond (eqb (mark r) 1) o w) (lead_of r) (stored r))) (eq-eqb (mark r) 0 e)

    under_key : (mark r ≡ 0 → ⊥) → text_of o w r ≡ afterwards true (cond (eqb (mark r) 1) o w) (lead_of r) (stored r)
    unfolding text_of
    under_key h =
        ap (λ (t : Bool). cond t (stored r) (afterwards true (cond (eqb (mark r) 1) o w) (lead_of r) (stored r))) (ne_eqb (mark r) 0 h)

    pub text_old : (mark r ≡ 0 → ⊥) → mark r ≡ 1 → text_of o w r ≡ afterwards true o (lead_of r) (stored r)
    text_old h e = under_key h ∙ ap (λ (t : Bool). afterwards true (cond t o w) (lead_of r) (stored r)) (eq-eqb (mark r) 1 e)

    pub text_new : (mark r ≡ 0 → ⊥) → (mark r ≡ 1 → ⊥) → text_of o w r ≡ afterwards true w (lead_of r) (stored r)
    text_new h g = under_key h ∙ ap (λ (t : Bool). afterwards true (cond t o w) (lead_of r) (stored r)) (ne_eqb (mark r) 1 g)

    -- 01's 14 cannot be given: the length does not change in deciphering
    pub length-text_of : Bytes o → Bytes w → Bytes r → 16 + len r ≤ length r → length (text_of o w r) ≡ len r
    unfolding text_of lead_of stored
    length-text_of bo bw br h = by_mark (eqb (mark r) 0) (eqb (mark r) 1)
      where
        t : List ℕ
        t = take (len r) (drop 16 r)

        bt : Bytes t
        bt = bytes_take (len r) (drop 16 r) (bytes_drop 16 r br)

        lt : length t ≡ len r
        lt = length-take-le (len r) (drop 16 r) (omega (arith, length-drop 16 r))

        by_mark : (a b : Bool) → length (cond a t (afterwards true (cond b o w) (take 16 r) t)) ≡ len r
        by_mark true b = lt
        by_mark false true = length_kept true o (take 16 r) t bo (bytes_take 16 r br) bt ∙ lt
        by_mark false false = length_kept true w (take 16 r) t bw (bytes_take 16 r br) bt ∙ lt

pub bytes-text_of : (o w r : List ℕ) → Bytes o → Bytes w → Bytes r → Bytes (text_of o w r)
unfolding text_of lead_of stored
bytes-text_of o w r bo bw br = by_mark (eqb (mark r) 0) (eqb (mark r) 1)
  where
    t : List ℕ
    t = take (len r) (drop 16 r)

    bt : Bytes t
    bt = bytes_take (len r) (drop 16 r) (bytes_drop 16 r br)

    by_mark : (a b : Bool) → Bytes (cond a t (afterwards true (cond b o w) (take 16 r) t))
    by_mark true b = bt
    by_mark false true = bytes_kept true o (take 16 r) t bo (bytes_take 16 r br) bt
    by_mark false false = bytes_kept true w (take 16 r) t bw (bytes_take 16 r br) bt

-- a text taken into room of its own, of a length that is kept, is found there again
pub taken : (x out : List ℕ) (l : ℕ) → l ≤ length out → length (x ++ drop l out) ≡ length out → take (l - 0) (x ++ drop l out) ≡ x
taken x out l h k =
    let n : length x ≡ l - 0 = omega (arith, length-append x (drop l out), length-drop l out) in
    take_at x (drop l out) (l - 0) n

-- a sheet rekeyed: p is the part of the store that is lent, slot k; each other hypothesis is what one call of the code ensures
pub rekeying : (o w room p q : List ℕ) (n v l : ℕ) (room' x : List ℕ) → p ≡ q
    → n ≡ num p → v ≡ rev p → l ≡ len p → len p ≤ length room
    → length room' ≡ length room
    → room' ≡ text_of o w p ++ drop (len p) room
    → x ≡ sheet w n v (take (l - 0) (drop 0 room'))
    → x ≡ sheet w (num q) (rev q) (text_of o w q)
rekeying o w room p q n v l room' x e_p e_n e_v e_l h k e_r e_x =
    let t : take (l - 0) room' ≡ text_of o w p =
    ap₂ (λ (j : ℕ) (z : List ℕ). take (j - 0) z) e_l e_r ∙ taken (text_of o w p) room (len p) h (sym (ap length e_r) ∙ k) in
    e_x
    ∙ ap (sheet w n v) t
    ∙ ap₂ (λ (a b : ℕ). sheet w a b (text_of o w p)) e_n e_v
    ∙ ap (λ (z : List ℕ). sheet w (num z) (rev z) (text_of o w z)) e_p
