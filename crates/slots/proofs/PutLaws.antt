-- A store with one slot written anew: that slot is the record written, every other is kept, and what holds of both holds of all.
-- Assumes nothing.
use mathlib.Core.Path.{◌≡◌, refl, sym, ap, ◌∙◌, subst}
use mathlib.Core.Bool.{Bool, true, false, not, ◌||◌}
use mathlib.Core.List.{List}
use Prim.Native.Nat.{ℕ, ◌/◌, ◌%◌, ◌≤◌, ◌<◌}
use native.Mathlib.Omega.{arith}
use borrow.Author.Tests.{eqb-true, eqb-false, ltb-true, ltb-false}
use lib.Dec.{eqb, ltb}
use lib.ListN.{length, length-replicate}
use Rattle.block.specs.Bytes.{Bytes}
use Rattle.block.proofs.RowLaws.{length-put_row, row_put, row_put_below, row_put_above, bytes-put_row}
use Rattle.records.specs.Record.{record_size, num, sound}
use Rattle.records.proofs.FieldLaws.{sound_free}
use Rattle.records.proofs.RecordLaws.{all_zero_zeros}
use Rattle.slots.specs.Slots.{slots, slot, put, emptied, bad_size, find}
use Rattle.slots.proofs.FindLaws.{find_same}

-- ---- a slot that is emptied

pub num_emptied : num emptied ≡ 0
unfolding num
num_emptied = refl

pub sound_emptied : sound emptied ≡ true
sound_emptied = sound_free emptied num_emptied ∙ all_zero_zeros record_size

pub length-emptied : length emptied ≡ record_size
length-emptied = length-replicate {A = ℕ} record_size 0

-- ---- record x written into slot k

module _ (s : List ℕ) (k : ℕ) (h : k < slots s) (x : List ℕ) (l : length x ≡ record_size) where
  pub length-put : length (put s k x) ≡ length s
  length-put = length-put_row record_size s k (omega arith) x l

  pub slots_put : slots (put s k x) ≡ slots s
  slots_put = ap (λ (n : ℕ). n / record_size) length-put

  pub size_put : bad_size (put s k x) ≡ bad_size s
  unfolding bad_size
  size_put = ap (λ (n : ℕ). not (eqb (n % record_size) 0) || ltb 1024 (n / record_size)) length-put

  pub bytes-put : Bytes s → Bytes x → Bytes (put s k x)
  bytes-put = bytes-put_row record_size s k (omega arith) x l

  pub slot_put : slot (put s k x) k ≡ x
  slot_put = row_put record_size s k (omega arith) x l

  pub slot_other : (j : ℕ) → (j ≡ k → ⊥) → slot (put s k x) j ≡ slot s j
  slot_other j a = by_side (ltb j k) refl
    where
      by_side : (t : Bool) → ltb j k ≡ t → slot (put s k x) j ≡ slot s j
      by_side true e = let b : j < k = ltb-true j k e in row_put_below record_size s k (omega arith) x l j (omega arith)
      by_side false e = let b : k ≤ j = ltb-false j k e in row_put_above record_size s k (omega arith) x l j (omega (arith, a))

  -- what holds of the record written, and of every other slot, holds of every slot afterwards
  pub every : (P : ℕ → List ℕ → Type 0) → P k x → ((j : ℕ) → (j ≡ k → ⊥) → P j (slot s j)) → (j : ℕ) → P j (slot (put s k x) j)
  every P a b j = by_slot (eqb j k) refl
    where
      by_slot : (t : Bool) → eqb j k ≡ t → P j (slot (put s k x) j)
      by_slot true e =
          let f : j ≡ k = eqb-true j k e in
          subst (λ (i : ℕ). P i (slot (put s k x) i)) (sym f) (subst (P k) (sym slot_put) a)
      by_slot false e = subst (P j) (sym (slot_other j (eqb-false j k e))) (b j (eqb-false j k e))

  -- a sheet is found in the same slot, if the record written has its number exactly if the slot had it
  pub find_put : (n : ℕ) → eqb (num x) n ≡ eqb (num (slot s k)) n → find (put s k x) n ≡ find s n
  find_put n q =
      find_same (slots (put s k x)) (slots s) (slot (put s k x)) (slot s) n slots_put
      (λ j a. every (λ i r. eqb (num r) n ≡ eqb (num (slot s i)) n) q (λ i b. refl) j)
