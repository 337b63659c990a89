-- A record written whole has the fields that it was written with, and is sound if they are as tabled.
-- Assumes nothing.
use mathlib.Core.Path.{◌≡◌, refl, sym, ap, ap₂, ◌∙◌}
use mathlib.Core.Bool.{true}
use mathlib.Core.List.{List, ◌++◌}
use Prim.Native.Nat.{ℕ, zero, suc, ◌+◌, ◌-◌, ◌≤◌, ◌<◌}
use native.Mathlib.Omega.{arith}
use lib.ListN.{length, take, drop, replicate, length-append, length-replicate}
use lib.Seq.{take_at, drop_at, drop-drop}
use Rattle.block.specs.Bytes.{Bytes}
use Rattle.block.specs.Tab.{byte}
use Rattle.block.proofs.BytesLaws.{bytes_cons, bytes_zeros}
use Rattle.records.specs.Record.{record_size, text_most, greatest_revision, num, rev, mark, len, lead_of, stored, all_zero, sound, lead, record_of}
use Rattle.records.proofs.FieldLaws.{sound_taken, used_last}
use Rattle.records.proofs.WriteLaws.{length-lead}

pub all_zero_zeros : (n : ℕ) → all_zero (replicate n 0) ≡ true
unfolding all_zero
all_zero_zeros zero = refl
all_zero_zeros (suc n) = all_zero_zeros n

pub bytes-lead : (n v m l : ℕ) → m < 256 → Bytes (lead n v m l)
unfolding lead
bytes-lead n v m l h =
    bytes_cons (omega arith)
    (bytes_cons (omega arith)
    (bytes_cons (omega arith)
    (bytes_cons (omega arith)
    (bytes_cons (omega arith)
    (bytes_cons (omega arith)
    (bytes_cons h
    (bytes_cons (omega arith)
    (bytes_cons (omega arith) (bytes_cons (omega arith) (bytes_cons (omega arith) (bytes_cons (omega arith) (bytes_zeros 4))))))))))))

module _ (n v m : ℕ) (t : List ℕ) where
  pub num_record : n < 4294967296 → num (record_of n v m t) ≡ n
  unfolding num record_of lead
  num_record h = omega arith

  pub rev_record : v ≤ greatest_revision → rev (record_of n v m t) ≡ v
  unfolding rev record_of lead
  rev_record h = omega arith

  pub mark_record : mark (record_of n v m t) ≡ m
  unfolding mark record_of lead
  mark_record = refl

  pub lead_record : lead_of (record_of n v m t) ≡ lead n v m (length t)
  unfolding lead_of record_of
  lead_record = take_at (lead n v m (length t)) (t ++ replicate (text_most - length t) 0) 16 (length-lead n v m (length t))

  body : drop 16 (record_of n v m t) ≡ t ++ replicate (text_most - length t) 0
  unfolding record_of
  body = drop_at (lead n v m (length t)) (t ++ replicate (text_most - length t) 0) 16 (length-lead n v m (length t))

  module _ (h : length t ≤ text_most) where
    pub len_record : len (record_of n v m t) ≡ length t
    unfolding len record_of lead
    len_record = omega arith

    pub stored_record : stored (record_of n v m t) ≡ t
    unfolding stored
    stored_record = ap₂ take len_record body ∙ take_at t (replicate (text_most - length t) 0) (length t) refl

    pub length_record : length (record_of n v m t) ≡ record_size
    unfolding record_of
    length_record =
        length-append (lead n v m (length t)) (t ++ replicate (text_most - length t) 0)
        ∙ omega
        (arith, length-lead n v m (length t), length-append t (replicate (text_most - length t) 0), length-replicate {A = ℕ} (text_most - length t) 0)

    rest : all_zero (drop (16 + len (record_of n v m t)) (record_of n v m t)) ≡ true
    rest =
        ap (λ (l : ℕ). all_zero (drop (16 + l) (record_of n v m t))) len_record
        ∙ ap all_zero
        (sym (drop-drop (length t) 16 (record_of n v m t))
        ∙ ap (drop (length t)) body
        ∙ drop_at t (replicate (text_most - length t) 0) (length t) refl)
        ∙ all_zero_zeros (text_most - length t)

    spare : byte (record_of n v m t) 7 ≡ 0
    unfolding record_of lead
    spare = refl

    spares : all_zero (take 4 (drop 12 (record_of n v m t))) ≡ true
    unfolding record_of lead all_zero
    spares = refl

    pub sound_record : (n ≡ 0 → ⊥) → n < 4294967296 → 1 ≤ v → v ≤ greatest_revision → m ≤ 2 → 16 ≤ length t → sound (record_of n v m t) ≡ true
    sound_record z hn hv kv hm ht =
        let r : List ℕ = record_of n v m t in
        sound_taken r (λ q. z (sym (num_record hn) ∙ q))
        ∙ used_last r (omega (arith, rev_record kv)) (omega (arith, mark_record)) spare (omega (arith, len_record)) (omega (arith, len_record)) spares
        ∙ rest
