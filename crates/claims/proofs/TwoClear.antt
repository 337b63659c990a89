-- A store of two sheets in clear, of sixteen zeros each, which passes the check.
-- Assumes nothing.
use mathlib.Core.Path.{◌≡◌, refl, ap, ap₂, ◌∙◌}
use mathlib.Core.Bool.{true, false, not, ◌||◌}
use mathlib.Core.List.{List, ◌++◌}
use Prim.Native.Nat.{ℕ, zero, suc, ◌+◌, ◌-◌, ◌<◌, ◌/◌, ◌%◌}
use native.Mathlib.Omega.{arith}
use lib.Dec.{eqb, ltb}
use lib.ListN.{length, take, replicate, length-replicate, length-append}
use lib.Seq.{take_at, drop_at, take_all}
use Rattle.block.specs.Bytes.{Bytes}
use Rattle.block.specs.Rows.{row}
use Rattle.block.proofs.BytesLaws.{bytes_zeros, bytes_append}
use Rattle.records.specs.Record.{record_size, text_most, num, mark, sound, record_of, lead}
use Rattle.records.proofs.RecordLaws.{num_record, mark_record, sound_record, length_record, bytes-lead}
use Rattle.slots.specs.Slots.{slots, slot, bad_size}
use Rattle.claims.specs.Claims.{Passes}
use Rattle.claims.proofs.Simulation.{SoundStore}
use Rattle.claims.proofs.Checking.{Apart, good_passes}

unfoldable pub clear : ℕ → List ℕ
clear n = record_of n 1 0 (replicate 16 0)

-- a store of two of them
unfoldable pub two_of : ℕ → ℕ → List ℕ
two_of m n = clear m ++ clear n

abbrev pub two_clear : List ℕ
two_clear = two_of 1 2

module _ (n : ℕ) where
  length-text : length (replicate {A = ℕ} 16 0) ≡ 16
  length-text = length-replicate {A = ℕ} 16 0

  length-clear : length (clear n) ≡ record_size
  unfolding clear
  length-clear = length_record n 1 0 (replicate 16 0) (omega (arith, length-text))

  pub mark_clear : mark (clear n) ≡ 0
  unfolding clear
  mark_clear = mark_record n 1 0 (replicate 16 0)

  bytes-clear : Bytes (clear n)
  unfolding clear record_of
  bytes-clear =
      let l : ℕ = length (replicate {A = ℕ} 16 0) in
      bytes_append (lead n 1 0 l) (replicate 16 0 ++ replicate (text_most - l) 0)
      (bytes-lead n 1 0 l (omega arith))
      (bytes_append (replicate 16 0) (replicate (text_most - l) 0) (bytes_zeros 16) (bytes_zeros (text_most - l)))

  module _ (h : n < 4294967296) where
    pub num_clear : num (clear n) ≡ n
    unfolding clear
    num_clear = num_record n 1 0 (replicate 16 0) h

    sound_clear : (n ≡ 0 → ⊥) → sound (clear n) ≡ true
    unfolding clear
    sound_clear z = sound_record n 1 0 (replicate 16 0) (omega (arith, length-text)) z h (omega arith) (omega arith) (omega arith) (omega (arith, length-text))

module _ (m n : ℕ) where
  length_two : length (two_of m n) ≡ 4224
  unfolding two_of
  length_two = length-append (clear m) (clear n) ∙ ap₂ (λ (a b : ℕ). a + b) (length-clear m) (length-clear n)

  pub slots_two : slots (two_of m n) ≡ 2
  slots_two = ap (λ (l : ℕ). l / record_size) length_two

  pub size_two : bad_size (two_of m n) ≡ false
  unfolding bad_size
  size_two = ap (λ (l : ℕ). not (eqb (l % record_size) 0) || ltb 1024 (l / record_size)) length_two

  pub bytes_two : Bytes (two_of m n)
  unfolding two_of
  bytes_two = bytes_append (clear m) (clear n) (bytes-clear m) (bytes-clear n)

  pub first_of_two : slot (two_of m n) 0 ≡ clear m
  unfolding two_of row
  first_of_two = take_at (clear m) (clear n) record_size (length-clear m)

  pub second_of_two : slot (two_of m n) 1 ≡ clear n
  unfolding two_of row
  second_of_two =
      ap (take record_size) (drop_at (clear m) (clear n) record_size (length-clear m)) ∙ take_all record_size (clear n) (omega (arith, length-clear n))

pub two_slots : slots two_clear ≡ 2
two_slots = slots_two 1 2

pub slot_0 : slot two_clear 0 ≡ clear 1
slot_0 = first_of_two 1 2

pub slot_1 : slot two_clear 1 ≡ clear 2
slot_1 = second_of_two 1 2

-- what holds of both slots
pub both : (P : ℕ → Type 0) → P 0 → P 1 → (k : ℕ) → k < 2 → P k
both P a b zero h = a
both P a b (suc zero) h = b
both P a b (suc (suc k)) h = let y : ⊥ = omega arith in absurd y

pub sound_two : SoundStore two_clear
sound_two =
    record {
      size = size_two 1 2;
      bytes = bytes_two 1 2;
      each = λ k h. both (λ i. sound (slot two_clear i) ≡ true)
          (ap sound slot_0 ∙ sound_clear 1 (omega arith) (λ q. let y : ⊥ = omega arith in y))
          (ap sound slot_1 ∙ sound_clear 2 (omega arith) (λ q. let y : ⊥ = omega arith in y)) k (omega (arith, two_slots));
    }

pub number_0 : num (slot two_clear 0) ≡ 1
number_0 = ap num slot_0 ∙ num_clear 1 (omega arith)

number_1 : num (slot two_clear 1) ≡ 2
number_1 = ap num slot_1 ∙ num_clear 2 (omega arith)

apart_two : Apart two_clear
apart_two j k hj hk z q =
    let h : k < 2 = omega (arith, two_slots) in
    both (λ a. num (slot two_clear a) ≡ num (slot two_clear k) → a ≡ k)
    (both (λ b. num (slot two_clear 0) ≡ num (slot two_clear b) → 0 ≡ b) (λ e. refl) (λ e. let y : ⊥ = omega (arith, number_0, number_1) in absurd y) k h)
    (both (λ b. num (slot two_clear 1) ≡ num (slot two_clear b) → 1 ≡ b) (λ e. let y : ⊥ = omega (arith, number_0, number_1) in absurd y) (λ e. refl) k h)
    j (omega (arith, two_slots)) q

pub two_pass : Passes two_clear
two_pass = good_passes two_clear sound_two apart_two
