-- 02, order 1: a store already written keeps its meaning. If no slot of it was faulty by the rule before, check answers the five counts, which are read
-- off number and mark as before, and the plain list is the one that it was. Such a store is there.
-- Assumes nothing.
use mathlib.Core.Path.{◌≡◌, refl, sym, ap, ◌∙◌}
use mathlib.Core.Bool.{Bool, true, false, cond, not, ◌&&◌, ◌||◌}
use mathlib.Core.List.{List}
use Prim.Native.Nat.{ℕ, ◌<◌}
use native.Mathlib.Omega.{arith}
use borrow.Author.Tests.{not-false}
use lib.Dec.{eqb, ltb}
use Rattle.block.proofs.BoolLaws.{neither}
use Rattle.records.specs.Record.{num, mark, len, all_zero, lead, record_of}
use Rattle.records.specs.Earlier as earlier_record
use Rattle.records.proofs.EarlierLaws.{as_before}
use Rattle.slots.specs.Slots.{slots, slot, find, bad_size}
use Rattle.checking.specs.Check.{faulty}
use Rattle.sheets.specs.Text.{text_of}
use Rattle.claims.specs.Plain.{nothing, holding}
use Rattle.claims.specs.View.{place_of, plain}
use Rattle.claims.specs.Claims.{Passes}
use Rattle.claims.specs.Earlier as earlier
use Rattle.claims.proofs.ViewLaws.{same_places}
use Rattle.claims.proofs.Checking.{none_faulty, never_faulty}
use Rattle.claims.proofs.TwoClear.{clear, two_clear, two_slots, slot_0, slot_1, both, sound_two, two_pass}

-- no slot was faulty by the rule before
abbrev pub NoneFaulty : List ℕ → Type 0
NoneFaulty s = (k : ℕ) → k < slots s → earlier.faulty s k ≡ false

module _ (s : List ℕ) (h : NoneFaulty s) where
  sound_before : (k : ℕ) → k < slots s → earlier_record.sound (slot s k) ≡ true
  unfolding earlier.faulty
  sound_before k l =
      let t : Bool = earlier_record.sound (slot s k) in
      not-false t (neither (not t) (not (eqb (num (slot s k)) 0) && ltb (find s (num (slot s k))) k) (h k l)).0

  none_now : (k : ℕ) → k < slots s → faulty s k ≡ false
  unfolding faulty earlier.faulty
  none_now k l =
      ap (λ (t : Bool). not t || (not (eqb (num (slot s k)) 0) && ltb (find s (num (slot s k))) k))
      ((as_before (slot s k) (sound_before k l)).1 ∙ sym (sound_before k l))
      ∙ h k l

  pub check_as_before : bad_size s ≡ false → Passes s
  check_as_before b = none_faulty s b none_now

  pub list_as_before : (o w : List ℕ) → plain o w s ≡ earlier.plain o w s
  unfolding plain earlier.plain place_of earlier.place_of
  list_as_before o w =
      same_places (λ k. place_of o w (slot s k)) (λ k. earlier.place_of o w (slot s k)) 0 (slots s)
      (λ j a b. ap (λ (v : ℕ). cond (eqb (num (slot s j)) 0) nothing (holding (num (slot s j)) v (text_of o w (slot s j))))
      (as_before (slot s j) (sound_before j (omega arith))).0)

-- ---- such a store is there: two sheets in clear

clear_1 : earlier_record.sound (clear 1) ≡ true
unfolding clear record_of lead earlier_record.sound earlier_record.sound_used earlier_record.rev num mark len all_zero
clear_1 = refl

clear_2 : earlier_record.sound (clear 2) ≡ true
unfolding clear record_of lead earlier_record.sound earlier_record.sound_used earlier_record.rev num mark len all_zero
clear_2 = refl

pub two_as_before : NoneFaulty two_clear
unfolding faulty earlier.faulty
two_as_before k h =
    ap (λ (t : Bool). not t || (not (eqb (num (slot two_clear k)) 0) && ltb (find two_clear (num (slot two_clear k))) k))
    (both (λ i. earlier_record.sound (slot two_clear i) ≡ true) (ap earlier_record.sound slot_0 ∙ clear_1) (ap earlier_record.sound slot_1 ∙ clear_2) k
    (omega (arith, two_slots))
    ∙ sym (sound_two.each k h))
    ∙ never_faulty two_clear two_pass k h
