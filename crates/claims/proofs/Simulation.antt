-- On a store whose slots are all sound, with two keys of an allowed length, the ladder of each call comes to what the plain list's does: the
-- tests that the list does not know are passed, and the others agree.
-- Assumes nothing.
use mathlib.Core.Path.{◌≡◌, sym, ap, ap₂, ◌∙◌}
use mathlib.Core.Bool.{Bool, true, false, cond, not}
use mathlib.Core.List.{List}
use Prim.Native.Nat.{ℕ, ◌<◌}
use native.Mathlib.Omega.{arith}
use borrow.Author.Tests.{eqb-false, ne_eqb}
use lib.Dec.{eqb, ltb}
use lib.ListN.{length}
use Rattle.std.specs.Prelude.{Ok}
use Rattle.block.specs.Bytes.{Bytes}
use Rattle.block.proofs.RowLaws.{bytes-row}
use Rattle.numbers.specs.declared.Refusal.TheVariants.{SheetZero, TextLength, NoSheet, OtherRevision, LastRevision, NoFreeSlot, SheetPresent, BufferLength}
use Rattle.records.specs.Record.{record_size, greatest_revision, num, rev, len, sound}
use Rattle.records.proofs.FieldLaws.{sound_len}
use Rattle.slots.specs.Slots.{slots, slot, find, bad_size}
use Rattle.slots.proofs.FindLaws.{find_has}
use Rattle.slots.proofs.SlotLaws.{length-slot}
use Rattle.sheets.specs.Text.{text_of}
use Rattle.sheets.proofs.TextLaws.{length-text_of}
use Rattle.plans.specs.Plans.{guard, bad_keys, bad_text, absent, read_from, add_from, revise_from, read_plan, add_plan, revise_plan, remove_plan}
use Rattle.plans.proofs.PlanLaws.{past, there, opened_no, remove_sized, read_sound, revise_sound, add_rungs, remove_rungs}
use Rattle.claims.specs.Plain.{Place, nothing, holding, revision_of, text_in, at, absent_in, find_in, read_in, add_in, revise_in, remove_in}
use Rattle.claims.specs.View.{place_of, plain}
use Rattle.claims.proofs.ViewLaws.{length-plain, at_plain, find_plain}

-- a store of an allowed size whose slots are all sound
pub record SoundStore (s : List ℕ) : Type 0 where
  pub size : bad_size s ≡ false
  pub bytes : Bytes s
  pub each : (k : ℕ) → k < slots s → sound (slot s k) ≡ true

module _ (o w s : List ℕ) (keys : bad_keys o w ≡ false) (bo : Bytes o) (bw : Bytes w) (g : SoundStore s) where
  absent_plain : (n : ℕ) → absent (slots s) (slot s) n ≡ absent_in (plain o w s) n
  absent_plain n = ap₂ eqb (sym (find_plain o w s n)) (sym (length-plain o w s))

  found_plain : (n : ℕ) → find s n ≡ find_in (plain o w s) n
  found_plain n = sym (find_plain o w s n)

  -- the place of a used slot
  pub held : (k : ℕ) → k < slots s → (num (slot s k) ≡ 0 → ⊥) → at (plain o w s) k ≡ holding (num (slot s k)) (rev (slot s k)) (text_of o w (slot s k))
  unfolding place_of
  held k h z =
      at_plain o w s k h
      ∙ ap (λ (t : Bool). cond t nothing (holding (num (slot s k)) (rev (slot s k)) (text_of o w (slot s k)))) (ne_eqb (num (slot s k)) 0 z)

  -- its text is as long as its field says
  pub long : (k : ℕ) → k < slots s → (num (slot s k) ≡ 0 → ⊥) → length (text_of o w (slot s k)) ≡ len (slot s k)
  long k h z =
      let l = sound_len (slot s k) (g.each k h) z in
      length-text_of (slot s k) o w bo bw (bytes-row record_size s k g.bytes) (omega (arith, l, length-slot s k h))

  pub remove_plain : (n : ℕ) → remove_plan s n ≡ remove_in (plain o w s) n
  unfolding remove_in
  remove_plain n =
      remove_sized s n g.size
      ∙ remove_rungs (slots s) (slot s) n
      ∙ (λ i. guard (eqb n 0) SheetZero (guard (absent_plain n i) NoSheet (Ok (found_plain n i))))

  pub add_plain : (n : ℕ) (t : List ℕ) → add_plan o w s n t ≡ add_in (plain o w s) n t
  unfolding add_in
  add_plain n t =
      opened_no o w s keys g.size (add_from (slots s) (slot s) n (length t))
      ∙ add_rungs (slots s) (slot s) n (length t)
      ∙ (λ i.
      guard (eqb n 0) SheetZero
      (guard (bad_text t) TextLength (guard (not (absent_plain n i)) SheetPresent (guard (absent_plain 0 i) NoFreeSlot (Ok (found_plain 0 i))))))

  -- the slot found for a number that is in the store: its text and its revision are those of its place
  module _ (n : ℕ) (z : eqb n 0 ≡ false) (a : absent (slots s) (slot s) n ≡ false) where
    within : find s n < slots s
    within = there (slots s) (slot s) n a

    used : num (slot s (find s n)) ≡ 0 → ⊥
    used q = eqb-false n 0 z (sym (find_has (slots s) (slot s) n within) ∙ q)

    same_length : len (slot s (find s n)) ≡ length (text_in (at (plain o w s) (find s n)))
    same_length = sym (long (find s n) within used) ∙ sym (ap (λ (x : Place). length (text_in x)) (held (find s n) within used))

    same_revision : rev (slot s (find s n)) ≡ revision_of (at (plain o w s) (find s n))
    same_revision = sym (ap revision_of (held (find s n) within used))

  pub read_plain : (n b : ℕ) → read_plan o w s n b ≡ read_in (plain o w s) n b
  unfolding read_in
  read_plain n b =
      opened_no o w s keys g.size (read_from (slots s) (slot s) o w n b)
      ∙ read_sound (slots s) (slot s) g.each o w long n b
      ∙ past (eqb n 0) SheetZero _ _
      (λ z. past (absent (slots s) (slot s) n) NoSheet _ _
      (λ a. ap (λ (j : ℕ). guard (ltb b j) BufferLength (Ok (find s n))) (same_length n z a)))
      ∙ (λ i.
      guard (eqb n 0) SheetZero
      (guard (absent_plain n i) NoSheet (guard (ltb b (length (text_in (at (plain o w s) (found_plain n i))))) BufferLength (Ok (found_plain n i)))))

  pub revise_plain : (n v : ℕ) (t : List ℕ) → revise_plan o w s n v t ≡ revise_in (plain o w s) n v t
  unfolding revise_in
  revise_plain n v t =
      opened_no o w s keys g.size (revise_from (slots s) (slot s) n v (length t))
      ∙ revise_sound (slots s) (slot s) g.each n v (length t)
      ∙ past (eqb n 0) SheetZero _ _
      (λ z. past (bad_text t) TextLength _ _
      (λ y. past (absent (slots s) (slot s) n) NoSheet _ _
      (λ a. ap (λ (r : ℕ). guard (not (eqb v r)) OtherRevision (guard (eqb r greatest_revision) LastRevision (Ok (find s n)))) (same_revision n z a))))
      ∙ (λ i.
      guard (eqb n 0) SheetZero
      (guard (bad_text t) TextLength
      (guard (absent_plain n i) NoSheet
      (guard (not (eqb v (revision_of (at (plain o w s) (found_plain n i))))) OtherRevision
      (guard (eqb (revision_of (at (plain o w s) (found_plain n i))) greatest_revision) LastRevision (Ok (found_plain n i)))))))
