-- What add and revise stored, read gives back: the slot that was written holds the sheet, sound, with its number, revision and text.
-- Assumes nothing.
use mathlib.Core.Path.{◌≡◌, ap, ◌∙◌}
use mathlib.Core.Bool.{true}
use mathlib.Core.List.{List}
use Prim.Native.Nat.{ℕ, ◌≤◌, ◌<◌}
use lib.ListN.{length}
use Rattle.block.specs.Bytes.{Bytes}
use Rattle.records.specs.Record.{text_most, greatest_revision, num, rev, mark, sound}
use Rattle.slots.specs.Slots.{slots, slot, put}
use Rattle.slots.proofs.PutLaws.{slot_put}
use Rattle.sheets.specs.Text.{text_of, sheet}
use Rattle.sheets.proofs.SheetLaws.{num_sheet, rev_sheet, mark_sheet, length-sheet, sound_sheet, sheet_text}

module _ (w : List ℕ) (n v : ℕ) (t : List ℕ) (bw : Bytes w) (bt : Bytes t) (ht : length t ≤ text_most) (s : List ℕ) (k : ℕ) (h : k < slots s) where
  pub slot_back : slot (put s k (sheet w n v t)) k ≡ sheet w n v t
  slot_back = slot_put s k h (sheet w n v t) (length-sheet w n v t bw bt ht)

  pub text_back : (o : List ℕ) → text_of o w (slot (put s k (sheet w n v t)) k) ≡ t
  text_back o = ap (text_of o w) slot_back ∙ sheet_text o w n v t bw bt ht

  pub number_back : n < 4294967296 → num (slot (put s k (sheet w n v t)) k) ≡ n
  number_back b = ap num slot_back ∙ num_sheet w n v t b

  pub revision_back : v ≤ greatest_revision → rev (slot (put s k (sheet w n v t)) k) ≡ v
  revision_back b = ap rev slot_back ∙ rev_sheet w n v t b

  pub mark_back : mark (slot (put s k (sheet w n v t)) k) ≡ 2
  mark_back = ap mark slot_back ∙ mark_sheet w n v t

  pub sound_back : (n ≡ 0 → ⊥) → n < 4294967296 → 1 ≤ v → v ≤ greatest_revision → 16 ≤ length t → sound (slot (put s k (sheet w n v t)) k) ≡ true
  sound_back z b c d e = ap sound slot_back ∙ sound_sheet w n v t bw bt ht z b c d e
