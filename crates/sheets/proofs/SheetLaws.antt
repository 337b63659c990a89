-- Laws of a sheet: the record under the new key that add and revise write and a step leaves.
-- Assumes nothing.
use mathlib.Core.Path.{◌≡◌, ap, ap₂, ◌∙◌}
use mathlib.Core.Bool.{true, false}
use mathlib.Core.List.{List, ◌++◌}
use Prim.Native.Nat.{ℕ, ◌-◌, ◌≤◌, ◌<◌}
use native.Mathlib.Omega.{arith}
use lib.Dec.{lit<}
use lib.ListN.{length, replicate}
use Rattle.block.specs.Bytes.{Bytes}
use Rattle.block.proofs.BytesLaws.{bytes_zeros, bytes_append}
use Rattle.eme2.specs.Transform.{afterwards}
use Rattle.eme2.proofs.Promise.{length_kept, bytes_kept, undone}
use Rattle.records.specs.Record.{record_size, text_most, greatest_revision, num, rev, mark, lead_of, sound, lead, record_of}
use Rattle.records.proofs.RecordLaws.{bytes-lead, num_record, rev_record, mark_record, lead_record, stored_record, length_record, sound_record}
use Rattle.sheets.specs.Text.{text_of, sheet}
use Rattle.sheets.proofs.TextLaws.{text_new}

-- ---- its fields

module _ (w : List ℕ) (n v : ℕ) (t : List ℕ) where
  pub num_sheet : n < 4294967296 → num (sheet w n v t) ≡ n
  unfolding sheet
  num_sheet = num_record n v 2 (afterwards false w (lead n v 2 (length t)) t)

  pub rev_sheet : v ≤ greatest_revision → rev (sheet w n v t) ≡ v
  unfolding sheet
  rev_sheet = rev_record n v 2 (afterwards false w (lead n v 2 (length t)) t)

  pub mark_sheet : mark (sheet w n v t) ≡ 2
  unfolding sheet
  mark_sheet = mark_record n v 2 (afterwards false w (lead n v 2 (length t)) t)

-- ---- all of it

module _ (w : List ℕ) (n v : ℕ) (t : List ℕ) (bw : Bytes w) (bt : Bytes t) (ht : length t ≤ text_most) where
  kept : length (afterwards false w (lead n v 2 (length t)) t) ≡ length t
  kept = length_kept false w (lead n v 2 (length t)) t bw (bytes-lead n v 2 (length t) (lit< tt)) bt

  pub length-sheet : length (sheet w n v t) ≡ record_size
  unfolding sheet
  length-sheet = length_record n v 2 (afterwards false w (lead n v 2 (length t)) t) (omega (arith, kept))

  pub sound_sheet : (n ≡ 0 → ⊥) → n < 4294967296 → 1 ≤ v → v ≤ greatest_revision → 16 ≤ length t → sound (sheet w n v t) ≡ true
  unfolding sheet
  sound_sheet z hn h hv l =
      sound_record n v 2 (afterwards false w (lead n v 2 (length t)) t) (omega (arith, kept)) z hn h hv (omega arith) (omega (arith, kept))

-- it is a record of bytes
pub bytes-sheet : (w : List ℕ) (n v : ℕ) (t : List ℕ) → Bytes w → Bytes t → Bytes (sheet w n v t)
unfolding sheet record_of
bytes-sheet w n v t bw bt =
    let x : List ℕ = afterwards false w (lead n v 2 (length t)) t in
    let bx : Bytes x = bytes_kept false w (lead n v 2 (length t)) t bw (bytes-lead n v 2 (length t) (lit< tt)) bt in
    bytes_append (lead n v 2 (length x)) (x ++ replicate (text_most - length x) 0) (bytes-lead n v 2 (length x) (lit< tt))
    (bytes_append x (replicate (text_most - length x) 0) bx (bytes_zeros (text_most - length x)))

-- what add and revise store, read gives back
pub sheet_text : (o w : List ℕ) (n v : ℕ) (t : List ℕ) → Bytes w → Bytes t → length t ≤ text_most → text_of o w (sheet w n v t) ≡ t
unfolding sheet
sheet_text o w n v t bw bt h =
    let d : List ℕ = lead n v 2 (length t) in
    let x : List ℕ = afterwards false w d t in
    let bd : Bytes d = bytes-lead n v 2 (length t) (lit< tt) in
    let lx : length x ≡ length t = length_kept false w d t bw bd bt in
    let hx : length x ≤ text_most = omega arith in
    let r : List ℕ = record_of n v 2 x in
    let m : mark r ≡ 2 = mark_record n v 2 x in
    let e : lead_of r ≡ d = lead_record n v 2 x ∙ ap (lead n v 2) lx in
    text_new r o w (λ q. let z : ⊥ = omega arith in z) (λ q. let z : ⊥ = omega arith in z)
    ∙ ap₂ (afterwards true w) e (stored_record n v 2 x hx)
    ∙ undone false w d t bw bd bt
