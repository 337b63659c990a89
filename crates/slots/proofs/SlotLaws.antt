-- A slot as the part of the store that the code takes, and that part changed; the slots one after the other.
-- Assumes nothing.
use mathlib.Core.Path.{◌≡◌, refl, sym, ap, ap₂, ◌∙◌}
use mathlib.Core.Bool.{false, not}
use mathlib.Core.List.{List, ◌∷◌}
use Prim.Native.Nat.{ℕ, zero, suc, ◌+◌, ◌-◌, ◌*◌, ◌%◌, ◌≤◌, ◌<◌}
use native.Mathlib.Omega.{arith}
use borrow.Author.Tests.{ltb-false, eqb-true, not-false}
use borrow.Rule.Slice.PartMut.{put_mid}
use lib.Dec.{eqb, ltb}
use lib.ListN.{length, take, drop}
use lib.Seq.{drop-drop}
use Rattle.std.specs.Simd.{first_chunks}
use Rattle.block.specs.Tab.{tab}
use Rattle.block.specs.Rows.{row, put_row}
use Rattle.block.proofs.RowLaws.{length-row}
use Rattle.block.proofs.PartLaws.{part_changed}
use Rattle.block.proofs.TabLaws.{tab_ext}
use Rattle.block.proofs.BoolLaws.{neither}
use Rattle.records.specs.Record.{record_size}
use Rattle.slots.specs.Slots.{slots, slot, put, bad_size}

-- the part of s from k * record_size on that the code takes for slot k
pub slot_part : (s : List ℕ) (k : ℕ) → take (k * record_size + record_size - k * record_size) (drop (k * record_size) s) ≡ slot s k
unfolding row
slot_part s k =
    let n : k * record_size + record_size - k * record_size ≡ record_size = omega arith in
    ap (λ (m : ℕ). take m (drop (k * record_size) s)) n

pub length-slot : (s : List ℕ) (k : ℕ) → k < slots s → length (slot s k) ≡ record_size
length-slot s k h = length-row record_size s k (omega arith)

-- the part of a store that is slot k, changed
pub slot_changed : (s : List ℕ) (k : ℕ) (x : List ℕ) → put_mid (k * record_size) (k * record_size + record_size - k * record_size) s x ≡ put s k x
unfolding put_row
slot_changed s k x = part_changed (k * record_size) (k * record_size + record_size) s x (omega arith)

-- ---- the slots one after the other, as the chunks of a record's size

pub chunks_rows : (w n : ℕ) (s : List ℕ) → first_chunks w n s ≡ tab n (row w s)
unfolding row
chunks_rows w zero s = refl
chunks_rows w (suc n) s =
    let first : 0 * w ≡ 0 = omega arith in
    let later : (i : ℕ) → w + i * w ≡ suc i * w = λ i. omega arith in
    ap₂ (λ (r : List ℕ) (rs : List (List ℕ)). r ∷ rs) (ap (λ (j : ℕ). take w (drop j s)) (sym first))
    (chunks_rows w n (drop w s)
    ∙ tab_ext n (row w (drop w s)) (λ i. row w s (suc i))
    (λ i h. ap (take w) (drop-drop (i * w) w s ∙ ap (λ (j : ℕ). drop j s) (later i))))

-- ---- a store of a size that is taken

pub bad_size_false : (s : List ℕ) → bad_size s ≡ false → (length s ≡ slots s * record_size) × (slots s ≤ 1024)
unfolding bad_size
bad_size_false s h =
    let t = neither (not (eqb (length s % record_size) 0)) (ltb 1024 (slots s)) h in
    let m : length s % record_size ≡ 0 = eqb-true (length s % record_size) 0 (not-false (eqb (length s % record_size) 0) t.0) in
    let l : slots s ≤ 1024 = ltb-false 1024 (slots s) t.1 in
    (omega arith, l)
