-- What keeps a store sound, and what a written slot becomes in the plain list.
-- Assumes nothing.
use mathlib.Core.Path.{◌≡◌, sym, ap, ap₂, ◌∙◌}
use mathlib.Core.Bool.{Bool, true, cond}
use mathlib.Core.List.{List}
use Prim.Native.Nat.{ℕ, ◌≤◌, ◌<◌}
use native.Mathlib.Omega.{arith}
use borrow.Author.Tests.{eq-eqb, ne_eqb}
use lib.ListN.{length}
use Rattle.block.specs.Bytes.{Bytes}
use Rattle.records.specs.Record.{record_size, text_most, greatest_revision, num, rev, sound}
use Rattle.slots.specs.Slots.{slots, put, emptied}
use Rattle.slots.proofs.PutLaws.{num_emptied, size_put, bytes-put, slots_put, every}
use Rattle.sheets.specs.Text.{text_of, sheet}
use Rattle.sheets.proofs.SheetLaws.{num_sheet, rev_sheet, sheet_text}
use Rattle.claims.specs.Plain.{nothing, holding}
use Rattle.claims.specs.View.{place_of}
use Rattle.claims.proofs.Simulation.{SoundStore}

-- ---- a slot that is emptied

pub place_emptied : (o w : List ℕ) → place_of o w emptied ≡ nothing
unfolding place_of
place_emptied o w =
    ap (λ (b : Bool). cond b nothing (holding (num emptied) (rev emptied) (text_of o w emptied))) (eq-eqb (num emptied) 0 num_emptied)

-- ---- a slot that becomes a sheet

pub place_sheet : (w : List ℕ) (n v : ℕ) (t : List ℕ) → Bytes w → Bytes t → length t ≤ text_most → n < 4294967296 → v ≤ greatest_revision
    → (o : List ℕ) → (n ≡ 0 → ⊥) → place_of o w (sheet w n v t) ≡ holding n v t
unfolding place_of
place_sheet w n v t bw bt ht hn hv o z =
    let x : List ℕ = sheet w n v t in
    let m : num x ≡ n = num_sheet w n v t hn in
    ap (λ (b : Bool). cond b nothing (holding (num x) (rev x) (text_of o w x))) (ne_eqb (num x) 0 (λ q. z (sym m ∙ q)))
    ∙ ap₂ (λ (i j : ℕ). holding i j (text_of o w x)) m (rev_sheet w n v t hv)
    ∙ ap (holding n v) (sheet_text o w n v t bw bt ht)

-- ---- a store with one slot written anew

pub sound_put : (s : List ℕ) (k : ℕ) → k < slots s → (x : List ℕ) → length x ≡ record_size
    → SoundStore s → Bytes x → sound x ≡ true → SoundStore (put s k x)
sound_put s k h x l g b e =
    record {
      size = size_put s k h x l ∙ g.size;
      bytes = bytes-put s k h x l g.bytes b;
      each = λ j q. every s k h x l (λ i r. i < slots s → sound r ≡ true) (λ c. e) (λ i a. g.each i) j (omega (arith, slots_put s k h x l));
    }
