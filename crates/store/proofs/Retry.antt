-- A call that had run and is made again: a revision is refused with 8, and an add with 11, while nothing else came between.
-- Assumes nothing.
use mathlib.Core.Path.{◌≡◌, refl, sym, ap, ◌∙◌}
use mathlib.Core.Bool.{true, false}
use mathlib.Core.List.{List}
use Prim.Native.Nat.{ℕ, ◌+◌, ◌≤◌, ◌<◌}
use native.Mathlib.Omega.{arith}
use lib.Dec.{eqb}
use lib.ListN.{length}
use Rattle.std.specs.Prelude.{Ok, Err}
use Rattle.block.specs.Bytes.{Bytes}
use Rattle.block.proofs.RowLaws.{bytes-row}
use Rattle.numbers.specs.declared.Refusal.{Refusal}
use Rattle.numbers.specs.declared.Refusal.TheVariants.{OtherRevision, SheetPresent}
use Rattle.records.specs.Record.{record_size, greatest_revision, num, rev, sound}
use Rattle.records.proofs.FieldLaws.{rev_bound}
use Rattle.slots.specs.Slots.{slots, slot, put, find}
use Rattle.slots.proofs.FindLaws.{find_lowest, find_is}
use Rattle.slots.proofs.PutLaws.{slots_put, size_put, slot_put, slot_other, find_put}
use Rattle.sheets.specs.Text.{sheet}
use Rattle.sheets.proofs.SheetLaws.{num_sheet, length-sheet}
use Rattle.plans.specs.Plans.{Plan, bad_text, add_plan, revise_plan}
use Rattle.plans.proofs.PlanLaws.{add_says, revise_says, add_present, revise_other}
use Rattle.store.specs.Calls.{Stored, add_answer, add_store, revise_answer, revise_store}
use Rattle.store.proofs.RoundTrip.{revision_back, sound_back}

module _ (o w s : List ℕ) (n : ℕ) (t : List ℕ) (k : ℕ) (bw : Bytes w) (bs : Bytes s) (bt : Bytes t) (hn : n < 4294967296) where
  -- a revision accepted and then tried again, with whatever text, finds another revision
  another_revision : (v : ℕ) (t' : List ℕ) → bad_text t' ≡ false → revise_plan o w s n v t ≡ Ok k
      → revise_plan o w (put s k (sheet w n (v + 1) t)) n v t' ≡ Err OtherRevision
  another_revision v t' b e =
      let a = revise_says o w s n v t k e in
      let h : k < slots s = a.at.within in
      let hv : v + 1 ≤ greatest_revision = omega (arith, a.seen, a.below, rev_bound (slot s k) (bytes-row record_size s k bs)) in
      let x : List ℕ = sheet w n (v + 1) t in
      let s' : List ℕ = put s k x in
      let l : length x ≡ record_size = length-sheet w n (v + 1) t bw bt a.fits in
      let g : find s' n ≡ k =
      find_put s k h x l n (ap (λ (j : ℕ). eqb j n) (num_sheet w n (v + 1) t hn ∙ sym a.at.number)) ∙ a.at.place in
      let sk : sound (slot s' k) ≡ true = sound_back w n (v + 1) t bw bt a.fits s k h a.at.some hn (omega arith) hv a.long in
      let rk : rev (slot s' k) ≡ v + 1 = revision_back w n (v + 1) t bw bt a.fits s k h hv in
      let rf : rev (slot s' (find s' n)) ≡ rev (slot s' k) = ap (λ (j : ℕ). rev (slot s' j)) g in
      revise_other s' (size_put s k h x l ∙ a.size) n a.at.some o w a.keys t' b (omega (arith, slots_put s k h x l)) v
      (ap (λ (j : ℕ). sound (slot s' j)) g ∙ sk) (λ q. let z : ⊥ = omega arith in z)

  -- an add accepted and then tried again, with whatever text, finds the sheet there
  sheet_there : (t' : List ℕ) → bad_text t' ≡ false → add_plan o w s n t ≡ Ok k → add_plan o w (put s k (sheet w n 1 t)) n t' ≡ Err SheetPresent
  sheet_there t' b e =
      let a = add_says o w s n t k e in
      let h : k < slots s = a.within in
      let x : List ℕ = sheet w n 1 t in
      let s' : List ℕ = put s k x in
      let l : length x ≡ record_size = length-sheet w n 1 t bw bt a.fits in
      let g : find s' n ≡ k =
      find_is (slots s') (slot s') n k (omega (arith, slots_put s k h x l)) (ap num (slot_put s k h x l) ∙ num_sheet w n 1 t hn)
      (λ j q r. find_lowest (slots s) (slot s) n j (omega (arith, a.new))
      (sym (ap num (slot_other s k h x l j (λ y. let z : ⊥ = omega arith in z))) ∙ r)) in
      add_present s' (size_put s k h x l ∙ a.size) n a.some o w a.keys t' b (omega (arith, slots_put s k h x l))

-- ---- an answer that is a revision comes of a plan that ends at a slot

-- of any answer that refuses where the plan does
pub accepted_at : (f : Plan → Stored) → ((x : Refusal) → f (Err x) ≡ Err x) → (p : Plan) (r : ℕ) → f p ≡ Ok r
    → (k : ℕ) × (p ≡ Ok k)
accepted_at f h (Err x) r e = cc (h x)
accepted_at f h (Ok k) r e = (k, refl)

-- ---- a call that was accepted and is made again on the store that it left, with any text of a length that is taken

module _ (o w s : List ℕ) (n : ℕ) (t : List ℕ) (bw : Bytes w) (bs : Bytes s) (bt : Bytes t) (hn : n < 4294967296) (t' : List ℕ) (g : bad_text t' ≡ false) where
  -- a revision, of the revision v that the operator saw: 8
  module _ (v : ℕ) where
    abbrev revised : List ℕ
    revised = revise_store w s n t (revise_plan o w s n v t)

    pub revise_again : (r : ℕ) → revise_answer s (revise_plan o w s n v t) ≡ Ok r
        → revise_answer revised (revise_plan o w revised n v t') ≡ Err OtherRevision
    revise_again r e =
        let a = accepted_at (revise_answer s) (λ x. refl) (revise_plan o w s n v t) r e in
        let k : ℕ = a.0 in
        let p : revise_plan o w s n v t ≡ Ok k = a.1 in
        let q : v ≡ rev (slot s k) = (revise_says o w s n v t k p).seen in
        let left : revised ≡ put s k (sheet w n (v + 1) t) =
        ap (revise_store w s n t) p ∙ ap (λ (x : ℕ). put s k (sheet w n (x + 1) t)) (sym q) in
        ap (revise_answer revised) (ap (λ (x : List ℕ). revise_plan o w x n v t') left ∙ another_revision o w s n t k bw bs bt hn v t' g p)

  -- an add: 11
  abbrev added : List ℕ
  added = add_store w s n t (add_plan o w s n t)

  pub add_again : (r : ℕ) → add_answer (add_plan o w s n t) ≡ Ok r → add_answer (add_plan o w added n t') ≡ Err SheetPresent
  add_again r e =
      let a = accepted_at add_answer (λ x. refl) (add_plan o w s n t) r e in
      let left : added ≡ put s a.0 (sheet w n 1 t) = ap (add_store w s n t) a.1 in
      ap add_answer (ap (λ (x : List ℕ). add_plan o w x n t') left ∙ sheet_there o w s n t a.0 bw bs bt hn t' g a.1)
