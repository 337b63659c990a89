-- Demand 3, third part: of two revisions that name one sheet at one revision at most one is accepted, if no accepted removal of that sheet
-- stands between them, whatever else does.
-- Assumes nothing.
use mathlib.Core.Path.{◌≡◌, refl, sym, ap, ◌∙◌, subst}
use mathlib.Core.Bool.{Bool, true, false}
use mathlib.Core.List.{List, [], ◌∷◌}
use Prim.Native.Nat.{ℕ, zero, suc, ◌+◌, ◌≤◌, ◌<◌}
use native.Mathlib.Omega.{arith}
use borrow.Author.Tests.{eqb-true, eqb-false, ne_eqb}
use lib.Dec.{eqb}
use lib.ListN.{length}
use Rattle.std.specs.Prelude.{Ok, Err}
use Rattle.block.specs.Bytes.{Bytes}
use Rattle.block.proofs.RowLaws.{bytes-row}
use Rattle.records.specs.Record.{record_size, greatest_revision, num, rev}
use Rattle.records.proofs.FieldLaws.{rev_bound}
use Rattle.slots.specs.Slots.{slots, slot, put, emptied, find}
use Rattle.slots.proofs.FindLaws.{find_has}
use Rattle.slots.proofs.PutLaws.{slot_other, num_emptied, length-emptied, slots_put, slot_put, find_put}
use Rattle.sheets.specs.Text.{sheet}
use Rattle.sheets.proofs.SheetLaws.{num_sheet, rev_sheet, length-sheet}
use Rattle.plans.specs.Plans.{bad_keys, add_plan, revise_plan, remove_plan, step_plan, Plan}
use Rattle.plans.proofs.PlanLaws.{remove_says, add_says, revise_says}
use Rattle.store.specs.declared.Outcome.TheVariants.{Converted}
use Rattle.store.specs.Calls.{add_store, revise_answer, revise_store, remove_answer, remove_store, outcome_at, step_store}
use Rattle.store.specs.Conversions.{refuses, gives}
use Rattle.claims.specs.Machine.{Event, reading, adding, converting, revising, removing, stepping, Allowed, AllAllowed}
use Rattle.claims.specs.Machine.{Answer, of_read, of_stored, of_removed, of_step, State, answer, next, answers}
use Rattle.claims.specs.Claims.{event_at, answer_at, RemovedAt}
use Rattle.claims.proofs.Simulation.{SoundStore}
use Rattle.claims.proofs.Effects.{rekeyed, convert_says, left_by_step}
use Rattle.claims.proofs.Traces.{one_next}

-- sheet n is in the store, at a revision above v
abbrev Above : ℕ → ℕ → List ℕ → Type 0
Above n v s = (find s n < slots s) × (v < rev (slot s (find s n)))

-- a slot written anew that has the number n exactly where it had it
module _ (s : List ℕ) (k : ℕ) (h : k < slots s) (x : List ℕ) (l : length x ≡ record_size) (n : ℕ) (q : eqb (num x) n ≡ eqb (num (slot s k)) n) where
  same_place : find (put s k x) n ≡ find s n
  same_place = find_put s k h x l n q

  above_put : (v : ℕ) → (num (slot s k) ≡ n → rev (slot s k) ≤ rev x) → Above n v s → Above n v (put s k x)
  above_put v f a =
      (omega (arith, same_place, slots_put s k h x l, a.0), subst (λ (i : ℕ). v < rev (slot (put s k x) i)) (sym same_place) (by_slot (eqb (find s n) k) refl))
    where
      by_slot : (t : Bool) → eqb (find s n) k ≡ t → v < rev (slot (put s k x) (find s n))
      by_slot true e =
          let i : find s n ≡ k = eqb-true (find s n) k e in
          let d : num (slot s k) ≡ n = sym (ap (λ (j : ℕ). num (slot s j)) i) ∙ find_has (slots s) (slot s) n a.0 in
          let y : rev (slot (put s k x) (find s n)) ≡ rev x = ap (λ (j : ℕ). rev (slot (put s k x) j)) i ∙ ap rev (slot_put s k h x l) in
          let u : rev (slot s (find s n)) ≡ rev (slot s k) = ap (λ (j : ℕ). rev (slot s j)) i in
          omega (arith, a.1, f d)
      by_slot false e =
          let y : rev (slot (put s k x) (find s n)) ≡ rev (slot s (find s n)) = ap rev (slot_other s k h x l (find s n) (eqb-false (find s n) k e)) in
          omega (arith, a.1)

module _ (o w : List ℕ) (keys : bad_keys o w ≡ false) (bo : Bytes o) (bw : Bytes w) (n v : ℕ) (z : n ≡ 0 → ⊥) where
  module _ (s : List ℕ) (g : SoundStore s) (a : Above n v s) where
    above_remove : (i : ℕ) (p : Plan) → remove_plan s i ≡ p → (i ≡ n → remove_answer p ≡ Ok tt → ⊥) → Above n v (remove_store s p)
    above_remove i (Err x) e u = a
    above_remove i (Ok k) e u =
        let c = (remove_says s i k e).1 in
        let h : k < slots s = c.within in
        let d : num (slot s k) ≡ i = c.number in
        let y : i ≡ n → ⊥ = λ q. u q refl in
        let m : num emptied ≡ n → ⊥ = λ q. z (sym q ∙ num_emptied) in
        above_put s k h emptied length-emptied n (ne_eqb (num emptied) n m ∙ sym (ne_eqb (num (slot s k)) n (λ q. y (sym d ∙ q)))) v
        (λ q. absurd (y (sym d ∙ q))) a

    above_add : (i : ℕ) (t : List ℕ) → i < 4294967296 → Bytes t → (p : Plan) → add_plan o w s i t ≡ p → Above n v (add_store w s i t p)
    above_add i t hi bt (Err x) e = a
    above_add i t hi bt (Ok k) e =
        let c = add_says o w s i t k e in
        let x : List ℕ = sheet w i 1 t in
        let d : num x ≡ i = num_sheet w i 1 t hi in
        let y : i ≡ n → ⊥ = λ q. let f : find s i ≡ find s n = ap (find s) q in let b : ⊥ = omega (arith, c.new, a.0) in b in
        let m : num (slot s k) ≡ n → ⊥ = λ q. z (sym q ∙ c.free) in
        above_put s k c.within x (length-sheet w i 1 t bw bt c.fits) n (ne_eqb (num x) n (λ q. y (sym d ∙ q)) ∙ sym (ne_eqb (num (slot s k)) n m)) v
        (λ q. absurd (m q)) a

    above_revise : (i u : ℕ) (t : List ℕ) → i < 4294967296 → Bytes t → (p : Plan) → revise_plan o w s i u t ≡ p → Above n v (revise_store w s i t p)
    above_revise i u t hi bt (Err x) e = a
    above_revise i u t hi bt (Ok k) e =
        let c = revise_says o w s i u t k e in
        let r : List ℕ = slot s k in
        let hv : rev r + 1 ≤ greatest_revision = omega (arith, rev_bound r (bytes-row record_size s k g.bytes), c.below) in
        let x : List ℕ = sheet w i (rev r + 1) t in
        let d : num x ≡ num r = num_sheet w i (rev r + 1) t hi ∙ sym c.at.number in
        let y : rev x ≡ rev r + 1 = rev_sheet w i (rev r + 1) t hv in
        above_put s k c.at.within x (length-sheet w i (rev r + 1) t bw bt c.fits) n (ap (λ (j : ℕ). eqb j n) d) v (λ q. omega arith) a

    above_converted : (k : ℕ) → outcome_at s k ≡ Converted → Above n v (put s k (rekeyed o w s k))
    above_converted k e =
        let c = convert_says o w s k bo bw g.bytes e in
        above_put s k c.within (rekeyed o w s k) c.whole n (ap (λ (j : ℕ). eqb j n) c.number) v (λ q. omega (arith, c.revision)) a

    above_step : (p : Plan) → Above n v (step_store o w s p)
    above_step (Err x) = a
    above_step (Ok k) = left_by_step o w s k (Above n v) a (above_converted k)

  -- whatever comes next, but for an accepted removal of the sheet
  above_next : (e : Event) (st : State) → Allowed e → SoundStore st.store → (e ≡ removing n → answer o w e st ≡ of_removed (Ok tt) → ⊥)
      → Above n v st.store → Above n v (next o w e st).store
  above_next (reading i b) st h g u a = a
  above_next (adding i t) st h g u a = above_add st.store g a i t h.0 h.1 (add_plan o w st.store i t) refl
  above_next (converting i (refuses x)) st h g u a = a
  above_next (converting i (gives t)) st h g u a = above_add st.store g a i t h.0 h.1 (add_plan o w st.store i t) refl
  above_next (revising i m t) st h g u a = above_revise st.store g a i m t h.0 h.2 (revise_plan o w st.store i m t) refl
  above_next (removing i) st h g u a =
      above_remove st.store g a i (remove_plan st.store i) refl (λ q d. u (ap removing q) (ap of_removed d))
  above_next (stepping c) st h g u a = above_step st.store g a (step_plan o w st.store (st.place c))

-- ---- answers

abbrev stored_kind : Answer → ℕ
stored_kind (of_read x b) = 0
stored_kind (of_stored (Err x)) = 0
stored_kind (of_stored (Ok r)) = 1
stored_kind (of_removed x) = 0
stored_kind of_step = 0

abbrev revising_kind : Event → ℕ
revising_kind (reading n b) = 0
revising_kind (adding n t) = 0
revising_kind (converting n x) = 0
revising_kind (revising n v t) = 1
revising_kind (removing n) = 0
revising_kind (stepping c) = 0

no_event : (n v : ℕ) (t : List ℕ) → stepping 0 ≡ revising n v t → ⊥
no_event n v t e = let z : ◌≡◌ {A = ℕ} 0 1 = ap revising_kind e in let y : ⊥ = omega arith in y

module _ (o w : List ℕ) (keys : bad_keys o w ≡ false) (bo : Bytes o) (bw : Bytes w) (n v : ℕ) where
  -- an accepted revision names the revision stored
  accepted_says : (s t : List ℕ) (r : ℕ) (p : Plan) → revise_plan o w s n v t ≡ p → of_stored (revise_answer s p) ≡ of_stored (Ok r)
      → (find s n < slots s) × (n ≡ 0 → ⊥) × (v ≡ rev (slot s (find s n)))
  accepted_says s t r (Err x) e q = let z : ◌≡◌ {A = ℕ} 0 1 = ap stored_kind q in let y : ⊥ = omega arith in absurd y
  accepted_says s t r (Ok k) e q =
      let c = revise_says o w s n v t k e in
      (omega (arith, c.at.within, c.at.place), c.at.some, c.seen ∙ ap (λ (j : ℕ). rev (slot s j)) (sym c.at.place))

  -- and leaves a higher one
  above_accepted : (s t : List ℕ) → SoundStore s → n < 4294967296 → Bytes t → (r : ℕ) (p : Plan) → revise_plan o w s n v t ≡ p
      → of_stored (revise_answer s p) ≡ of_stored (Ok r) → Above n v (revise_store w s n t p)
  above_accepted s t g hn bt r (Err x) e q = let z : ◌≡◌ {A = ℕ} 0 1 = ap stored_kind q in let y : ⊥ = omega arith in absurd y
  above_accepted s t g hn bt r (Ok k) e q =
      let c = revise_says o w s n v t k e in
      let x : List ℕ = sheet w n (rev (slot s k) + 1) t in
      let hv : rev (slot s k) + 1 ≤ greatest_revision = omega (arith, rev_bound (slot s k) (bytes-row record_size s k g.bytes), c.below) in
      let lx : length x ≡ record_size = length-sheet w n (rev (slot s k) + 1) t bw bt c.fits in
      let d : num x ≡ num (slot s k) = num_sheet w n (rev (slot s k) + 1) t hn ∙ sym c.at.number in
      let y : rev x ≡ rev (slot s k) + 1 = rev_sheet w n (rev (slot s k) + 1) t hv in
      let f : find (put s k x) n ≡ k = find_put s k c.at.within x lx n (ap (λ (j : ℕ). eqb j n) d) ∙ c.at.place in
      let i : rev (slot (put s k x) (find (put s k x) n)) ≡ rev x = ap (λ (j : ℕ). rev (slot (put s k x) j)) f ∙ ap rev (slot_put s k c.at.within x lx) in
      (omega (arith, c.at.within, slots_put s k c.at.within x lx), omega (arith, c.seen))

  -- ---- along the events, by position

  none_later : (n ≡ 0 → ⊥) → (es : List Event) (st : State) → AllAllowed es → SoundStore st.store → Above n v st.store
      → (j : ℕ) (t : List ℕ) → event_at es j ≡ revising n v t → ((k : ℕ) → k < j → RemovedAt o w es st n k → ⊥)
      → (r : ℕ) → answer_at (answers o w es st) j ≡ of_stored (Ok r) → ⊥
  none_later z [] st h g a j t e u r q = no_event n v t e
  none_later z (x ∷ es) st h g a zero t e u r q =
      let s : List ℕ = st.store in
      let c = accepted_says s t r (revise_plan o w s n v t) refl (sym (ap (λ (y : Event). answer o w y st) e) ∙ q) in
      let y : ⊥ = omega (arith, a.1, c.2) in
      y
  none_later z (x ∷ es) st h g a (suc j) t e u r q =
      none_later z es (next o w x st) h.1 (one_next o w keys bo bw x st h.0 g).1
      (above_next o w keys bo bw n v z x st h.0 g (λ c d. u 0 (omega arith) (c, d)) a) j t e (λ k hk. u (suc k) (omega arith)) r q

  pub one_of_two : (es : List Event) (st : State) → AllAllowed es → SoundStore st.store → (i j : ℕ) → i < j
      → (t t' : List ℕ) → event_at es i ≡ revising n v t → event_at es j ≡ revising n v t'
      → ((k : ℕ) → i < k → k < j → RemovedAt o w es st n k → ⊥)
      → (r r' : ℕ) → answer_at (answers o w es st) i ≡ of_stored (Ok r) → answer_at (answers o w es st) j ≡ of_stored (Ok r') → ⊥
  one_of_two [] st h g i j l t t' e e' u r r' q q' = no_event n v t e
  one_of_two (x ∷ es) st h g zero zero l t t' e e' u r r' q q' = let y : ⊥ = omega arith in y
  one_of_two (x ∷ es) st h g (suc i) zero l t t' e e' u r r' q q' = let y : ⊥ = omega arith in y
  one_of_two (x ∷ es) st h g zero (suc j) l t t' e e' u r r' q q' =
      let s : List ℕ = st.store in
      let hx : Allowed (revising n v t) = subst Allowed e h.0 in
      let p : answer o w (revising n v t) st ≡ of_stored (Ok r) = sym (ap (λ (y : Event). answer o w y st) e) ∙ q in
      let c = accepted_says s t r (revise_plan o w s n v t) refl p in
      let a : Above n v (next o w (revising n v t) st).store = above_accepted s t g hx.0 hx.2 r (revise_plan o w s n v t) refl p in
      none_later c.1 es (next o w x st) h.1 (one_next o w keys bo bw x st h.0 g).1
      (subst (λ (y : Event). Above n v (next o w y st).store) (sym e) a) j t' e' (λ k hk. u (suc k) (omega arith) (omega arith)) r' q'
  one_of_two (x ∷ es) st h g (suc i) (suc j) l t t' e e' u r r' q q' =
      one_of_two es (next o w x st) h.1 (one_next o w keys bo bw x st h.0 g).1 i j (omega arith) t t' e e'
      (λ k hi hj. u (suc k) (omega arith) (omega arith)) r r' q q'
