-- Demand 3, second part: the last-slot claim, of 01's step.
-- Assumes nothing.
use mathlib.Core.Path.{◌≡◌, refl, sym, ap, ◌∙◌, subst}
use mathlib.Core.Bool.{Bool, true, false, cond, not, ◌&&◌, ◌||◌, or-true}
use mathlib.Core.List.{List, [], ◌∷◌, ◌++◌}
use Prim.Native.Nat.{ℕ, suc, ◌+◌, ◌≤◌, ◌<◌}
use native.Mathlib.Omega.{arith}
use borrow.Author.Tests.{eqb-true, eqb-false, eq-eqb, leb-true, leb-false}
use lib.Dec.{eqb, leb}
use lib.ListN.{length}
use Rattle.std.specs.Prelude.{Ok, Err}
use Rattle.block.specs.Bytes.{Bytes}
use Rattle.records.specs.Record.{record_size, num, rev, mark, sound}
use Rattle.slots.specs.Slots.{slots, slot, put, emptied, bad_size}
use Rattle.slots.proofs.PutLaws.{length-emptied, slots_put, num_emptied, every}
use Rattle.checking.specs.Check.{marked}
use Rattle.sheets.specs.Text.{text_of, sheet}
use Rattle.sheets.proofs.SheetLaws.{mark_sheet, length-sheet}
use Rattle.plans.specs.Plans.{bad_keys, add_plan, revise_plan, remove_plan, step_plan, Plan}
use Rattle.plans.proofs.PlanLaws.{opened_no, remove_says, add_says, revise_says}
use Rattle.store.specs.declared.Outcome.{Outcome}
use Rattle.store.specs.declared.Outcome.TheVariants.{Done, Free, Damaged, Already, Converted}
use Rattle.store.specs.Calls.{add_store, revise_store, remove_store, record_outcome, outcome_at, moved_from, converted_at, step_answer, place_after, step_store}
use Rattle.store.specs.Conversions.{refuses, gives}
use Rattle.claims.specs.Machine.{Event, reading, adding, converting, revising, removing, stepping, AllAllowed, State, store_step, moved, next, final}
use Rattle.claims.specs.Claims.{NoneLeft, steps_of, LastSlotClaim}
use Rattle.claims.proofs.Simulation.{SoundStore}
use Rattle.claims.proofs.Effects.{rekeyed, convert_says, left_by_step}
use Rattle.claims.proofs.Traces.{one_next, same_list, slots_stay}
use Rattle.claims.proofs.Joining.{final_join, allowed_left, allowed_right}
use Rattle.claims.proofs.Checking.{passes_sound}

-- the slot is free, or marked new key
abbrev ready : List ℕ → Bool
ready r = eqb (num r) 0 || eqb (mark r) 2

-- so it is marked neither clear nor old key
ready_unmarked : (r : List ℕ) (m : ℕ) → m < 2 → ready r ≡ true → marked m r ≡ false
ready_unmarked r m h e = by_tests (eqb (num r) 0) (eqb (mark r) 2) (eqb (mark r) m) refl refl e
  where
    by_tests : (a b c : Bool) → eqb (mark r) 2 ≡ b → eqb (mark r) m ≡ c → a || b ≡ true → not a && c ≡ false
    by_tests true b c p q x = refl
    by_tests false true true p q x =
        let d : mark r ≡ 2 = eqb-true (mark r) 2 p in
        let f : mark r ≡ m = eqb-true (mark r) m q in
        let y : ⊥ = omega arith in
        absurd y
    by_tests false true false p q x = refl
    by_tests false false c p q x = let z : ◌≡◌ {A = ℕ} 0 1 = ap (λ (t : Bool). cond t 1 0) x in let y : ⊥ = omega arith in absurd y

-- every slot below p is free or under the new key
abbrev Behind : ℕ → List ℕ → Type 0
Behind p s = (j : ℕ) → j < p → j < slots s → ready (slot s j) ≡ true

ready_emptied : ready emptied ≡ true
ready_emptied = ap (λ (b : Bool). b || eqb (mark emptied) 2) (eq-eqb (num emptied) 0 num_emptied)

ready_sheet : (w : List ℕ) (n v : ℕ) (t : List ℕ) → ready (sheet w n v t) ≡ true
ready_sheet w n v t =
    ap (λ (b : Bool). eqb (num (sheet w n v t)) 0 || b) (eq-eqb (mark (sheet w n v t)) 2 (mark_sheet w n v t)) ∙ or-true (eqb (num (sheet w n v t)) 0)

-- a slot written so that it is ready
module _ (s : List ℕ) (k : ℕ) (h : k < slots s) (x : List ℕ) (l : length x ≡ record_size) (r : ready x ≡ true) where
  behind_put : (p : ℕ) → Behind p s → Behind p (put s k x)
  behind_put p b j hj hs =
      every s k h x l (λ i y. i < p → i < slots s → ready y ≡ true) (λ a c. r) (λ i z. b i) j hj (omega (arith, slots_put s k h x l))

  -- and the slot itself with it
  behind_more : Behind k s → Behind (k + 1) (put s k x)
  behind_more b j hj hs =
      every s k h x l (λ i y. i < k + 1 → i < slots s → ready y ≡ true) (λ a c. r) (λ i z a. b i (omega (arith, z))) j hj
      (omega (arith, slots_put s k h x l))

-- the slot at the place is ready as it stands
behind_next : (s : List ℕ) (k : ℕ) → ready (slot s k) ≡ true → Behind k s → Behind (k + 1) s
behind_next s k r b j hj hs = by_slot (eqb j k) refl
  where
    by_slot : (t : Bool) → eqb j k ≡ t → ready (slot s j) ≡ true
    by_slot true e = ap (λ (i : ℕ). ready (slot s i)) (eqb-true j k e) ∙ r
    by_slot false e = let z : j ≡ k → ⊥ = eqb-false j k e in b j (omega (arith, z)) hs

-- ---- the outcomes of a step

-- what an outcome says of the slot at the place
abbrev Says : List ℕ → ℕ → Outcome → Type 0
Says s k Done = slots s ≤ k
Says s k Free = (k < slots s) × (ready (slot s k) ≡ true)
Says s k Damaged = (k < slots s) × (sound (slot s k) ≡ false)
Says s k Already = (k < slots s) × (ready (slot s k) ≡ true)
Says s k Converted = k < slots s

says : (s : List ℕ) (k : ℕ) → Says s k (outcome_at s k)
unfolding outcome_at record_outcome
says s k = by_tests (leb (slots s) k) (eqb (num (slot s k)) 0) (sound (slot s k)) (eqb (mark (slot s k)) 2) refl refl refl refl
  where
    by_tests : (a b c d : Bool) → leb (slots s) k ≡ a → eqb (num (slot s k)) 0 ≡ b → sound (slot s k) ≡ c → eqb (mark (slot s k)) 2 ≡ d
        → Says s k (cond a Done (cond b Free (cond (not c) Damaged (cond d Already Converted))))
    by_tests true b c d p q r m = leb-true (slots s) k p
    by_tests false true c d p q r m = (leb-false (slots s) k p, ap (λ (t : Bool). t || eqb (mark (slot s k)) 2) q)
    by_tests false false false d p q r m = (leb-false (slots s) k p, r)
    by_tests false false true true p q r m =
        (leb-false (slots s) k p, ap (λ (t : Bool). eqb (num (slot s k)) 0 || t) m ∙ or-true (eqb (num (slot s k)) 0))
    by_tests false false true false p q r m = leb-false (slots s) k p

module _ (o w s : List ℕ) (bo : Bytes o) (bw : Bytes w) (g : SoundStore s) where
  -- no slot of a sound store is damaged
  undamaged : (k : ℕ) → Says s k Damaged → ⊥
  undamaged k c = let z : ◌≡◌ {A = ℕ} 1 0 = ap (λ (t : Bool). cond t 1 0) (sym (g.each k c.0) ∙ c.1) in let y : ⊥ = omega arith in y

  slots_converted : (k : ℕ) → slots (converted_at o w s k (outcome_at s k)) ≡ slots s
  slots_converted k =
      left_by_step o w s k (λ x. slots x ≡ slots s) refl
      (λ e. let c = convert_says o w s k bo bw g.bytes e in slots_put s k c.within (rekeyed o w s k) c.whole)

  behind_others : (p k : ℕ) → Behind p s → Behind p (converted_at o w s k (outcome_at s k))
  behind_others p k b =
      left_by_step o w s k (Behind p) b
      (λ e.
      let c = convert_says o w s k bo bw g.bytes e in
      behind_put s k c.within (rekeyed o w s k) c.whole (ready_sheet w (num (slot s k)) (rev (slot s k)) (text_of o w (slot s k))) p b)

  behind_own : (k : ℕ) (x : Outcome) → outcome_at s k ≡ x → Behind k s → Behind (moved_from k x) (converted_at o w s k x)
  behind_own k Done e b = b
  behind_own k Free e b = behind_next s k (subst (Says s k) e (says s k)).1 b
  behind_own k Damaged e b = absurd (undamaged k (subst (Says s k) e (says s k)))
  behind_own k Already e b = behind_next s k (subst (Says s k) e (says s k)).1 b
  behind_own k Converted e b =
      let c = convert_says o w s k bo bw g.bytes e in
      behind_more s k c.within (rekeyed o w s k) c.whole (ready_sheet w (num (slot s k)) (rev (slot s k)) (text_of o w (slot s k))) b

  further : (n k : ℕ) (x : Outcome) → outcome_at s k ≡ x → (k < slots s → n ≤ k) → moved_from k x < slots s → suc n ≤ moved_from k x
  further n k Done e f h = let d : slots s ≤ k = subst (Says s k) e (says s k) in let z : ⊥ = omega arith in absurd z
  further n k Free e f h = let d : n ≤ k = f (subst (Says s k) e (says s k)).0 in omega arith
  further n k Damaged e f h = let d : n ≤ k = f (subst (Says s k) e (says s k)).0 in omega arith
  further n k Already e f h = let d : n ≤ k = f (subst (Says s k) e (says s k)).0 in omega arith
  further n k Converted e f h = let d : n ≤ k = f (subst (Says s k) e (says s k)) in omega arith

-- with keys and a store of allowed sizes a step is never refused
pub step_taken : (o w s : List ℕ) (k : ℕ) → bad_keys o w ≡ false → bad_size s ≡ false → step_plan o w s k ≡ Ok k
step_taken o w s k a b = opened_no o w s a b (Ok k)

-- ---- a copy that has made n steps: the slots behind it are ready, and it is n on or past the end

abbrev Reached : ℕ → ℕ → List ℕ → Type 0
Reached n p s = Behind p s × (p < slots s → n ≤ p)

module _ (o w : List ℕ) (keys : bad_keys o w ≡ false) (bo : Bytes o) (bw : Bytes w) (c : ℕ) where
  module _ (s : List ℕ) (g : SoundStore s) (n p : ℕ) (r : Reached n p s) where
    kept_by_remove : (i : ℕ) (q : Plan) → remove_plan s i ≡ q → Reached n p (remove_store s q)
    kept_by_remove i (Err x) e = r
    kept_by_remove i (Ok k) e =
        let h : k < slots s = (remove_says s i k e).1.within in
        (behind_put s k h emptied length-emptied ready_emptied p r.0, λ a. r.1 (omega (arith, slots_put s k h emptied length-emptied)))

    kept_by_add : (i : ℕ) (t : List ℕ) → Bytes t → (q : Plan) → add_plan o w s i t ≡ q → Reached n p (add_store w s i t q)
    kept_by_add i t bt (Err x) e = r
    kept_by_add i t bt (Ok k) e =
        let a = add_says o w s i t k e in
        let l : length (sheet w i 1 t) ≡ record_size = length-sheet w i 1 t bw bt a.fits in
        (behind_put s k a.within (sheet w i 1 t) l (ready_sheet w i 1 t) p r.0, λ b. r.1 (omega (arith, slots_put s k a.within (sheet w i 1 t) l)))

    kept_by_revise : (i v : ℕ) (t : List ℕ) → Bytes t → (q : Plan) → revise_plan o w s i v t ≡ q → Reached n p (revise_store w s i t q)
    kept_by_revise i v t bt (Err x) e = r
    kept_by_revise i v t bt (Ok k) e =
        let a = revise_says o w s i v t k e in
        let x : List ℕ = sheet w i (rev (slot s k) + 1) t in
        let l : length x ≡ record_size = length-sheet w i (rev (slot s k) + 1) t bw bt a.fits in
        (behind_put s k a.at.within x l (ready_sheet w i (rev (slot s k) + 1) t) p r.0, λ b. r.1 (omega (arith, slots_put s k a.at.within x l)))

  -- the step of a copy d, seen from copy c
  by_a_step : (st : State) → SoundStore st.store → (n d : ℕ) → Reached n (st.place c) st.store
      → Reached (cond (eqb c d) (suc n) n) ((next o w (stepping d) st).place c) (next o w (stepping d) st).store
  by_a_step st g n d r =
      subst (λ (q : Plan). Reached (cond (eqb c d) (suc n) n) (moved d (place_after k (step_answer s q)) st.place c) (step_store o w s q))
      (sym plan) (by_copy (eqb c d) refl)
    where
      s : List ℕ
      s = st.store

      k : ℕ
      k = st.place d

      x : Outcome
      x = outcome_at s k

      plan : step_plan o w s k ≡ Ok k
      plan = step_taken o w s k keys g.size

      same : slots (converted_at o w s k x) ≡ slots s
      same = slots_converted o w s bo bw g k

      by_copy : (t : Bool) → eqb c d ≡ t → Reached (cond t (suc n) n) (cond t (moved_from k x) (st.place c)) (converted_at o w s k x)
      by_copy true e =
          let q : st.place c ≡ k = ap st.place (eqb-true c d e) in
          let b : Behind k s = subst (λ (i : ℕ). Behind i s) q r.0 in
          let f : k < slots s → n ≤ k = λ y. let z : n ≤ st.place c = r.1 (omega arith) in omega arith in
          (behind_own o w s bo bw g k x refl b, λ a. further o w s bo bw g n k x refl f (omega (arith, same)))
      by_copy false e = (behind_others o w s bo bw g (st.place c) k r.0, λ a. r.1 (omega (arith, same)))

  reached : (es : List Event) (st : State) → AllAllowed es → SoundStore st.store → (n : ℕ) → Reached n (st.place c) st.store
      → Reached (n + steps_of c es) ((final o w es st).place c) (final o w es st).store
  reached [] st a g n r = (r.0, λ h. let z : n ≤ st.place c = r.1 h in omega arith)
  reached (reading i b ∷ es) st a g n r = reached es st a.1 g n r
  reached (adding i t ∷ es) st a g n r =
      reached es (next o w (adding i t) st) a.1 (one_next o w keys bo bw (adding i t) st a.0 g).1 n
      (kept_by_add st.store g n (st.place c) r i t a.0.1 (add_plan o w st.store i t) refl)
  reached (converting i (refuses x) ∷ es) st a g n r = reached es st a.1 g n r
  reached (converting i (gives t) ∷ es) st a g n r =
      reached es (next o w (adding i t) st) a.1 (one_next o w keys bo bw (adding i t) st a.0 g).1 n
      (kept_by_add st.store g n (st.place c) r i t a.0.1 (add_plan o w st.store i t) refl)
  reached (revising i v t ∷ es) st a g n r =
      reached es (next o w (revising i v t) st) a.1 (one_next o w keys bo bw (revising i v t) st a.0 g).1 n
      (kept_by_revise st.store g n (st.place c) r i v t a.0.2 (revise_plan o w st.store i v t) refl)
  reached (removing i ∷ es) st a g n r =
      reached es (next o w (removing i) st) a.1 (one_next o w keys bo bw (removing i) st a.0 g).1 n
      (kept_by_remove st.store g n (st.place c) r i (remove_plan st.store i) refl)
  reached (stepping d ∷ es) st a g n r =
      let g1 : SoundStore (next o w (stepping d) st).store = (one_next o w keys bo bw (stepping d) st a.0 g).1 in
      let q = reached es (next o w (stepping d) st) a.1 g1 (cond (eqb c d) (suc n) n) (by_a_step st g n d r) in
      (q.0, λ h. subst (λ (m : ℕ). m ≤ (final o w (stepping d ∷ es) st).place c) (sum (eqb c d)) (q.1 h))
    where
      sum : (t : Bool) → cond t (suc n) n + steps_of c es ≡ n + cond t (suc (steps_of c es)) (steps_of c es)
      sum true = omega arith
      sum false = refl

one_more : (t : Bool) (m n : ℕ) → m ≤ n → cond t (suc m) m ≤ cond t (suc n) n
one_more true m n h = omega arith
one_more false m n h = h

steps_more : (c : ℕ) (es later : List Event) → steps_of c es ≤ steps_of c (es ++ later)
steps_more c [] later = omega arith
steps_more c (reading n b ∷ es) later = steps_more c es later
steps_more c (adding n t ∷ es) later = steps_more c es later
steps_more c (converting n x ∷ es) later = steps_more c es later
steps_more c (revising n v t ∷ es) later = steps_more c es later
steps_more c (removing n ∷ es) later = steps_more c es later
steps_more c (stepping d ∷ es) later = one_more (eqb c d) (steps_of c es) (steps_of c (es ++ later)) (steps_more c es later)

-- a copy at place 0 that makes as many steps as there are slots
none_left : (o w : List ℕ) → bad_keys o w ≡ false → Bytes o → Bytes w → (c : ℕ) (st : State) → SoundStore st.store → st.place c ≡ 0
    → (es : List Event) → AllAllowed es → slots st.store ≤ steps_of c es → NoneLeft (final o w es st).store
none_left o w keys bo bw c st g z es a h k hk =
    let q = reached o w keys bo bw c es st a g 0 ((λ j x y. let v : ⊥ = omega arith in absurd v), λ x. omega arith) in
    let n : slots (final o w es st).store ≡ slots st.store = slots_stay o w keys bo bw es st a g in
    let f : (final o w es st).place c < slots (final o w es st).store → ⊥ =
    λ x. let y : 0 + steps_of c es ≤ (final o w es st).place c = q.1 x in let v : ⊥ = omega arith in v in
    let r : ready (slot (final o w es st).store k) ≡ true = q.0 k (omega (arith, f)) hk in
    (ready_unmarked (slot (final o w es st).store k) 0 (omega arith) r, ready_unmarked (slot (final o w es st).store k) 1 (omega arith) r)

pub last_slot : (o w : List ℕ) → bad_keys o w ≡ false → Bytes o → Bytes w → LastSlotClaim o w (store_step o w)
last_slot o w keys bo bw st bs ok before since later h c z n =
    let g : SoundStore st.store = passes_sound st.store bs ok in
    let hb : AllAllowed before = allowed_left before (since ++ later) h in
    let ha : AllAllowed (since ++ later) = allowed_right before (since ++ later) h in
    let st1 : State = final o w before st in
    let same : slots st1.store ≡ slots st.store = slots_stay o w keys bo bw before st hb g in
    let m : slots st1.store ≤ steps_of c (since ++ later) = omega (arith, steps_more c since later) in
    subst (λ (x : State). NoneLeft x.store) (sym (final_join o w (store_step o w) before (since ++ later) st))
    (none_left o w keys bo bw c st1 (same_list o w keys bo bw before st hb g).1 z (since ++ later) ha m)
