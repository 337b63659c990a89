-- Demand 3 of the calls for C: of every run from a store of which the exported check answers 0, with two keys of 48 or 64 bytes, what 01 says. A run is
-- what the machine of `claims` gives, so that each sentence is the theorem of `claims`, proofs/Demand3, read off as numbers.
-- Assumes nothing.
use mathlib.Core.Path.{◌≡◌, refl, sym, ap, ap₂, ◌∙◌, subst}
use mathlib.Core.List.{List, [], ◌∷◌, ◌++◌, map}
use Prim.Native.Nat.{ℕ, zero, suc, ◌≤◌, ◌<◌}
use native.Mathlib.Omega.{arith}
use lib.ListN.{get_or-map}
use Rattle.std.specs.Prelude.{Ok, Err}
use Rattle.block.specs.Bytes.{Bytes}
use Rattle.numbers.specs.Numbers.{paper, some_number}
use Rattle.slots.specs.Slots.{slots}
use Rattle.store.specs.Calls.{step_answer}
use Rattle.claims.specs.View.{plain}
use Rattle.claims.specs.Machine.{Event, removing, AllAllowed, Answer, of_read, of_stored, of_removed, of_step}
use Rattle.claims.specs.Machine.{State, store_step, answer, next, answers, final, list_answers, list_final}
use Rattle.claims.specs.Claims.{Key, Passes, NoneLeft, steps_of, event_at, answer_at, RemovedAt}
use Rattle.claims.proofs.Joining.{final_join}
use Rattle.claims.proofs.Demand3 as list
use Rattle.answers.specs.Sheets.{step_number}
use Rattle.runs.specs.Calls.{Call, reads, adds, adds_xts, revises, removes, steps, job_steps, Returned, text, revision, freed, outcome}
use Rattle.runs.specs.Calls.{call_at, returned_at, event, events, told, as_returned, read_off, read_all}
use Rattle.runs.specs.Runs.{Run, Six, Checks, ChecksOut}
use Rattle.runs.proofs.OneRun.{given, givens, run_is}
use Rattle.runs.proofs.TheCheck.{checks_pass, passes_checks, none_left_counted}
use Rattle.plans.specs.Plans.{Plan}

-- ---- from what a call gave back to the answer, and to the call from its event

pub is_accepted : (a : Answer) (x r : ℕ) → revision 0 r ≡ as_returned 0 x a → a ≡ of_stored (Ok r)
is_accepted (of_read y b) x r e = let z : ◌≡◌ {A = ℕ} 0 1 = cc in let v : ⊥ = omega arith in absurd v
is_accepted (of_stored (Ok u)) x r e = cc
is_accepted (of_stored (Err y)) x r e = let z : 0 ≡ paper y = cc in let v : ⊥ = omega (arith, some_number y) in absurd v
is_accepted (of_removed y) x r e = let z : ◌≡◌ {A = ℕ} 0 1 = cc in let v : ⊥ = omega arith in absurd v
is_accepted of_step x r e = let z : ◌≡◌ {A = ℕ} 0 1 = cc in let v : ⊥ = omega arith in absurd v

pub told_freed : (r : Returned) (n : ℕ) → told r ≡ freed n → r ≡ freed n
told_freed (text m b l v) n e = cc
told_freed (revision m v) n e = cc
told_freed (freed m) n e = cc
told_freed (outcome m x) n e = let z : ◌≡◌ {A = ℕ} 0 1 = cc in let v : ⊥ = omega arith in absurd v

pub is_removal : (c : Call) (n : ℕ) → event c ≡ removing n → c ≡ removes n
is_removal (reads i b l v) n e = let z : ◌≡◌ {A = ℕ} 0 1 = cc in let y : ⊥ = omega arith in absurd y
is_removal (adds i t v) n e = let z : ◌≡◌ {A = ℕ} 0 1 = cc in let y : ⊥ = omega arith in absurd y
is_removal (adds_xts k d u i v) n e = let z : ◌≡◌ {A = ℕ} 0 1 = cc in let y : ⊥ = omega arith in absurd y
is_removal (revises i s t v) n e = let z : ◌≡◌ {A = ℕ} 0 1 = cc in let y : ⊥ = omega arith in absurd y
is_removal (removes i) n e = cc
is_removal (steps c x) n e = let z : ◌≡◌ {A = ℕ} 0 1 = cc in let y : ⊥ = omega arith in absurd y
is_removal (job_steps c x) n e = let z : ◌≡◌ {A = ℕ} 0 1 = cc in let y : ⊥ = omega arith in absurd y

pub event_at_lem : (cs : List Call) (k : ℕ) → event_at (events cs) k ≡ event (call_at cs k)
event_at_lem cs k = get_or-map event cs k (steps 0 0)

position : (o w : List ℕ) (cs : List Call) (st : State) (k : ℕ)
    → returned_at (read_all cs (answers o w (events cs) st)) k ≡ read_off (call_at cs k) (answer_at (answers o w (events cs) st) k)
position o w [] st k = refl
position o w (c ∷ cs) st zero = refl
position o w (c ∷ cs) st (suc k) = position o w cs (next o w (event c) st) k

allowed_join : (es later : List Event) → AllAllowed es → AllAllowed later → AllAllowed (es ++ later)
allowed_join [] later h g = g
allowed_join (e ∷ es) later h g = (h.0, allowed_join es later h.1 g)

module _ (o w : List ℕ) (ko : Key o) (kw : Key w) where
  -- what a call gives back is the machine's answer, read off; a step is not refused
  told_given : (c : Call) (st : State) → Bytes st.store → Passes st.store → told (given o w c st) ≡ read_off c (answer o w (event c) st)
  told_given (reads i b l v) st bs ok = refl
  told_given (adds i t v) st bs ok = refl
  told_given (adds_xts k d u i v) st bs ok = refl
  told_given (revises i s t v) st bs ok = refl
  told_given (removes i) st bs ok = refl
  told_given (steps c x) st bs ok =
      ap (λ (p : Plan). outcome (step_number (step_answer st.store p)) 0) (list.no_step_refused o w ko kw st.store bs ok (st.place c))
  told_given (job_steps c x) st bs ok =
      ap (λ (p : Plan). outcome (step_number (step_answer st.store p)) 0) (list.no_step_refused o w ko kw st.store bs ok (st.place c))

  told_givens : (cs : List Call) (st : State) → Bytes st.store → Passes st.store → AllAllowed (events cs)
      → map told (givens o w cs st) ≡ read_all cs (answers o w (events cs) st)
  told_givens [] st bs ok h = refl
  told_givens (c ∷ cs) st bs ok h =
      ap₂ (λ (r : Returned) (l : List Returned). r ∷ l) (told_given c st bs ok)
      (told_givens cs (next o w (event c) st) (list.still_bytes o w ko kw st bs ok (event c ∷ []) (h.0, tt))
      (list.still_passes o w ko kw st bs ok (event c ∷ []) (h.0, tt)) h.1)

  module _ (st : State) (bs : Bytes st.store) (ok : ChecksOut st.store) where
    passes : Passes st.store
    passes = checks_pass st.store ok

    module _ (cs : List Call) (h : AllAllowed (events cs)) (rs : List Returned) (st' : State) (run : Run o w st cs rs st') where
      as_answered : map told rs ≡ read_all cs (answers o w (events cs) st)
      as_answered = ap (map told) (run_is o w st cs rs st' run).0 ∙ told_givens cs st bs passes h

      -- every number, buffer, length and revision that a read, an add, a revision or a removal gives back is the plain list's, on which a step does
      -- nothing; and every step's number is 0
      pub returns_as_a_list : map told rs ≡ read_all cs (list_answers (events cs) (plain o w st.store))
      returns_as_a_list = as_answered ∙ ap (read_all cs) (list.answers_as_a_list o w ko kw st bs passes (events cs) h)

      -- afterwards what the store's texts decipher to is that list
      pub holds_the_list : plain o w st'.store ≡ list_final (events cs) (plain o w st.store)
      holds_the_list =
          ap (λ (x : State). plain o w x.store) (run_is o w st cs rs st' run).1 ∙ list.holds_the_list o w ko kw st bs passes (events cs) h

      -- the check still answers 0, whatever stands behind its pointers, and there are as many slots as before
      passes_after : Passes st'.store
      passes_after = subst (λ (x : State). Passes x.store) (sym (run_is o w st cs rs st' run).1) (list.still_passes o w ko kw st bs passes (events cs) h)

      pub still_checks_out : (b : Six) (n : ℕ) (a : Six) → Checks st'.store b n a → n ≡ 0
      still_checks_out b n a q = passes_checks st'.store passes_after b n a q

      pub as_many_slots : slots st'.store ≡ slots st.store
      as_many_slots = ap (λ (x : State). slots x.store) (run_is o w st cs rs st' run).1 ∙ list.as_many_slots o w ko kw st bs passes (events cs) h

      pub returned_at_lem : (k : ℕ) → told (returned_at rs k) ≡ read_off (call_at cs k) (answer_at (answers o w (events cs) st) k)
      returned_at_lem k = sym (get_or-map told rs k (outcome 0 0)) ∙ ap (λ (l : List Returned). returned_at l k) as_answered ∙ position o w cs st k

      accepted : (k n v : ℕ) (t : List ℕ) (x r : ℕ) → call_at cs k ≡ revises n v t x → returned_at rs k ≡ revision 0 r
          → answer_at (answers o w (events cs) st) k ≡ of_stored (Ok r)
      accepted k n v t x r c e =
          let a : Answer = answer_at (answers o w (events cs) st) k in
          is_accepted a x r (sym (ap told e) ∙ returned_at_lem k ∙ ap (λ (y : Call). read_off y a) c)

      removed_at : (n k : ℕ) → RemovedAt o w (events cs) st n k → (call_at cs k ≡ removes n) × (returned_at rs k ≡ freed 0)
      removed_at n k d =
          let c : call_at cs k ≡ removes n = is_removal (call_at cs k) n (sym (event_at_lem cs k) ∙ d.0) in
          (c, told_freed (returned_at rs k) 0 (returned_at_lem k ∙ ap₂ read_off c d.1))

      -- of two revisions, at positions i and j, that name sheet n at revision v, not both are answered with 0 if no removal of the sheet that stands
      -- between them is, whatever else does
      pub at_most_one : (n v i j : ℕ) → i < j → (t t' : List ℕ) (x x' : ℕ) → call_at cs i ≡ revises n v t x → call_at cs j ≡ revises n v t' x'
          → ((k : ℕ) → i < k → k < j → call_at cs k ≡ removes n → returned_at rs k ≡ freed 0 → ⊥)
          → (r r' : ℕ) → returned_at rs i ≡ revision 0 r → returned_at rs j ≡ revision 0 r' → ⊥
      at_most_one n v i j l t t' x x' c c' u r r' e e' =
          list.at_most_one o w ko kw st bs passes (events cs) h n v i j l t t' (event_at_lem cs i ∙ ap event c) (event_at_lem cs j ∙ ap event c')
          (λ k hi hj d. let y = removed_at n k d in u k hi hj y.0 y.1) r r' (accepted i n v t x r c e) (accepted j n v t' x' r' c' e')

    -- A copy that stood at slot 0 after a run has since made as many steps as there are slots, by either call: the check answers 0 with clear and old 0,
    -- whatever came before, between and later, and whatever stands behind its pointers.
    pub last_slot : (before since later : List Call) → AllAllowed (events before) → AllAllowed (events since) → AllAllowed (events later)
        → (rs rs' rs'' : List Returned) (st' st'' st''' : State)
        → Run o w st before rs st' → Run o w st' since rs' st'' → Run o w st'' later rs'' st'''
        → (c : ℕ) → st'.place c ≡ 0 → slots st.store ≤ steps_of c (events since)
        → (b : Six) (n : ℕ) (a : Six) → Checks st'''.store b n a → (n ≡ 0) × (a.clear ≡ 0) × (a.old ≡ 0)
    last_slot before since later h h' h'' rs rs' rs'' st' st'' st''' p p' p'' c z m b n a q =
        let es : List Event = events before ++ (events since ++ events later) in
        let g : AllAllowed es = allowed_join (events before) (events since ++ events later) h (allowed_join (events since) (events later) h' h'') in
        let e : st' ≡ final o w (events before) st = (run_is o w st before rs st' p).1 in
        let e' : st'' ≡ final o w (events since) st' = (run_is o w st' since rs' st'' p').1 in
        let e'' : st''' ≡ final o w (events later) st'' = (run_is o w st'' later rs'' st''' p'').1 in
        let join : final o w es st ≡ st''' =
        final_join o w (store_step o w) (events before) (events since ++ events later) st
        ∙ ap (final o w (events since ++ events later)) (sym e)
        ∙ final_join o w (store_step o w) (events since) (events later) st'
        ∙ ap (final o w (events later)) (sym e')
        ∙ sym e'' in
        let none : NoneLeft st'''.store =
        subst (λ (x : State). NoneLeft x.store) join
        (list.no_sheet_left o w ko kw st bs passes (events before) (events since) (events later) g c (sym (ap (λ (x : State). x.place c) e) ∙ z) m) in
        let after : Passes st'''.store = subst (λ (x : State). Passes x.store) join (list.still_passes o w ko kw st bs passes es g) in
        let k = none_left_counted st'''.store after b n a q none in
        (passes_checks st'''.store after b n a q, k.0, k.1)
