-- Every list of calls has exactly one run, from any state and whatever stood behind each pointer: what a call's predicate says of its number, its
-- bytes and its values are equations, and the state after it is that of the machine of `claims`.
-- Assumes nothing.
use mathlib.Core.Path.{◌≡◌, refl, sym, ap, ap₂, ◌∙◌}
use mathlib.Core.List.{List, [], ◌∷◌}
use Prim.Native.Nat.{ℕ}
use lib.ListN.{length}
use Rattle.plans.specs.Plans.{read_plan, add_plan, revise_plan, remove_plan, step_plan}
use Rattle.store.specs.Calls.{read_answer, read_buffer, add_answer, revise_answer, remove_answer, step_answer}
use Rattle.store.specs.Conversions.{convert_answer}
use Rattle.takeover.specs.Sources.{xts_source}
use Rattle.claims.specs.Machine.{Event, State, moved, next, final}
use Rattle.answers.specs.Sheets.{read_number, length_or, seen_or, stored_number, revision_or, removed_number, step_number, outcome_or}
use Rattle.runs.specs.Calls.{Call, reads, adds, adds_xts, revises, removes, steps, job_steps, Returned, text, revision, freed, outcome, event, events}
use Rattle.runs.specs.Runs.{Joined, by_read, by_add, by_add_xts, by_revise, by_remove, by_step, by_job_step, Run, no_call, a_call}

module _ (o w : List ℕ) where
  -- what a step gives back, by either call
  abbrev stepped : ℕ → ℕ → State → Returned
  stepped c x st =
      let a = step_answer st.store (step_plan o w st.store (st.place c)) in
      outcome (step_number a) (outcome_or x a)

  -- what a call gives back
  abbrev pub given : Call → State → Returned
  given (reads i b l v) st =
      let p = read_plan o w st.store i (length b) in
      let a = read_answer st.store p in
      text (read_number a) (read_buffer o w st.store b p) (length_or l a) (seen_or v a)
  given (adds i t v) st =
      let a = add_answer (add_plan o w st.store i t) in
      revision (stored_number a) (revision_or v a)
  given (adds_xts k d u i v) st =
      let a = convert_answer o w st.store i (xts_source k d u) in
      revision (stored_number a) (revision_or v a)
  given (revises i s t v) st =
      let a = revise_answer st.store (revise_plan o w st.store i s t) in
      revision (stored_number a) (revision_or v a)
  given (removes i) st = freed (removed_number (remove_answer (remove_plan st.store i)))
  given (steps c x) st = stepped c x st
  given (job_steps c x) st = stepped c x st

  abbrev pub givens : List Call → State → List Returned
  givens [] st = []
  givens (c ∷ cs) st = given c st ∷ givens cs (next o w (event c) st)

  -- the predicates leave nothing open
  joined_is : (st : State) (c : Call) (r : Returned) (st' : State) → Joined o w st c r st' → (r ≡ given c st) × (st' ≡ next o w (event c) st)
  joined_is st c r st' (by_read u i b l v n b' l' v' q) = (λ j. text (q.0 j) (q.1 j) (q.2 j) (q.3 j), refl)
  joined_is st c r st' (by_add u i t v n s' v' q) = (λ j. revision (q.0 j) (q.2 j), λ j. record { store = q.1 j; place = u.place })
  joined_is st c r st' (by_add_xts u k d x i v n s' v' q) = (λ j. revision (q.0 j) (q.2 j), λ j. record { store = q.1 j; place = u.place })
  joined_is st c r st' (by_revise u i seen t v n s' v' q) = (λ j. revision (q.0 j) (q.2 j), λ j. record { store = q.1 j; place = u.place })
  joined_is st c r st' (by_remove u i n s' q) = (λ j. freed (q.0 j), λ j. record { store = q.1 j; place = u.place })
  joined_is st c r st' (by_step u d x n s' k' x' q) =
      (λ j. outcome (q.0 j) (q.3 j), λ j. record { store = q.1 j; place = moved d (q.2 j) u.place })
  joined_is st c r st' (by_job_step u d x n s' k' x' q) =
      (λ j. outcome (q.0 j) (q.3 j), λ j. record { store = q.1 j; place = moved d (q.2 j) u.place })

  -- a run is what the machine gives
  pub run_is : (st : State) (cs : List Call) (rs : List Returned) (st' : State) → Run o w st cs rs st'
      → (rs ≡ givens cs st) × (st' ≡ final o w (events cs) st)
  run_is st cs rs st' (no_call u) = (refl, refl)
  run_is st cs rs st' (a_call u c r v ds qs u' j k) =
      let a = joined_is u c r v j in
      let b = run_is v ds qs u' k in
      (ap₂ (λ (x : Returned) (l : List Returned). x ∷ l) a.0 (b.0 ∙ ap (givens ds) a.1), b.1 ∙ ap (final o w (events ds)) a.1)

  -- and what the machine gives is a run
  a_join : (c : Call) (st : State) → Joined o w st c (given c st) (next o w (event c) st)
  a_join (reads i b l v) st = by_read st i b l v _ _ _ _ (refl, refl, refl, refl)
  a_join (adds i t v) st = by_add st i t v _ _ _ (refl, refl, refl)
  a_join (adds_xts k d u i v) st = by_add_xts st k d u i v _ _ _ (refl, refl, refl)
  a_join (revises i s t v) st = by_revise st i s t v _ _ _ (refl, refl, refl)
  a_join (removes i) st = by_remove st i _ _ (refl, refl)
  a_join (steps c x) st = by_step st c x _ _ _ _ (refl, refl, refl, refl)
  a_join (job_steps c x) st = by_job_step st c x _ _ _ _ (refl, refl, refl, refl)

  the_run : (cs : List Call) (st : State) → Run o w st cs (givens cs st) (final o w (events cs) st)
  the_run [] st = no_call st
  the_run (c ∷ cs) st = a_call st c _ _ cs _ _ (a_join c st) (the_run cs (next o w (event c) st))

  -- every list of calls has a run, from any state
  pub has_a_run : (st : State) (cs : List Call) → (rs : List Returned) × (st' : State) × Run o w st cs rs st'
  has_a_run st cs = (givens cs st, final o w (events cs) st, the_run cs st)

  -- and no other
  pub has_one_run : (st : State) (cs : List Call) (rs rs' : List Returned) (st' st'' : State) → Run o w st cs rs st' → Run o w st cs rs' st''
      → (rs ≡ rs') × (st' ≡ st'')
  has_one_run st cs rs rs' st' st'' p q =
      let a = run_is st cs rs st' p in
      let b = run_is st cs rs' st'' q in
      (a.0 ∙ sym b.0, a.1 ∙ sym b.1)

  -- what stands behind the pointers before the calls is no matter for the store and the places
  pub pointers_no_matter : (st : State) (cs cs' : List Call) → events cs ≡ events cs' → (rs rs' : List Returned) (st' st'' : State)
      → Run o w st cs rs st' → Run o w st cs' rs' st'' → st' ≡ st''
  pointers_no_matter st cs cs' e rs rs' st' st'' p q =
      (run_is st cs rs st' p).1 ∙ ap (λ (es : List Event). final o w es st) e ∙ sym (run_is st cs' rs' st'' q).1

  -- a step of a copy by either call leaves the same, the copy's place with it
  pub either_step : (st : State) (c x : ℕ) (cs : List Call) (rs : List Returned) (st' : State) → Run o w st (steps c x ∷ cs) rs st'
      → Run o w st (job_steps c x ∷ cs) rs st'
  either_step st c x cs rs st' q = rw ((run_is st (steps c x ∷ cs) rs st' q).0, (run_is st (steps c x ∷ cs) rs st' q).1) (the_run (job_steps c x ∷ cs) st)
