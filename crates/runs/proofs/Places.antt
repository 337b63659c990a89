-- A copy's place is what its last step left, by either step call: a step of it leaves what the call's predicate says, and no other call moves it.
-- Assumes nothing.
use mathlib.Core.Path.{◌≡◌, refl, ap, ◌∙◌}
use mathlib.Core.Bool.{Bool, true, false, cond}
use mathlib.Core.List.{List, [], ◌∷◌}
use Prim.Native.Nat.{ℕ, suc, ◌+◌}
use native.Mathlib.Omega.{arith}
use borrow.Author.Tests.{eq-eqb}
use lib.Dec.{eqb}
use Rattle.claims.specs.Machine.{Event, reading, adding, converting, revising, removing, stepping, State}
use Rattle.claims.specs.Claims.{steps_of}
use Rattle.answers.specs.Sheets.{StepForC}
use Rattle.runs.specs.Calls.{Call, steps, job_steps, Returned, outcome, event, events}
use Rattle.runs.specs.Runs.{Joined, by_read, by_add, by_add_xts, by_revise, by_remove, by_step, by_job_step, Run, no_call, a_call}

-- the steps of copy c in a list are those of its first event and of the others
split : (c : ℕ) (e : Event) (es : List Event) → steps_of c (e ∷ es) ≡ steps_of c (e ∷ []) + steps_of c es
split c (reading n b) es = omega arith
split c (adding n t) es = omega arith
split c (converting n x) es = omega arith
split c (revising n v t) es = omega arith
split c (removing n) es = omega arith
split c (stepping d) es = by_copy (eqb c d)
  where
    by_copy : (t : Bool) → cond t (suc (steps_of c es)) (steps_of c es) ≡ cond t 1 0 + steps_of c es
    by_copy true = omega arith
    by_copy false = omega arith

stay : (t : Bool) (k j : ℕ) → ◌≡◌ {A = ℕ} (cond t 1 0) 0 → cond t k j ≡ j
stay true k j e = let z : ⊥ = omega arith in absurd z
stay false k j e = refl

module _ (o w : List ℕ) where
  -- a step by either call, with what stands behind its pointers: the store and the copy's place are what it says
  pub step_left : (st : State) (c x n x' : ℕ) (st' : State) → Joined o w st (steps c x) (outcome n x') st'
      → StepForC o w st.store (st.place c) x n st'.store (st'.place c) x'
  step_left st c x n x' st' (by_step u d y m s' k' y' q) =
      (q.0, q.1, ap (λ (t : Bool). cond t k' (u.place d)) (eq-eqb d d refl) ∙ q.2, q.3)

  pub job_step_left : (st : State) (c x n x' : ℕ) (st' : State) → Joined o w st (job_steps c x) (outcome n x') st'
      → StepForC o w st.store (st.place c) x n st'.store (st'.place c) x'
  job_step_left st c x n x' st' (by_job_step u d y m s' k' y' q) =
      (q.0, q.1, ap (λ (t : Bool). cond t k' (u.place d)) (eq-eqb d d refl) ∙ q.2, q.3)

  -- whatever a call does, it leaves the place of a copy whose step it is not
  place_kept : (st : State) (call : Call) (r : Returned) (st' : State) → Joined o w st call r st' → (c : ℕ)
      → steps_of c (event call ∷ []) ≡ 0 → st'.place c ≡ st.place c
  place_kept st call r st' (by_read u i b l v n b' l' v' q) c e = refl
  place_kept st call r st' (by_add u i t v n s' v' q) c e = refl
  place_kept st call r st' (by_add_xts u k d x i v n s' v' q) c e = refl
  place_kept st call r st' (by_revise u i seen t v n s' v' q) c e = refl
  place_kept st call r st' (by_remove u i n s' q) c e = refl
  place_kept st call r st' (by_step u d x n s' k' x' q) c e = stay (eqb c d) k' (u.place c) e
  place_kept st call r st' (by_job_step u d x n s' k' x' q) c e = stay (eqb c d) k' (u.place c) e

  -- nor does a run without a step of the copy
  pub place_stays : (st : State) (cs : List Call) (rs : List Returned) (st' : State) → Run o w st cs rs st' → (c : ℕ)
      → steps_of c (events cs) ≡ 0 → st'.place c ≡ st.place c
  place_stays st cs rs st' (no_call u) c e = refl
  place_stays st cs rs st' (a_call u call r v ds qs u' j k) c e =
      let m : steps_of c (event call ∷ events ds) ≡ steps_of c (event call ∷ []) + steps_of c (events ds) = split c (event call) (events ds) in
      place_stays v ds qs u' k c (omega arith) ∙ place_kept u call r v j c (omega arith)
