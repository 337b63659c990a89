-- Runs of the calls for C: each call is joined to the next by the predicate that the exported function's contract cites (`answers`, specs/Sheets). o is
-- the old key and w the new one; a state is the store's bytes and the place of each copy of the job.
-- Assumes nothing.
use Rattle.std.specs.Prelude.{List, [], ◌∷◌, ℕ}
use Rattle.claims.specs.Machine.{State, moved}
use Rattle.answers.specs.Sheets.{CheckedForC, ReadForC, AddForC, AddXtsForC, ReviseForC, RemoveForC, StepForC}
use Rattle.runs.specs.Calls.{Call, reads, adds, adds_xts, revises, removes, steps, job_steps, Returned, text, revision, freed, outcome}

-- with another store; and after a step of copy c, with its place moved too
abbrev pub with_store : State → List ℕ → State
with_store st s = record { store = s; place = st.place }

abbrev pub after_step : State → ℕ → List ℕ → ℕ → State
after_step st c s k = record { store = s; place = moved c k st.place }

-- one call: the state before it, the call, what it gives back, and the state after it
pub data Joined (o w : List ℕ) : State → Call → Returned → State → Type 0 where
  -- lagunedo_read
  by_read : (st : State) (i : ℕ) (b : List ℕ) (l v n : ℕ) (b' : List ℕ) (l' v' : ℕ)
      → ReadForC o w st.store i b l v n b' l' v' → Joined o w st (reads i b l v) (text n b' l' v') st
  -- lagunedo_add
  by_add : (st : State) (i : ℕ) (t : List ℕ) (v n : ℕ) (s' : List ℕ) (v' : ℕ)
      → AddForC o w st.store i t v n s' v' → Joined o w st (adds i t v) (revision n v') (with_store st s')
  -- lagunedo_add_xts
  by_add_xts : (st : State) (k : List ℕ) (d : ℕ) (u : List ℕ) (i v n : ℕ) (s' : List ℕ) (v' : ℕ)
      → AddXtsForC k d u o w st.store i v n s' v' → Joined o w st (adds_xts k d u i v) (revision n v') (with_store st s')
  -- lagunedo_revise
  by_revise : (st : State) (i seen : ℕ) (t : List ℕ) (v n : ℕ) (s' : List ℕ) (v' : ℕ)
      → ReviseForC o w st.store i seen t v n s' v' → Joined o w st (revises i seen t v) (revision n v') (with_store st s')
  -- lagunedo_remove
  by_remove : (st : State) (i n : ℕ) (s' : List ℕ) → RemoveForC st.store i n s' → Joined o w st (removes i) (freed n) (with_store st s')
  -- lagunedo_step, with the place of copy c behind its pointer
  by_step : (st : State) (c x n : ℕ) (s' : List ℕ) (k' x' : ℕ)
      → StepForC o w st.store (st.place c) x n s' k' x' → Joined o w st (steps c x) (outcome n x') (after_step st c s' k')
  -- lagunedo_job_step, with the place of copy c in the job
  by_job_step : (st : State) (c x n : ℕ) (s' : List ℕ) (k' x' : ℕ)
      → StepForC o w st.store (st.place c) x n s' k' x' → Joined o w st (job_steps c x) (outcome n x') (after_step st c s' k')

-- a run: the state before it, its calls, what each gives back, and the state after it
pub data Run (o w : List ℕ) : State → List Call → List Returned → State → Type 0 where
  no_call : (st : State) → Run o w st [] [] st
  a_call : (st : State) (c : Call) (r : Returned) (st' : State) (cs : List Call) (rs : List Returned) (st'' : State)
      → Joined o w st c r st' → Run o w st' cs rs st'' → Run o w st (c ∷ cs) (r ∷ rs) st''

-- ---- the check: it changes no store and no place, so it is no call of a run, and is asked of the state before a run and after it

-- what stands behind the six pointers of lagunedo_check
pub record Six : Type 0 where
  pub fault : ℕ
  pub used : ℕ
  pub free : ℕ
  pub clear : ℕ
  pub old : ℕ
  pub new : ℕ

-- lagunedo_check of the store s, with b behind its pointers before it, answers n and leaves a behind them
abbrev pub Checks : (s : List ℕ) (b : Six) (n : ℕ) (a : Six) → Type 0
Checks s b n a =
    CheckedForC s b.fault b.used b.free b.clear b.old b.new n a.fault a.used a.free a.clear a.old a.new

-- it answers 0
abbrev pub ChecksOut : List ℕ → Type 0
ChecksOut s = (b : Six) × (a : Six) × Checks s b 0 a
