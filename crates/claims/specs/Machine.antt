-- Demand 3: whole calls one after another. The machine runs the calls' own definitions on the store's bytes, with the old key o and the new
-- key w; beside it the plain list, to which a step does nothing.
-- Assumes nothing.
use Rattle.std.specs.Prelude.{cond, List, [], ◌∷◌, ℕ, ◌<◌, eqb, length}
use Rattle.block.specs.Bytes.{Bytes}
use Rattle.plans.specs.Plans.{read_plan, add_plan, revise_plan, remove_plan, step_plan}
use Rattle.store.specs.Calls.{read_answer, read_buffer, add_answer, add_store, revise_answer, revise_store, remove_answer, remove_store, Read, Stored, Removed}
use Rattle.store.specs.Calls.{step_answer, place_after, step_store}
use Rattle.store.specs.Conversions.{Source, refuses, gives, convert_answer, convert_store}
use Rattle.claims.specs.Plain.{Place, read_in, add_in, revise_in, remove_in, read_text, read_into, added, after_add, converted, after_converting}
use Rattle.claims.specs.Plain.{revised, after_revise, gone, after_remove}

-- read sheet n into the buffer b; add sheet n with text t; add sheet n from a source elsewhere (02's conversions); revise sheet n, seen at revision v,
-- with text t; remove sheet n; a step of copy c
pub data Event : Type 0 where
  reading : ℕ → List ℕ → Event
  adding : ℕ → List ℕ → Event
  converting : ℕ → Source → Event
  revising : ℕ → ℕ → List ℕ → Event
  removing : ℕ → Event
  stepping : ℕ → Event

-- what the calls' types allow: numbers of 32 bits, and bytes
abbrev pub Allowed : Event → Type 0
Allowed (reading n b) = (n < 4294967296) × Bytes b
Allowed (adding n t) = (n < 4294967296) × Bytes t
Allowed (converting n (refuses x)) = n < 4294967296
Allowed (converting n (gives t)) = (n < 4294967296) × Bytes t
Allowed (revising n v t) = (n < 4294967296) × (v < 4294967296) × Bytes t
Allowed (removing n) = n < 4294967296
Allowed (stepping c) = Unit {0}

abbrev pub AllAllowed : List Event → Type 0
AllAllowed [] = Unit {0}
AllAllowed (e ∷ es) = Allowed e × AllAllowed es

-- what operators get: of a read also the buffer afterwards; a step answers them nothing
pub data Answer : Type 0 where
  of_read : Read → List ℕ → Answer
  of_stored : Stored → Answer
  of_removed : Removed → Answer
  of_step : Answer

-- ---- the machine: the store's bytes, and the place of each copy of the job

pub record State : Type 0 where
  pub store : List ℕ
  pub place : ℕ → ℕ

-- a step, whatever it does: the store and the place that it leaves, from a store and a place
pub record Step : Type 0 where
  pub leaves : List ℕ → ℕ → List ℕ
  pub goes_to : List ℕ → ℕ → ℕ

-- the step of 01, as the call answers and leaves it
abbrev pub store_step : List ℕ → List ℕ → Step
store_step o w =
    record { leaves = λ s k. step_store o w s (step_plan o w s k); goes_to = λ s k. place_after k (step_answer s (step_plan o w s k)) }

-- the places with that of copy c moved
abbrev pub moved : ℕ → ℕ → (ℕ → ℕ) → ℕ → ℕ
moved c j p i = cond (eqb i c) j (p i)

module _ (o w : List ℕ) where
  abbrev pub answer : Event → State → Answer
  answer (reading n b) st =
      of_read (read_answer st.store (read_plan o w st.store n (length b))) (read_buffer o w st.store b (read_plan o w st.store n (length b)))
  answer (adding n t) st = of_stored (add_answer (add_plan o w st.store n t))
  answer (converting n x) st = of_stored (convert_answer o w st.store n x)
  answer (revising n v t) st = of_stored (revise_answer st.store (revise_plan o w st.store n v t))
  answer (removing n) st = of_removed (remove_answer (remove_plan st.store n))
  answer (stepping c) st = of_step

  -- with any step f in the place of 01's
  abbrev pub next_by : Step → Event → State → State
  next_by f (reading n b) st = st
  next_by f (adding n t) st = record { store = add_store w st.store n t (add_plan o w st.store n t); place = st.place }
  next_by f (converting n x) st = record { store = convert_store o w st.store n x; place = st.place }
  next_by f (revising n v t) st = record { store = revise_store w st.store n t (revise_plan o w st.store n v t); place = st.place }
  next_by f (removing n) st = record { store = remove_store st.store (remove_plan st.store n); place = st.place }
  next_by f (stepping c) st =
      record { store = f.leaves st.store (st.place c); place = moved c (f.goes_to st.store (st.place c)) st.place }

  abbrev pub final_by : Step → List Event → State → State
  final_by f [] st = st
  final_by f (e ∷ es) st = final_by f es (next_by f e st)

  abbrev pub next : Event → State → State
  next e st = next_by (store_step o w) e st

  abbrev pub final : List Event → State → State
  final es st = final_by (store_step o w) es st

  abbrev pub answers : List Event → State → List Answer
  answers [] st = []
  answers (e ∷ es) st = answer e st ∷ answers es (next e st)

-- ---- the plain list

abbrev pub list_answer : Event → List Place → Answer
list_answer (reading n b) l = of_read (read_text l (read_in l n (length b))) (read_into l b (read_in l n (length b)))
list_answer (adding n t) l = of_stored (added (add_in l n t))
list_answer (converting n x) l = of_stored (converted l n x)
list_answer (revising n v t) l = of_stored (revised l (revise_in l n v t))
list_answer (removing n) l = of_removed (gone (remove_in l n))
list_answer (stepping c) l = of_step

abbrev pub list_next : Event → List Place → List Place
list_next (reading n b) l = l
list_next (adding n t) l = after_add l n t (add_in l n t)
list_next (converting n x) l = after_converting l n x
list_next (revising n v t) l = after_revise l n t (revise_in l n v t)
list_next (removing n) l = after_remove l (remove_in l n)
list_next (stepping c) l = l

abbrev pub list_answers : List Event → List Place → List Answer
list_answers [] l = []
list_answers (e ∷ es) l = list_answer e l ∷ list_answers es (list_next e l)

abbrev pub list_final : List Event → List Place → List Place
list_final [] l = l
list_final (e ∷ es) l = list_final es (list_next e l)
