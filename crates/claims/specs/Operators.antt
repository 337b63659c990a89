-- Demand 3, for operators: what they ask and are told, the job's steps left out; and a text that was accepted, and what would change it.
-- Assumes nothing.
use Rattle.std.specs.Prelude.{List, [], ◌∷◌, ℕ, ◌<◌, Ok}
use Rattle.store.specs.Conversions.{gives}
use Rattle.claims.specs.Machine.{Event, reading, adding, converting, revising, removing, stepping, Answer, of_read, of_stored, of_removed, of_step}
use Rattle.claims.specs.Claims.{event_at, answer_at}

-- the events but for steps
abbrev pub asked : List Event → List Event
asked [] = []
asked (reading n b ∷ es) = reading n b ∷ asked es
asked (adding n t ∷ es) = adding n t ∷ asked es
asked (converting n x ∷ es) = converting n x ∷ asked es
asked (revising n v t ∷ es) = revising n v t ∷ asked es
asked (removing n ∷ es) = removing n ∷ asked es
asked (stepping c ∷ es) = asked es

-- the answers but for those of steps
abbrev pub told : List Answer → List Answer
told [] = []
told (of_read x b ∷ l) = of_read x b ∷ told l
told (of_stored x ∷ l) = of_stored x ∷ told l
told (of_removed x ∷ l) = of_removed x ∷ told l
told (of_step ∷ l) = told l

-- an accepted add, conversion or revision of sheet n with text t, which answered revision r
pub data Written (n : ℕ) (t : List ℕ) (r : ℕ) : Event → Answer → Type 0 where
  by_add : Written n t r (adding n t) (of_stored (Ok r))
  by_conversion : Written n t r (converting n (gives t)) (of_stored (Ok r))
  by_revision : (v : ℕ) → Written n t r (revising n v t) (of_stored (Ok r))

-- an accepted revision or removal of sheet n
pub data Changed (n : ℕ) : Event → Answer → Type 0 where
  revised_anew : (v : ℕ) (t : List ℕ) (r : ℕ) → Changed n (revising n v t) (of_stored (Ok r))
  taken_out : Changed n (removing n) (of_removed (Ok tt))

-- no event between positions i and j, with the answers a, is one
abbrev pub Unchanged : (n : ℕ) (es : List Event) (a : List Answer) (i j : ℕ) → Type 0
Unchanged n es a i j = (k : ℕ) → i < k → k < j → Changed n (event_at es k) (answer_at a k) → ⊥
