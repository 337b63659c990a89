-- Demand 3: what its sentences speak of, and what is claimed of a step, whatever it does; and the two idle steps that 01 wants shut out. Also what is
-- claimed of a removal made again.
-- Assumes nothing.
use Rattle.std.specs.Prelude.{◌≡◌, true, false, cond, ◌||◌, List, [], ◌∷◌, ◌++◌, ℕ, zero, suc, ◌≤◌, ◌<◌, eqb, length, get_or, Ok, Err}
use Rattle.block.specs.Bytes.{Bytes}
use Rattle.numbers.specs.declared.Refusal.TheVariants.{NoSheet}
use Rattle.slots.specs.Slots.{slots, slot, bad_size}
use Rattle.checking.specs.Check.{check_answer, counts, marked}
use Rattle.plans.specs.Plans.{remove_plan}
use Rattle.store.specs.Calls.{remove_answer, remove_store, Removed}
use Rattle.claims.specs.Machine.{Event, reading, adding, converting, revising, removing, stepping, AllAllowed, Answer, of_removed, of_step}
use Rattle.claims.specs.Machine.{State, Step, store_step, final_by, answers}

-- a key: 48 or 64 bytes
abbrev pub Key : List ℕ → Type 0
Key k = Bytes k × (eqb (length k) 48 || eqb (length k) 64 ≡ true)

-- the check call answers with the five counts
abbrev pub Passes : List ℕ → Type 0
Passes s = check_answer s ≡ counts s

-- ---- second part: the last slot

-- no sheet is marked clear or old key
abbrev pub NoneLeft : List ℕ → Type 0
NoneLeft s = (k : ℕ) → k < slots s → (marked 0 (slot s k) ≡ false) × (marked 1 (slot s k) ≡ false)

-- how many steps copy c makes
abbrev pub steps_of : ℕ → List Event → ℕ
steps_of c [] = 0
steps_of c (reading n b ∷ es) = steps_of c es
steps_of c (adding n t ∷ es) = steps_of c es
steps_of c (converting n x ∷ es) = steps_of c es
steps_of c (revising n v t ∷ es) = steps_of c es
steps_of c (removing n ∷ es) = steps_of c es
steps_of c (stepping d ∷ es) = cond (eqb c d) (suc (steps_of c es)) (steps_of c es)

-- The last-slot claim, of any step: a copy that stood at place 0 anywhere in the events has since made as many steps as there are slots.
-- Its steps are counted, and not its place; whatever came between, and whatever comes later, no sheet is marked clear or old key.
abbrev pub LastSlotClaim : List ℕ → List ℕ → Step → Type 0
LastSlotClaim o w f =
    (st : State) → Bytes st.store → Passes st.store
    → (before since later : List Event) → AllAllowed (before ++ (since ++ later))
    → (c : ℕ) → (final_by o w f before st).place c ≡ 0 → slots st.store ≤ steps_of c since
    → NoneLeft (final_by o w f (before ++ (since ++ later)) st).store

-- 01, step: works on the slot at the job's place, and keeps every byte of the others
abbrev pub KeepsOthers : Step → Type 0
KeepsOthers f = (s : List ℕ) → Bytes s → (k j : ℕ) → (j ≡ k → ⊥) → slot (f.leaves s k) j ≡ slot s j

-- ---- the idle steps

-- converts in the first step and then only moves the place
abbrev pub only_the_first : List ℕ → List ℕ → Step
only_the_first o w = record { leaves = λ s k. cond (eqb k 0) ((store_step o w).leaves s k) s; goes_to = (store_step o w).goes_to }

-- converts every slot at once
abbrev pub first_slots : List ℕ → List ℕ → ℕ → List ℕ → List ℕ
first_slots o w zero s = s
first_slots o w (suc n) s = (store_step o w).leaves (first_slots o w n s) n

abbrev pub every_slot : List ℕ → List ℕ → Step
every_slot o w = record { leaves = λ s k. first_slots o w (slots s) s; goes_to = (store_step o w).goes_to }

-- ---- third part: one of two

-- the event at a position, and the answer at one; past the end they read as those of a step
abbrev pub event_at : List Event → ℕ → Event
event_at es i = get_or es i (stepping 0)

abbrev pub answer_at : List Answer → ℕ → Answer
answer_at l i = get_or l i of_step

-- an accepted removal of sheet n stands at position k
abbrev pub RemovedAt : (o w : List ℕ) (es : List Event) (st : State) (n k : ℕ) → Type 0
RemovedAt o w es st n k = (event_at es k ≡ removing n) × (answer_at (answers o w es st) k ≡ of_removed (Ok tt))

-- ---- a removal made again, while nothing came between

-- what the second removal of sheet n answers
abbrev pub removed_again : List ℕ → ℕ → Removed
removed_again s n = remove_answer (remove_plan (remove_store s (remove_plan s n)) n)

-- from every store of the kind, a removal that was accepted answers 7 when it is made again
abbrev pub RemovedOnce : (List ℕ → Type 0) → Type 0
RemovedOnce Kind = (s : List ℕ) → Bytes s → Kind s → (n : ℕ) → remove_answer (remove_plan s n) ≡ Ok tt → removed_again s n ≡ Err NoSheet

-- any store that a removal works on: not refused with 4
abbrev pub RightSize : List ℕ → Type 0
RightSize s = bad_size s ≡ false
