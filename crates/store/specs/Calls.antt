-- 01, the store: what each call answers and what it leaves in the store, the text buffer and the job's place, for every input; `proofs/Determined`
-- has that these statements determine them. Keys: o the old one, w the new one. The store is s, and s' afterwards.
-- Assumes nothing.
use Rattle.std.specs.Prelude.{cond, not, ◌≡◌, List, ◌++◌, ℕ, ◌+◌, eqb, leb, length, drop, Result, Ok, Err, ⊤}
use Rattle.numbers.specs.declared.Refusal.{Refusal}
use Rattle.records.specs.Record.{num, rev, mark, len, sound}
use Rattle.slots.specs.Slots.{slots, slot, put, emptied}
use Rattle.sheets.specs.Text.{text_of, sheet}
use Rattle.plans.specs.Plans.{Plan, read_plan, add_plan, revise_plan, remove_plan, step_plan}
use Rattle.store.specs.declared.Text.{Text}
use Rattle.store.specs.declared.Outcome.{Outcome}
use Rattle.store.specs.declared.Outcome.TheVariants as outcome
use Rattle.store.specs.declared.Went.{Went}

-- ---- what the calls answer

-- read: the length of the text and its revision
abbrev pub Read : Type 0
Read = Result Text Refusal

-- add and revise: the revision now stored
abbrev pub Stored : Type 0
Stored = Result ℕ Refusal

abbrev pub Removed : Type 0
Removed = Result ⊤ Refusal

-- a step: its outcome, and the job's place afterwards
abbrev pub Stepped : Type 0
Stepped = Result Went Refusal

-- ---- read: sheet n into the buffer b

abbrev pub read_answer : List ℕ → Plan → Read
read_answer s (Err x) = Err x
read_answer s (Ok k) = Ok (record { length = len (slot s k); revision = rev (slot s k) })

-- the text to the front of the buffer, the rest of it kept
abbrev pub read_buffer : (o w s b : List ℕ) → Plan → List ℕ
read_buffer o w s b (Err x) = b
read_buffer o w s b (Ok k) = text_of o w (slot s k) ++ drop (len (slot s k)) b

abbrev pub ReadCalled : (o w s : List ℕ) (n : ℕ) (b : List ℕ) (a : Read) (b' : List ℕ) → Type 0
ReadCalled o w s n b a b' = (a ≡ read_answer s (read_plan o w s n (length b))) × (b' ≡ read_buffer o w s b (read_plan o w s n (length b)))

-- ---- add: sheet n with text t, at revision 1

abbrev pub add_answer : Plan → Stored
add_answer (Err x) = Err x
add_answer (Ok k) = Ok 1

abbrev pub add_store : (w s : List ℕ) (n : ℕ) (t : List ℕ) → Plan → List ℕ
add_store w s n t (Err x) = s
add_store w s n t (Ok k) = put s k (sheet w n 1 t)

abbrev pub AddCalled : (o w s : List ℕ) (n : ℕ) (t : List ℕ) (a : Stored) (s' : List ℕ) → Type 0
AddCalled o w s n t a s' = (a ≡ add_answer (add_plan o w s n t)) × (s' ≡ add_store w s n t (add_plan o w s n t))

-- ---- revise: sheet n, seen at revision v, with text t; the revision is one higher

abbrev pub revise_answer : List ℕ → Plan → Stored
revise_answer s (Err x) = Err x
revise_answer s (Ok k) = Ok (rev (slot s k) + 1)

abbrev pub revise_store : (w s : List ℕ) (n : ℕ) (t : List ℕ) → Plan → List ℕ
revise_store w s n t (Err x) = s
revise_store w s n t (Ok k) = put s k (sheet w n (rev (slot s k) + 1) t)

abbrev pub ReviseCalled : (o w s : List ℕ) (n v : ℕ) (t : List ℕ) (a : Stored) (s' : List ℕ) → Type 0
ReviseCalled o w s n v t a s' = (a ≡ revise_answer s (revise_plan o w s n v t)) × (s' ≡ revise_store w s n t (revise_plan o w s n v t))

-- ---- remove: sheet n; the slot is zeroed, sound or not

abbrev pub remove_answer : Plan → Removed
remove_answer (Err x) = Err x
remove_answer (Ok k) = Ok tt

abbrev pub remove_store : List ℕ → Plan → List ℕ
remove_store s (Err x) = s
remove_store s (Ok k) = put s k emptied

abbrev pub RemoveCalled : List ℕ → ℕ → Removed → List ℕ → Type 0
RemoveCalled s n a s' = (a ≡ remove_answer (remove_plan s n)) × (s' ≡ remove_store s (remove_plan s n))

-- ---- step: on the slot at the job's place

-- of a slot's record
unfoldable pub record_outcome : List ℕ → Outcome
record_outcome r =
    cond (eqb (num r) 0) outcome.Free (cond (not (sound r)) outcome.Damaged (cond (eqb (mark r) 2) outcome.Already outcome.Converted))

-- done where the place is at or past the slot count
unfoldable pub outcome_at : List ℕ → ℕ → Outcome
outcome_at s k = cond (leb (slots s) k) outcome.Done (record_outcome (slot s k))

-- an outcome's number, in 01's order
abbrev pub outcome_number : Outcome → ℕ
outcome_number outcome.Done = 0
outcome_number outcome.Free = 1
outcome_number outcome.Damaged = 2
outcome_number outcome.Already = 3
outcome_number outcome.Converted = 4

-- the place is moved on by one, but for done
abbrev pub moved_from : ℕ → Outcome → ℕ
moved_from k outcome.Done = k
moved_from k outcome.Free = k + 1
moved_from k outcome.Damaged = k + 1
moved_from k outcome.Already = k + 1
moved_from k outcome.Converted = k + 1

-- a converted slot has its sheet under the new key with the new lead; every other byte is kept
abbrev pub converted_at : (o w s : List ℕ) (k : ℕ) → Outcome → List ℕ
converted_at o w s k outcome.Converted = put s k (sheet w (num (slot s k)) (rev (slot s k)) (text_of o w (slot s k)))
converted_at o w s k outcome.Done = s
converted_at o w s k outcome.Free = s
converted_at o w s k outcome.Damaged = s
converted_at o w s k outcome.Already = s

abbrev pub step_answer : List ℕ → Plan → Stepped
step_answer s (Err x) = Err x
step_answer s (Ok k) = Ok (record { outcome = outcome_at s k; place = moved_from k (outcome_at s k) })

-- the job's place after a step: a refused one leaves it where it was
abbrev pub place_after : ℕ → Stepped → ℕ
place_after k (Ok w) = w.place
place_after k (Err y) = k

abbrev pub step_store : List ℕ → List ℕ → List ℕ → Plan → List ℕ
step_store o w s (Err x) = s
step_store o w s (Ok k) = converted_at o w s k (outcome_at s k)

abbrev pub StepCalled : (o w s : List ℕ) (k : ℕ) (a : Stepped) (s' : List ℕ) → Type 0
StepCalled o w s k a s' = (a ≡ step_answer s (step_plan o w s k)) × (s' ≡ step_store o w s (step_plan o w s k))
