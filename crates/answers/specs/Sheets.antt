-- What the store's calls for C promise: the number, every byte of each lent slice and the value behind each pointer afterwards, for every
-- input. That the promise determines them is proved in proofs/Determined. What a call answers is the store's own answer (`Rattle.store`,
-- specs/Calls), read off here as numbers: a value that a call does not give stays as it was.
-- Assumes nothing.
use Rattle.std.specs.Prelude.{◌≡◌, List, ℕ, length, Result, Ok, Err}
use Rattle.numbers.specs.declared.Refusal.{Refusal}
use Rattle.numbers.specs.Numbers.{paper}
use Rattle.checking.specs.declared.Checked.{Checked}
use Rattle.checking.specs.declared.Checked.TheVariants.{Counts, Fault}
use Rattle.checking.specs.Check.{check_answer}
use Rattle.plans.specs.Plans.{read_plan, add_plan, revise_plan, remove_plan, step_plan}
use Rattle.store.specs.declared.Outcome.{Outcome}
use Rattle.store.specs.Calls.{Read, Stored, Removed, Stepped}
use Rattle.store.specs.Calls.{read_answer, read_buffer, add_answer, add_store, revise_answer, revise_store, remove_answer, remove_store}
use Rattle.store.specs.Calls.{step_answer, place_after, step_store}
use Rattle.store.specs.Calls as store
use Rattle.store.specs.Conversions.{Source, convert_answer, convert_store}
use Rattle.takeover.specs.Sources.{xts_source}

-- ---- any call that gives one value: its number, and what is to stand behind its pointer, where x stood before

abbrev pub number_of : {A : Type 0} → Result A Refusal → ℕ
number_of (Ok a) = 0
number_of (Err x) = paper x

abbrev pub value_or : {A : Type 0} → A → Result A Refusal → A
value_or x (Ok a) = a
value_or x (Err y) = x

-- ---- check: 0 with the five counts, or 256 with the lowest faulty slot, or 4

abbrev pub check_number : Result Checked Refusal → ℕ
check_number (Ok (Counts c)) = 0
check_number (Ok (Fault k)) = 256
check_number (Err x) = paper x

abbrev pub fault_or : ℕ → Result Checked Refusal → ℕ
fault_or x (Ok (Counts c)) = x
fault_or x (Ok (Fault k)) = k
fault_or x (Err y) = x

abbrev pub used_or : ℕ → Result Checked Refusal → ℕ
used_or x (Ok (Counts c)) = c.used
used_or x (Ok (Fault k)) = x
used_or x (Err y) = x

abbrev pub free_or : ℕ → Result Checked Refusal → ℕ
free_or x (Ok (Counts c)) = c.free
free_or x (Ok (Fault k)) = x
free_or x (Err y) = x

abbrev pub clear_or : ℕ → Result Checked Refusal → ℕ
clear_or x (Ok (Counts c)) = c.clear
clear_or x (Ok (Fault k)) = x
clear_or x (Err y) = x

abbrev pub old_or : ℕ → Result Checked Refusal → ℕ
old_or x (Ok (Counts c)) = c.old
old_or x (Ok (Fault k)) = x
old_or x (Err y) = x

abbrev pub new_or : ℕ → Result Checked Refusal → ℕ
new_or x (Ok (Counts c)) = c.new
new_or x (Ok (Fault k)) = x
new_or x (Err y) = x

-- behind the six pointers stand the fault f and the counts u, r, c, o and w (used, free, clear, old, new)
abbrev pub CheckedForC : (s : List ℕ) (f u r c o w : ℕ) (n f' u' r' c' o' w' : ℕ) → Type 0
CheckedForC s f u r c o w n f' u' r' c' o' w' =
    (n ≡ check_number (check_answer s))
    × (f' ≡ fault_or f (check_answer s))
    × (u' ≡ used_or u (check_answer s))
    × (r' ≡ free_or r (check_answer s))
    × (c' ≡ clear_or c (check_answer s))
    × (o' ≡ old_or o (check_answer s))
    × (w' ≡ new_or w (check_answer s))

-- ---- read: sheet i into the buffer b; the length and the revision behind two pointers

abbrev pub read_number : Read → ℕ
read_number (Ok t) = 0
read_number (Err x) = paper x

abbrev pub length_or : ℕ → Read → ℕ
length_or x (Ok t) = t.length
length_or x (Err y) = x

abbrev pub seen_or : ℕ → Read → ℕ
seen_or x (Ok t) = t.revision
seen_or x (Err y) = x

abbrev pub ReadForC : (o w s : List ℕ) (i : ℕ) (b : List ℕ) (l v : ℕ) (n : ℕ) (b' : List ℕ) (l' v' : ℕ) → Type 0
ReadForC o w s i b l v n b' l' v' =
    (n ≡ read_number (read_answer s (read_plan o w s i (length b))))
    × (b' ≡ read_buffer o w s b (read_plan o w s i (length b)))
    × (l' ≡ length_or l (read_answer s (read_plan o w s i (length b))))
    × (v' ≡ seen_or v (read_answer s (read_plan o w s i (length b))))

-- ---- add and revise: the revision behind a pointer

abbrev pub stored_number : Stored → ℕ
stored_number (Ok v) = 0
stored_number (Err x) = paper x

abbrev pub revision_or : ℕ → Stored → ℕ
revision_or x (Ok v) = v
revision_or x (Err y) = x

abbrev pub AddForC : (o w s : List ℕ) (i : ℕ) (t : List ℕ) (v : ℕ) (n : ℕ) (s' : List ℕ) (v' : ℕ) → Type 0
AddForC o w s i t v n s' v' =
    (n ≡ stored_number (add_answer (add_plan o w s i t)))
    × (s' ≡ add_store w s i t (add_plan o w s i t))
    × (v' ≡ revision_or v (add_answer (add_plan o w s i t)))

-- a sheet from elsewhere, which comes to the source x before add's own tests (`store`, specs/Conversions)
abbrev pub ConvertForC : (o w s : List ℕ) (i : ℕ) (x : Source) (v : ℕ) (n : ℕ) (s' : List ℕ) (v' : ℕ) → Type 0
ConvertForC o w s i x v n s' v' =
    (n ≡ stored_number (convert_answer o w s i x)) × (s' ≡ convert_store o w s i x) × (v' ≡ revision_or v (convert_answer o w s i x))

-- from the data unit u with number d, under the XTS key k
abbrev pub AddXtsForC : (k : List ℕ) (d : ℕ) (u o w s : List ℕ) (i v : ℕ) (n : ℕ) (s' : List ℕ) (v' : ℕ) → Type 0
AddXtsForC k d u o w s i v n s' v' = ConvertForC o w s i (xts_source k d u) v n s' v'

abbrev pub ReviseForC : (o w s : List ℕ) (i seen : ℕ) (t : List ℕ) (v : ℕ) (n : ℕ) (s' : List ℕ) (v' : ℕ) → Type 0
ReviseForC o w s i seen t v n s' v' =
    (n ≡ stored_number (revise_answer s (revise_plan o w s i seen t)))
    × (s' ≡ revise_store w s i t (revise_plan o w s i seen t))
    × (v' ≡ revision_or v (revise_answer s (revise_plan o w s i seen t)))

-- ---- remove

abbrev pub removed_number : Removed → ℕ
removed_number (Ok x) = 0
removed_number (Err x) = paper x

abbrev pub RemoveForC : (s : List ℕ) (i : ℕ) (n : ℕ) (s' : List ℕ) → Type 0
RemoveForC s i n s' = (n ≡ removed_number (remove_answer (remove_plan s i))) × (s' ≡ remove_store s (remove_plan s i))

-- ---- step: the job's place and the outcome behind two pointers, or the place in a job

-- 01's order, by the conversion of the store's crate
abbrev pub outcome_number : Outcome → ℕ
outcome_number x = store.outcome_number x

abbrev pub step_number : Stepped → ℕ
step_number (Ok w) = 0
step_number (Err y) = paper y

abbrev pub outcome_or : ℕ → Stepped → ℕ
outcome_or c (Ok w) = outcome_number w.outcome
outcome_or c (Err y) = c

abbrev pub StepForC : (o w s : List ℕ) (k c : ℕ) (n : ℕ) (s' : List ℕ) (k' c' : ℕ) → Type 0
StepForC o w s k c n s' k' c' =
    (n ≡ step_number (step_answer s (step_plan o w s k)))
    × (s' ≡ step_store o w s (step_plan o w s k))
    × (k' ≡ place_after k (step_answer s (step_plan o w s k)))
    × (c' ≡ outcome_or c (step_answer s (step_plan o w s k)))
