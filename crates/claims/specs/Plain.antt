-- 01, the store: the plain list of demand 3 has a place for each slot, holding nothing or a sheet number, a revision and a text in clear.
-- Its calls know no key, mark, byte, lead or layout: they refuse what an operator can see, in 01's order, and a place is reached through
-- `number_of`, `revision_of` and `text_in` alone.
-- Assumes nothing.
use Rattle.std.specs.Prelude.{Bool, not, List, [], ◌++◌, ℕ, ◌+◌, eqb, ltb, length, get_or, drop, set, Ok, Err}
use Rattle.numbers.specs.declared.Refusal.TheVariants.{SheetZero, TextLength, NoSheet, OtherRevision, LastRevision, NoFreeSlot, SheetPresent, BufferLength}
use Rattle.records.specs.Record.{greatest_revision}
use Rattle.slots.specs.Slots.{lowest}
use Rattle.plans.specs.Plans.{guard, bad_text, Plan}
use Rattle.store.specs.Calls.{Read, Stored, Removed}
use Rattle.store.specs.Conversions.{Source, refuses, gives}

pub data Place : Type 0 where
  nothing : Place
  holding : ℕ → ℕ → List ℕ → Place

abbrev pub number_of : Place → ℕ
number_of nothing = 0
number_of (holding n v t) = n

abbrev pub revision_of : Place → ℕ
revision_of nothing = 0
revision_of (holding n v t) = v

abbrev pub text_in : Place → List ℕ
text_in nothing = []
text_in (holding n v t) = t

-- place k of the list
abbrev pub at : List Place → ℕ → Place
at l k = get_or l k nothing

-- the lowest place with sheet number n, or the count of places
unfoldable pub find_in : List Place → ℕ → ℕ
find_in l n = lowest (λ k. eqb (number_of (at l k)) n) (length l)

abbrev pub absent_in : List Place → ℕ → Bool
absent_in l n = eqb (find_in l n) (length l)

-- ---- what each call comes to: a refusal, or the place to work on

unfoldable pub read_in : List Place → ℕ → ℕ → Plan
read_in l n b =
    guard (eqb n 0) SheetZero
    (guard (absent_in l n) NoSheet (guard (ltb b (length (text_in (at l (find_in l n))))) BufferLength (Ok (find_in l n))))

unfoldable pub add_in : List Place → ℕ → List ℕ → Plan
add_in l n t =
    guard (eqb n 0) SheetZero (guard (bad_text t) TextLength (guard (not (absent_in l n)) SheetPresent (guard (absent_in l 0) NoFreeSlot (Ok (find_in l 0)))))

unfoldable pub revise_in : List Place → ℕ → ℕ → List ℕ → Plan
revise_in l n v t =
    guard (eqb n 0) SheetZero
    (guard (bad_text t) TextLength
    (guard (absent_in l n) NoSheet
    (guard (not (eqb v (revision_of (at l (find_in l n))))) OtherRevision
    (guard (eqb (revision_of (at l (find_in l n))) greatest_revision) LastRevision (Ok (find_in l n))))))

unfoldable pub remove_in : List Place → ℕ → Plan
remove_in l n = guard (eqb n 0) SheetZero (guard (absent_in l n) NoSheet (Ok (find_in l n)))

-- ---- and what it answers and leaves

-- a text of l bytes, at revision v
abbrev pub a_text : (l v : ℕ) → Read
a_text l v = Ok (record { length = l; revision = v })

abbrev pub read_text : List Place → Plan → Read
read_text l (Err x) = Err x
read_text l (Ok k) = a_text (length (text_in (at l k))) (revision_of (at l k))

abbrev pub read_into : List Place → List ℕ → Plan → List ℕ
read_into l b (Err x) = b
read_into l b (Ok k) = text_in (at l k) ++ drop (length (text_in (at l k))) b

abbrev pub added : Plan → Stored
added (Err x) = Err x
added (Ok k) = Ok 1

abbrev pub after_add : List Place → ℕ → List ℕ → Plan → List Place
after_add l n t (Err x) = l
after_add l n t (Ok k) = set l k (holding n 1 t)

-- 02, conversions: refused by a number of its own the list keeps what it holds, and a text is added
abbrev pub converted : List Place → ℕ → Source → Stored
converted l n (refuses x) = Err x
converted l n (gives t) = added (add_in l n t)

abbrev pub after_converting : List Place → ℕ → Source → List Place
after_converting l n (refuses x) = l
after_converting l n (gives t) = after_add l n t (add_in l n t)

abbrev pub revised : List Place → Plan → Stored
revised l (Err x) = Err x
revised l (Ok k) = Ok (revision_of (at l k) + 1)

abbrev pub after_revise : List Place → ℕ → List ℕ → Plan → List Place
after_revise l n t (Err x) = l
after_revise l n t (Ok k) = set l k (holding n (revision_of (at l k) + 1) t)

abbrev pub gone : Plan → Removed
gone (Err x) = Err x
gone (Ok k) = Ok tt

abbrev pub after_remove : List Place → Plan → List Place
after_remove l (Err x) = l
after_remove l (Ok k) = set l k nothing
