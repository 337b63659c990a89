-- Demand 3 is not empty: what its theorems ask for is there. A key of each size, a store that passes the check and one that does not, an event of each
-- kind at its greatest numbers, and one list of events on which each theorem is used: a removal, an add, a read, a revision and a conversion are
-- accepted in it, as the plain list of the store in clear computes.
-- Assumes nothing.
use mathlib.Core.Path.{◌≡◌, refl, sym, ap, ap₂, ◌∙◌, subst}
use mathlib.Core.Bool.{Bool, cond}
use mathlib.Core.List.{List, [], ◌∷◌}
use Prim.Native.Nat.{ℕ, zero, suc, ◌<◌}
use native.Mathlib.Omega.{arith}
use borrow.Author.Tests.{ne_eqb}
use lib.Dec.{lit<}
use lib.ListN.{replicate}
use Rattle.std.specs.Prelude.{Ok, Err}
use Rattle.block.specs.Bytes.{Bytes}
use Rattle.block.proofs.BytesLaws.{bytes_zeros, bytes_cons}
use Rattle.numbers.specs.declared.Refusal.TheVariants.{KeyLength, OtherRevision}
use Rattle.records.specs.Record.{text_most, num, rev}
use Rattle.records.proofs.RecordLaws.{rev_record, stored_record}
use Rattle.slots.specs.Slots.{slots, slot, scan, bad_size}
use Rattle.checking.specs.Check.{check_answer}
use Rattle.sheets.specs.Text.{text_of}
use Rattle.sheets.proofs.TextLaws.{text_clear}
use Rattle.plans.specs.Plans.{guard, bad_length}
use Rattle.store.specs.Conversions.{refuses, gives}
use Rattle.claims.specs.Plain.{Place, nothing, holding, find_in, read_in, add_in, revise_in, remove_in, a_text}
use Rattle.claims.specs.View.{place_of, places_from, plain}
use Rattle.claims.specs.Machine.{Event, reading, adding, converting, revising, removing, stepping, Allowed, AllAllowed}
use Rattle.claims.specs.Machine.{Answer, of_read, of_stored, of_removed, of_step}
use Rattle.claims.specs.Machine.{State, answers, final, list_answers, list_final}
use Rattle.claims.specs.Claims.{Key, Passes, NoneLeft, event_at, answer_at}
use Rattle.claims.specs.Operators.{asked, told, Written, by_add, Changed, revised_anew, taken_out, Unchanged}
use Rattle.claims.proofs.TwoClear.{clear, two_clear, num_clear, mark_clear, two_slots, slot_0, slot_1, sound_two, two_pass}
use Rattle.claims.proofs.Demand3.{answers_as_a_list, holds_the_list, still_passes, as_many_slots, at_most_one, no_sheet_left}
use Rattle.claims.proofs.Operators.{steps_change_nothing, read_back}

-- ---- the hypotheses

bytes-full : (n : ℕ) → Bytes (replicate n 255)
bytes-full zero = bytes_zeros 0
bytes-full (suc n) = bytes_cons (lit< tt) (bytes-full n)

-- a key of each size
abbrev short : List ℕ
short = replicate 48 255

abbrev long : List ℕ
long = replicate 64 255

pub key_48 : Key short
key_48 = search (bytes-full 48)

pub key_64 : Key long
key_64 = search (bytes-full 64)

-- a store that does not pass the check (one that does is `TwoClear: two_clear`)
pub one_byte_fails : Passes (0 ∷ []) → ⊥
unfolding check_answer bad_size
one_byte_fails e = let z : ◌≡◌ {A = ℕ} 0 1 = cc in let y : ⊥ = omega arith in y

-- an event of each kind at its greatest numbers
abbrev greatest : ℕ
greatest = 4294967295

abbrev text : List ℕ
text = replicate text_most 255

abbrev shorter : List ℕ
shorter = replicate 16 255

pub read_allowed : Allowed (reading greatest text)
read_allowed = search (bytes-full text_most, arith)

pub add_allowed : Allowed (adding greatest text)
add_allowed = search (bytes-full text_most, arith)

pub conversion_allowed : Allowed (converting greatest (gives text))
conversion_allowed = search (bytes-full text_most, arith)

pub refused_allowed : Allowed (converting greatest (refuses KeyLength))
refused_allowed = search arith

pub revision_allowed : Allowed (revising greatest greatest text)
revision_allowed = search (bytes-full text_most, arith)

pub removal_allowed : Allowed (removing greatest)
removal_allowed = search arith

pub step_allowed : Allowed (stepping greatest)
step_allowed = search arith

-- ---- one list of events

-- every copy of the job at slot 0
abbrev start : State
start = record { store = two_clear; place = λ c. 0 }

-- a slot is freed, and a sheet added there, read, revised, revised again as by a retry, and removed, while a copy of the job makes two steps; then
-- a conversion is refused by a number of its own, and one comes to a text
abbrev events : List Event
events =
    removing 1
    ∷ adding greatest text
    ∷ stepping greatest
    ∷ reading greatest text
    ∷ revising greatest 1 shorter
    ∷ revising greatest 1 shorter
    ∷ revising greatest greatest text
    ∷ stepping greatest
    ∷ removing greatest
    ∷ converting greatest (refuses KeyLength)
    ∷ converting greatest (gives text)
    ∷ []

once_revised : Allowed (revising greatest 1 shorter)
once_revised = (lit< tt, lit< tt, bytes-full 16)

converted : AllAllowed (removing greatest ∷ converting greatest (refuses KeyLength) ∷ converting greatest (gives text) ∷ [])
converted = (removal_allowed, (refused_allowed, (conversion_allowed, tt)))

allowed : AllAllowed events
allowed =
    (lit< tt, (add_allowed, (step_allowed, (read_allowed, (once_revised, (once_revised, (revision_allowed, (step_allowed, converted))))))))

-- what the two slots in clear hold
in_clear : (n : ℕ) → n < 4294967296 → (n ≡ 0 → ⊥) → place_of short long (clear n) ≡ holding n 1 (replicate 16 0)
unfolding place_of clear
in_clear n h z =
    ap (λ (t : Bool). cond t nothing (holding (num (clear n)) (rev (clear n)) (text_of short long (clear n))))
    (ne_eqb (num (clear n)) 0 (λ q. z (sym (num_clear n h) ∙ q)))
    ∙ ap₂ (λ (i j : ℕ). holding i j (text_of short long (clear n))) (num_clear n h) (rev_record n 1 0 (replicate 16 0) (lit< tt))
    ∙ ap (holding n 1) (text_clear (clear n) short long (mark_clear n) ∙ stored_record n 1 0 (replicate 16 0) (omega arith))

two_sheets : plain short long two_clear ≡ holding 1 1 (replicate 16 0) ∷ holding 2 1 (replicate 16 0) ∷ []
unfolding plain places_from
two_sheets =
    ap (places_from (λ k. place_of short long (slot two_clear k)) 0) two_slots
    ∙ ap₂ (λ (x y : Place). x ∷ y ∷ []) (ap (place_of short long) slot_0 ∙ in_clear 1 (lit< tt) (λ q. let y : ⊥ = omega arith in y))
    (ap (place_of short long) slot_1 ∙ in_clear 2 (lit< tt) (λ q. let y : ⊥ = omega arith in y))

-- a removal, an add, a read, a revision and a conversion are each accepted
pub each_accepted : answers short long events start
    ≡ of_removed (Ok tt)
    ∷ of_stored (Ok 1)
    ∷ of_step
    ∷ of_read (a_text text_most 1) text
    ∷ of_stored (Ok 2)
    ∷ of_stored (Err OtherRevision)
    ∷ of_stored (Err OtherRevision)
    ∷ of_step
    ∷ of_removed (Ok tt)
    ∷ of_stored (Err KeyLength)
    ∷ of_stored (Ok 1)
    ∷ []
unfolding read_in add_in revise_in remove_in find_in scan guard bad_length
each_accepted = answers_as_a_list short long key_48 key_64 start sound_two.bytes two_pass events allowed ∙ ap (list_answers events) two_sheets

pub list_left : plain short long (final short long events start).store ≡ holding greatest 1 text ∷ holding 2 1 (replicate 16 0) ∷ []
unfolding read_in add_in revise_in remove_in find_in scan guard bad_length
list_left = holds_the_list short long key_48 key_64 start sound_two.bytes two_pass events allowed ∙ ap (list_final events) two_sheets

pub passes_after : Passes (final short long events start).store
passes_after = still_passes short long key_48 key_64 start sound_two.bytes two_pass events allowed

pub two_slots_after : slots (final short long events start).store ≡ 2
two_slots_after = as_many_slots short long key_48 key_64 start sound_two.bytes two_pass events allowed ∙ two_slots

-- the second of the two revisions is not accepted
pub retry_refused : (r : ℕ) → answer_at (answers short long events start) 5 ≡ of_stored (Ok r) → ⊥
retry_refused r e =
    at_most_one short long key_48 key_64 start sound_two.bytes two_pass events allowed greatest 1 4 5 (omega arith) shorter shorter refl refl
    (λ k h g d. let y : ⊥ = omega arith in y) 2 r (ap (λ (l : List Answer). answer_at l 4) each_accepted) e

-- the two steps were as many as there are slots
pub none_left : NoneLeft (final short long events start).store
none_left = no_sheet_left short long key_48 key_64 start sound_two.bytes two_pass [] events [] allowed greatest refl (omega (arith, two_slots))

-- the text that was added is read, with a step between
no_change : (n c : ℕ) (e : Event) (a : Answer) → Changed n e a → e ≡ stepping c → ⊥
no_change n c e a (revised_anew v t r) q = let z : ◌≡◌ {A = ℕ} 0 1 = cc in let y : ⊥ = omega arith in y
no_change n c e a taken_out q = let z : ◌≡◌ {A = ℕ} 0 1 = cc in let y : ⊥ = omega arith in y

pub added_is_read : answer_at (answers short long events start) 3 ≡ of_read (a_text text_most 1) text
added_is_read =
    read_back short long key_48 key_64 start sound_two.bytes two_pass events allowed greatest text 1 1 3
    (omega arith) accepted step_only text refl (omega arith)
  where
    a : List Answer
    a = answers short long events start

    accepted : Written greatest text 1 (event_at events 1) (answer_at a 1)
    accepted = subst (λ (l : List Answer). Written greatest text 1 (event_at events 1) (answer_at l 1)) (sym each_accepted) by_add

    step_only : Unchanged greatest events a 1 3
    step_only k h g c =
        let e : k ≡ 2 = omega arith in
        no_change greatest greatest (event_at events k) (answer_at a k) c (ap (event_at events) e)

-- and without its steps the list is answered the same
pub same_without_steps : told (answers short long events start) ≡ told (answers short long (asked events) start)
same_without_steps = (steps_change_nothing short long key_48 key_64 start start refl sound_two.bytes two_pass events (asked events) allowed fewer refl).0
  where
    fewer : AllAllowed (asked events)
    fewer = (lit< tt, (add_allowed, (read_allowed, (once_revised, (once_revised, (revision_allowed, converted))))))
