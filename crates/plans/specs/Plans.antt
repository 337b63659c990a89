-- 01, numbers returned in place of a result: each call is a ladder of refusals in 01's order, and at its end the slot that it works on.
-- What follows 1 and 4 goes by a count of places and the record at each place: those of a store are its slots. Nobody else opens a ladder:
-- `proofs/PlanLaws.antt` says what a plan that ends at a slot says of it, and when a ladder refuses.
-- Assumes nothing.
use Rattle.std.specs.Prelude.{Bool, true, false, not, ◌||◌, List, ℕ, eqb, ltb, length, Result, Ok, Err}
use Rattle.numbers.specs.declared.Refusal.{Refusal}
use Rattle.numbers.specs.declared.Refusal.TheVariants.{KeyLength, StoreLength, SheetZero, TextLength, NoSheet, OtherRevision, LastRevision}
use Rattle.numbers.specs.declared.Refusal.TheVariants.{NoFreeSlot, SheetPresent, SlotUnsound, BufferLength, LengthChanged}
use Rattle.eme2.specs.Transform.{key_taken}
use Rattle.records.specs.Record.{text_most, greatest_revision, rev, len, sound}
use Rattle.slots.specs.Slots.{slots, slot, find_by, bad_size}
use Rattle.sheets.specs.Text.{text_of}

-- what a ladder comes to: the slot to work on, or a refusal
abbrev pub Plan : Type 0
Plan = Result ℕ Refusal

-- refused if the test holds, and else what follows
unfoldable pub guard : Bool → Refusal → Plan → Plan
guard true x p = Err x
guard false x p = p

-- ---- the tests

-- 1: a key given is not 48 or 64 bytes; both keys are tested
abbrev pub bad_key : List ℕ → Bool
bad_key k = not (key_taken k)

unfoldable pub bad_keys : List ℕ → List ℕ → Bool
bad_keys o w = bad_key o || bad_key w

-- 6: a text of l bytes, below 16 or above 2,096
unfoldable pub bad_length : ℕ → Bool
bad_length l = ltb l 16 || ltb text_most l

abbrev pub bad_text : List ℕ → Bool
bad_text t = bad_length (length t)

-- ---- of the record x at the place k that was found

-- read 12, 13, 14: with the old key o, the new key w and a buffer of b bytes
unfoldable pub read_at_plan : (o w x : List ℕ) (b k : ℕ) → Plan
read_at_plan o w x b k =
    guard (not (sound x)) SlotUnsound
    (guard (ltb b (len x)) BufferLength (guard (not (eqb (length (text_of o w x)) (len x))) LengthChanged (Ok k)))

-- revise 12, 8, 9: the operator saw revision v
unfoldable pub revise_at_plan : (x : List ℕ) (v k : ℕ) → Plan
revise_at_plan x v k =
    guard (not (sound x)) SlotUnsound (guard (not (eqb v (rev x))) OtherRevision (guard (eqb (rev x) greatest_revision) LastRevision (Ok k)))

-- ---- what follows 1 and 4: c places, the record r k at place k

module _ (c : ℕ) (r : ℕ → List ℕ) where
  -- no place has the sheet number
  abbrev pub absent : ℕ → Bool
  absent n = eqb (find_by c r n) c

  -- read 5, 7, 12, 13, 14: sheet n
  unfoldable pub read_from : (o w : List ℕ) (n b : ℕ) → Plan
  read_from o w n b = guard (eqb n 0) SheetZero (guard (absent n) NoSheet (read_at_plan o w (r (find_by c r n)) b (find_by c r n)))

  -- add 5, 6, 11, 10: of sheet n with a text of l bytes
  unfoldable pub add_from : (n l : ℕ) → Plan
  add_from n l =
      guard (eqb n 0) SheetZero
      (guard (bad_length l) TextLength (guard (not (absent n)) SheetPresent (guard (absent 0) NoFreeSlot (Ok (find_by c r 0)))))

  -- revise 5, 6, 7, 12, 8, 9: of sheet n with a text of l bytes
  unfoldable pub revise_from : (n v l : ℕ) → Plan
  revise_from n v l =
      guard (eqb n 0) SheetZero
      (guard (bad_length l) TextLength (guard (absent n) NoSheet (revise_at_plan (r (find_by c r n)) v (find_by c r n))))

  -- remove 5, 7
  unfoldable pub remove_from : (n : ℕ) → Plan
  remove_from n = guard (eqb n 0) SheetZero (guard (absent n) NoSheet (Ok (find_by c r n)))

-- ---- the whole ladders, of a store s

-- 1, 4
unfoldable pub opened : (o w s : List ℕ) → Plan → Plan
opened o w s p = guard (bad_keys o w) KeyLength (guard (bad_size s) StoreLength p)

-- read 1, 4, 5, 7, 12, 13, 14
abbrev pub read_plan : (o w s : List ℕ) (n b : ℕ) → Plan
read_plan o w s n b = opened o w s (read_from (slots s) (slot s) o w n b)

-- add 1, 4, 5, 6, 11, 10
abbrev pub add_plan : (o w s : List ℕ) (n : ℕ) (t : List ℕ) → Plan
add_plan o w s n t = opened o w s (add_from (slots s) (slot s) n (length t))

-- revise 1, 4, 5, 6, 7, 12, 8, 9
abbrev pub revise_plan : (o w s : List ℕ) (n v : ℕ) (t : List ℕ) → Plan
revise_plan o w s n v t = opened o w s (revise_from (slots s) (slot s) n v (length t))

-- remove 4, 5, 7
unfoldable pub remove_plan : (s : List ℕ) (n : ℕ) → Plan
remove_plan s n = guard (bad_size s) StoreLength (remove_from (slots s) (slot s) n)

-- step 1, 4: at the slot of the job's place k
abbrev pub step_plan : (o w s : List ℕ) (k : ℕ) → Plan
step_plan o w s k = opened o w s (Ok k)
