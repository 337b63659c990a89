-- The store's calls for C with their arguments, and what they give back; and what the plain list's answer to a call is as what the call gives back.
-- Assumes nothing.
use Rattle.std.specs.Prelude.{List, [], ◌∷◌, map, ℕ, get_or}
use Rattle.claims.specs.Machine.{Event, reading, adding, converting, revising, removing, stepping, Answer, of_read, of_stored, of_removed, of_step}
use Rattle.takeover.specs.Sources.{xts_source}
use Rattle.answers.specs.Sheets.{read_number, length_or, seen_or, stored_number, revision_or, removed_number}

-- a call with its arguments, and after them what stands behind each pointer before it; a step lends the place of a copy of the job
pub data Call : Type 0 where
  reads : (sheet : ℕ) (buffer : List ℕ) (length revision : ℕ) → Call
  adds : (sheet : ℕ) (text : List ℕ) (revision : ℕ) → Call
  adds_xts : (key : List ℕ) (number : ℕ) (unit : List ℕ) (sheet revision : ℕ) → Call
  revises : (sheet seen : ℕ) (text : List ℕ) (revision : ℕ) → Call
  removes : (sheet : ℕ) → Call
  steps : (copy outcome : ℕ) → Call
  job_steps : (copy outcome : ℕ) → Call

-- what a call gives back beside the store and the place: its number, and what stands behind each pointer after it
pub data Returned : Type 0 where
  text : (number : ℕ) (buffer : List ℕ) (length revision : ℕ) → Returned
  revision : (number revision : ℕ) → Returned
  freed : (number : ℕ) → Returned
  outcome : (number outcome : ℕ) → Returned

-- the call at a position, and what the one at a position gives back; past the end they read as a step's
abbrev pub call_at : List Call → ℕ → Call
call_at cs i = get_or cs i (steps 0 0)

abbrev pub returned_at : List Returned → ℕ → Returned
returned_at rs i = get_or rs i (outcome 0 0)

-- ---- in the words of `claims`

-- the event that a call is: either step call is a step
abbrev pub event : Call → Event
event (reads i b l v) = reading i b
event (adds i t v) = adding i t
event (adds_xts k d u i v) = converting i (xts_source k d u)
event (revises i s t v) = revising i s t
event (removes i) = removing i
event (steps c x) = stepping c
event (job_steps c x) = stepping c

abbrev pub events : List Call → List Event
events cs = map event cs

-- what operators are told: of a step, whether it was refused, and not its outcome
abbrev pub told : Returned → Returned
told (text n b l v) = text n b l v
told (revision n v) = revision n v
told (freed n) = freed n
told (outcome n x) = outcome n 0

-- an answer as a call gives it back, with l and v behind its pointers for length and revision; a step is not refused
abbrev pub as_returned : (l v : ℕ) → Answer → Returned
as_returned l v (of_read a b) = text (read_number a) b (length_or l a) (seen_or v a)
as_returned l v (of_stored a) = revision (stored_number a) (revision_or v a)
as_returned l v (of_removed a) = freed (removed_number a)
as_returned l v of_step = outcome 0 0

-- what stands behind the pointers decides only where a call is refused
abbrev pub read_off : Call → Answer → Returned
read_off (reads i b l v) a = as_returned l v a
read_off (adds i t v) a = as_returned 0 v a
read_off (adds_xts k d u i v) a = as_returned 0 v a
read_off (revises i s t v) a = as_returned 0 v a
read_off (removes i) a = as_returned 0 0 a
read_off (steps c x) a = as_returned 0 0 a
read_off (job_steps c x) a = as_returned 0 0 a

-- each answer as its call gives it back
abbrev pub read_all : List Call → List Answer → List Returned
read_all [] l = []
read_all (c ∷ cs) [] = []
read_all (c ∷ cs) (a ∷ l) = read_off c a ∷ read_all cs l
