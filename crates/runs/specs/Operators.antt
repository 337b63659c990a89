-- What operators ask of the calls for C and get back, the job's steps left out; and a text that was accepted, and what would change it.
-- Assumes nothing.
use Rattle.std.specs.Prelude.{List, [], ◌∷◌, ℕ, ◌≡◌}
use Rattle.store.specs.Conversions.{gives}
use Rattle.takeover.specs.Sources.{xts_source}
use Rattle.runs.specs.Calls.{Call, reads, adds, adds_xts, revises, removes, steps, job_steps, Returned, text, revision, freed, outcome}

-- the calls but for steps
abbrev pub asked : List Call → List Call
asked [] = []
asked (reads i b l v ∷ cs) = reads i b l v ∷ asked cs
asked (adds i t v ∷ cs) = adds i t v ∷ asked cs
asked (adds_xts k d u i v ∷ cs) = adds_xts k d u i v ∷ asked cs
asked (revises i s t v ∷ cs) = revises i s t v ∷ asked cs
asked (removes i ∷ cs) = removes i ∷ asked cs
asked (steps c x ∷ cs) = asked cs
asked (job_steps c x ∷ cs) = asked cs

-- what they get back
abbrev pub gotten : List Returned → List Returned
gotten [] = []
gotten (text n b l v ∷ rs) = text n b l v ∷ gotten rs
gotten (revision n v ∷ rs) = revision n v ∷ gotten rs
gotten (freed n ∷ rs) = freed n ∷ gotten rs
gotten (outcome n x ∷ rs) = gotten rs

-- an add, a conversion or a revision of sheet n with text t, answered with 0 and revision r
pub data Written (n : ℕ) (t : List ℕ) (r : ℕ) : Call → Returned → Type 0 where
  by_add : (x : ℕ) → Written n t r (adds n t x) (revision 0 r)
  by_conversion : (k : List ℕ) (d : ℕ) (u : List ℕ) (x : ℕ) → xts_source k d u ≡ gives t → Written n t r (adds_xts k d u n x) (revision 0 r)
  by_revision : (v x : ℕ) → Written n t r (revises n v t x) (revision 0 r)

-- a revision or a removal of sheet n, answered with 0
pub data Changed (n : ℕ) : Call → Returned → Type 0 where
  revised_anew : (v : ℕ) (t : List ℕ) (x r : ℕ) → Changed n (revises n v t x) (revision 0 r)
  taken_out : Changed n (removes n) (freed 0)
