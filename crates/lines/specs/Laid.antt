-- Bytes laid into a lent buffer one after another, as far as they fit.
-- Assumes nothing.
use Rattle.std.specs.Prelude.{◌≡◌, List, ◌++◌, ℕ, ◌+◌, length, take, drop}
use Rattle.std.proofs.lemmas.List.Edits.{sets}

-- no listing takes more, so that the sums of places fit
abbrev pub room : ℕ
room = 4096

-- t at the front of b: as much of it as fits, and the rest of b as it was
unfoldable pub overlay : List ℕ → List ℕ → List ℕ
overlay t b = take (length b) t ++ drop (length t) b

-- t was laid into b from `at` on, which made it b', and n is the place after t, also where it is past the end
pub record Laid (t : List ℕ) (at : ℕ) (b : List ℕ) (n : ℕ) (b' : List ℕ) : Type 0 where
  pub place : n ≡ at + length t
  pub bytes : b' ≡ sets b at t
