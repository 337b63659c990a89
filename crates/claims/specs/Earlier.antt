-- 01 before 02's order 1: which slots were faulty, and the plain list that a store was. Kept word for word for one theorem (`proofs/Earlier`), over the
-- soundness and the revision that `records/specs/Earlier` keeps.
-- Assumes nothing.
use Rattle.std.specs.Prelude.{Bool, cond, not, ◌&&◌, ◌||◌, List, ℕ, eqb, ltb}
use Rattle.records.specs.Record.{num}
use Rattle.records.specs.Earlier.{rev, sound}
use Rattle.slots.specs.Slots.{slots, slot, find}
use Rattle.sheets.specs.Text.{text_of}
use Rattle.claims.specs.Plain.{Place, nothing, holding}
use Rattle.claims.specs.View.{places_from}

-- a faulty slot: unsound, or repeating a lower slot's number other than 0
unfoldable pub faulty : List ℕ → ℕ → Bool
faulty s k = not (sound (slot s k)) || (not (eqb (num (slot s k)) 0) && ltb (find s (num (slot s k))) k)

-- what a record holds, with the old key o and the new key w
unfoldable pub place_of : List ℕ → List ℕ → List ℕ → Place
place_of o w r = cond (eqb (num r) 0) nothing (holding (num r) (rev r) (text_of o w r))

-- what the store holds, slot by slot
unfoldable pub plain : List ℕ → List ℕ → List ℕ → List Place
plain o w s = places_from (λ k. place_of o w (slot s k)) 0 (slots s)
