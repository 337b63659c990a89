-- 01, the store: the plain list starts with what the store's texts decipher to.
-- Assumes nothing.
use Rattle.std.specs.Prelude.{cond, List, [], ◌∷◌, ℕ, zero, suc, eqb}
use Rattle.records.specs.Record.{num, rev}
use Rattle.slots.specs.Slots.{slots, slot}
use Rattle.sheets.specs.Text.{text_of}
use Rattle.claims.specs.Plain.{Place, nothing, holding}

-- what a record holds, with the old key o and the new key w
unfoldable pub place_of : List ℕ → List ℕ → List ℕ → Place
place_of o w r = cond (eqb (num r) 0) nothing (holding (num r) (rev r) (text_of o w r))

-- the places i, i + 1, .. i + n - 1 by a rule
unfoldable pub places_from : (ℕ → Place) → ℕ → ℕ → List Place
places_from f i zero = []
places_from f i (suc n) = f i ∷ places_from f (suc i) n

-- what the store holds, slot by slot
unfoldable pub plain : List ℕ → List ℕ → List ℕ → List Place
plain o w s = places_from (λ k. place_of o w (slot s k)) 0 (slots s)
