-- The masks of 000, table 1, steps 12 to 17 and 41 to 45, and of IEEE 1619-2007, 5.3.2: each block of a text under a mask that is twice the one of the
-- block before it.
-- Assumes nothing.
use Rattle.std.specs.Prelude.{List, [], ◌∷◌, ℕ}
use Rattle.block.specs.Xor.{◌⊕◌}
use Rattle.block.specs.Double.{double}

-- the first block xor L, the next xor twice L, and so on
unfoldable pub masked : List ℕ → List (List ℕ) → List (List ℕ)
masked L [] = []
masked L (X ∷ Xs) = (X ⊕ L) ∷ masked (double L) Xs
