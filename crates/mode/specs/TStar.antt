-- 000, table 1, steps 1 to 11: T_star of the associated data, always with f = AES-Enc. What other modes do otherwise is two arguments:
-- T_star of empty data, and what is made of the running mask for a short last block.
-- Assumes nothing.
use Rattle.std.specs.Prelude.{List, [], ◌∷◌, ◌++◌, ℕ, replicate}
use Rattle.block.specs.Xor.{◌⊕◌}
use Rattle.block.specs.Blocks.{full, rest, blocks}
use Rattle.block.specs.Double.{double, doubles, pad}
use Rattle.mode.specs.Wide.{total}

-- steps 4 to 6 and 10: TTi = f(mask xor Ti) xor mask, the mask doubled for each next block
unfoldable pub TTs : (List ℕ → List ℕ) → List ℕ → List (List ℕ) → List (List ℕ)
TTs f R [] = []
TTs f R (Ti ∷ Ts) = (f (R ⊕ Ti) ⊕ R) ∷ TTs f (double R) Ts

-- steps 7 to 10: a short last block is padded, and has a mask of its own
unfoldable pub short_tt : (List ℕ → List ℕ) → List ℕ → List ℕ → List (List ℕ)
short_tt f R [] = []
short_tt f R (x ∷ short) = (f (R ⊕ pad (x ∷ short)) ⊕ R) ∷ []

-- step 11: the sum of the TTs, in their order
unfoldable pub sum : List (List ℕ) → List ℕ
sum [] = replicate 16 0
sum (TT ∷ rest) = total TT rest

-- steps 3 to 11, of data that is not empty; the mask of T1 is twice Key3
unfoldable pub some_t_star : (List ℕ → List ℕ) → (List ℕ → List ℕ) → List ℕ → List ℕ → List ℕ
some_t_star f short_mask Key3 T =
    sum (TTs f (double Key3) (blocks (full T) T) ++ short_tt f (short_mask (doubles (full T) (double Key3))) (rest T))

-- steps 1 and 2
unfoldable pub t_star : (List ℕ → List ℕ) → List ℕ → (List ℕ → List ℕ) → List ℕ → List ℕ → List ℕ
t_star f empty short_mask Key3 [] = empty
t_star f empty short_mask Key3 (x ∷ T) = some_t_star f short_mask Key3 (x ∷ T)

-- EME2: empty data gives f(Key3), and a short block's mask is doubled once more
abbrev pub eme2_t_star : (List ℕ → List ℕ) → List ℕ → List ℕ → List ℕ
eme2_t_star f Key3 T = t_star f (f Key3) double Key3 T
