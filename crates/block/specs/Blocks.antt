-- A list of bytes as blocks of 16: the block at an offset, all full blocks, and what is left after them.
-- Assumes nothing.
use Rattle.std.specs.Prelude.{ℕ, zero, suc, ◌+◌, ◌*◌, ◌/◌, List, [], ◌∷◌, ◌++◌, length, take, drop}

-- the 16 bytes of s from `at` on
abbrev pub block_at : List ℕ → ℕ → List ℕ
block_at s at = take 16 (drop at s)

-- s with the bytes of b in the place of the 16 from `at` on
abbrev pub with_block : List ℕ → ℕ → List ℕ → List ℕ
with_block s at b = take at s ++ b ++ drop (at + 16) s

-- how many full blocks l has, and the bytes after them
abbrev pub full : List ℕ → ℕ
full l = length l / 16

abbrev pub rest : List ℕ → List ℕ
rest l = drop (full l * 16) l

-- the first n blocks of l
unfoldable pub blocks : ℕ → List ℕ → List (List ℕ)
blocks zero l = []
blocks (suc n) l = take 16 l ∷ blocks n (drop 16 l)

-- the bytes of the blocks, one after the other
unfoldable pub join : List (List ℕ) → List ℕ
join [] = []
join (b ∷ bs) = b ++ join bs

-- l with h of its full blocks in their place, and the bytes after them kept
unfoldable pub on_blocks : (List (List ℕ) → List (List ℕ)) → List ℕ → List ℕ
on_blocks h l = join (h (blocks (full l) l)) ++ rest l
