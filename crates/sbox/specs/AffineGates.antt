-- The gates of the affine step, and of the step undone, as data. A word of ones stands before the planes: not is xor with it.
-- Assumes nothing.
use Rattle.std.specs.Prelude.{List, [], ◌∷◌, ℕ}
use Rattle.sbox.specs.Gates.{Gate, xor}

-- 5.1.1
abbrev pub affine_gates : List Gate
affine_gates =
    xor 7 8 ∷ xor 5 6 ∷ xor 4 5 ∷ xor 9 1 ∷ xor 1 0 ∷ xor 4 1 ∷ xor 7 3 ∷ xor 6 0 ∷ xor 6 1 ∷ xor 12 3 ∷ xor 1 0 ∷ xor 19 1 ∷ xor 16 4 ∷ xor 8 0 ∷
    xor 21 1 ∷ xor 1 15 ∷ xor 5 16 ∷ xor 12 17 ∷ xor 6 18 ∷ []

abbrev pub affine_outs : List ℕ
affine_outs = 3 ∷ 2 ∷ 11 ∷ 4 ∷ 10 ∷ 1 ∷ 0 ∷ 13 ∷ []

-- undone, 5.3.2
abbrev pub unaffine_gates : List Gate
unaffine_gates =
    xor 1 6 ∷ xor 4 0 ∷ xor 6 1 ∷ xor 7 10 ∷ xor 5 0 ∷ xor 7 1 ∷ xor 8 11 ∷ xor 15 0 ∷ xor 15 1 ∷ xor 12 17 ∷ xor 16 0 ∷ xor 16 1 ∷ xor 1 12 ∷
    xor 5 13 ∷ []

abbrev pub unaffine_outs : List ℕ
unaffine_outs = 1 ∷ 9 ∷ 0 ∷ 12 ∷ 8 ∷ 2 ∷ 11 ∷ 5 ∷ []
