-- The gates of the inverse's five parts, as data, and the words of the structs between them.
-- Assumes nothing.
use Rattle.std.specs.Prelude.{List, [], ◌∷◌, ℕ}
use Rattle.sbox.specs.Gates.{Gate, xor, and}
use Rattle.sbox.specs.declared.field_inverse.Sums.{Sums}
use Rattle.sbox.specs.declared.field_inverse.LowNorm.{LowNorm}
use Rattle.sbox.specs.declared.field_inverse.LowInverse.{LowInverse}
use Rattle.sbox.specs.declared.field_inverse.Factors.{Factors}

-- the words of each struct, in its order
abbrev pub sums : Sums → List ℕ
sums v =
    v.x0 ∷ v.y1 ∷ v.y2 ∷ v.y3 ∷ v.y4 ∷ v.y5 ∷ v.y6 ∷ v.y7 ∷ v.y8 ∷ v.y9 ∷ v.y10 ∷ v.y11 ∷
    v.y12 ∷ v.y13 ∷ v.y14 ∷ v.y15 ∷ v.y16 ∷ v.y17 ∷ v.y18 ∷ v.y19 ∷ v.y20 ∷ v.y21 ∷ []

abbrev pub norms : LowNorm → List ℕ
norms v =
    v.t21 ∷ v.t22 ∷ v.t23 ∷ v.t24 ∷ []

abbrev pub lows : LowInverse → List ℕ
lows v =
    v.t29 ∷ v.t33 ∷ v.t37 ∷ v.t40 ∷ v.t41 ∷ v.t42 ∷ v.t43 ∷ v.t44 ∷ v.t45 ∷ []

abbrev pub factors : Factors → List ℕ
factors v =
    v.z0 ∷ v.z1 ∷ v.z2 ∷ v.z3 ∷ v.z4 ∷ v.z5 ∷ v.z6 ∷ v.z7 ∷ v.z8 ∷ v.z9 ∷ v.z10 ∷ v.z11 ∷ v.z12 ∷ v.z13 ∷ v.z14 ∷ v.z15 ∷ v.z16 ∷ v.z17 ∷ []

-- from the byte's bits to their sums
abbrev pub top_gates : List Gate
top_gates =
    xor 4 2 ∷ xor 8 2 ∷ xor 9 6 ∷ xor 10 5 ∷ xor 10 9 ∷ xor 0 5 ∷ xor 0 10 ∷ xor 5 6 ∷ xor 2 15 ∷ xor 3 10 ∷ xor 0 6 ∷ xor 14 3 ∷ xor 0 14 ∷
    xor 1 19 ∷ xor 1 14 ∷ xor 2 10 ∷ xor 2 13 ∷ xor 17 0 ∷ xor 2 1 ∷ xor 3 15 ∷ xor 15 3 ∷ xor 19 0 ∷ xor 29 1 ∷ []

abbrev pub top_outs : List ℕ
top_outs = 23 ∷ 17 ∷ 14 ∷ 12 ∷ 16 ∷ 13 ∷ 8 ∷ 5 ∷ 19 ∷ 20 ∷ 7 ∷ 6 ∷ 15 ∷ 21 ∷ 22 ∷ 10 ∷ 2 ∷ 4 ∷ 0 ∷ 3 ∷ 9 ∷ 1 ∷ []

-- to the norm
abbrev pub norm_gates : List Gate
norm_gates =
    and 12 15 ∷ and 4 7 ∷ xor 0 1 ∷ and 7 3 ∷ xor 0 3 ∷ and 18 21 ∷ and 11 7 ∷ xor 0 1 ∷ and 10 15 ∷ xor 0 3 ∷ and 19 21 ∷ and 25 28 ∷ xor 0 1 ∷
    and 21 23 ∷ xor 0 3 ∷ xor 12 2 ∷ xor 11 1 ∷ xor 9 4 ∷ xor 8 3 ∷ xor 3 39 ∷ xor 3 39 ∷ xor 3 42 ∷ xor 3 40 ∷ []

abbrev pub norm_outs : List ℕ
norm_outs = 3 ∷ 2 ∷ 1 ∷ 0 ∷ []

-- to its inverse in the field of 16
abbrev pub low_gates : List Gate
low_gates =
    xor 0 1 ∷ and 1 3 ∷ xor 5 0 ∷ and 2 0 ∷ xor 0 5 ∷ xor 7 8 ∷ xor 7 4 ∷ and 0 1 ∷ xor 0 11 ∷ xor 11 0 ∷ xor 7 1 ∷ and 14 0 ∷ xor 0 2 ∷ xor 10 1 ∷
    and 9 0 ∷ xor 14 0 ∷ xor 0 3 ∷ xor 12 8 ∷ xor 13 2 ∷ xor 10 6 ∷ xor 2 3 ∷ []

abbrev pub low_outs : List ℕ
low_outs = 16 ∷ 12 ∷ 8 ∷ 5 ∷ 4 ∷ 3 ∷ 2 ∷ 1 ∷ 0 ∷ []

-- to the products of that with the sums
abbrev pub product_gates : List Gate
product_gates =
    and 7 24 ∷ and 3 16 ∷ and 3 11 ∷ and 9 28 ∷ and 7 14 ∷ and 5 21 ∷ and 11 26 ∷ and 15 33 ∷ and 12 27 ∷ and 16 30 ∷ and 12 22 ∷ and 12 24 ∷
    and 18 34 ∷ and 16 27 ∷ and 14 25 ∷ and 20 33 ∷ and 24 39 ∷ and 21 34 ∷ []

abbrev pub product_outs : List ℕ
product_outs = 17 ∷ 16 ∷ 15 ∷ 14 ∷ 13 ∷ 12 ∷ 11 ∷ 10 ∷ 9 ∷ 8 ∷ 7 ∷ 6 ∷ 5 ∷ 4 ∷ 3 ∷ 2 ∷ 1 ∷ 0 ∷ []

-- to the bits of the inverse
abbrev pub bottom_gates : List Gate
bottom_gates =
    xor 6 15 ∷ xor 13 0 ∷ xor 15 0 ∷ xor 19 0 ∷ xor 12 0 ∷ xor 7 0 ∷ xor 6 0 ∷ xor 12 2 ∷ xor 11 0 ∷ xor 12 13 ∷ xor 11 0 ∷ xor 18 1 ∷ xor 8 0 ∷
    xor 24 30 ∷ xor 8 3 ∷ xor 8 6 ∷ xor 1 0 ∷ xor 31 2 ∷ xor 28 0 ∷ xor 30 0 ∷ xor 33 0 ∷ xor 30 7 ∷ xor 37 0 ∷ xor 29 2 ∷ xor 20 1 ∷ xor 1 0 ∷
    xor 36 14 ∷ xor 13 0 ∷ xor 25 0 ∷ xor 13 0 ∷ []

abbrev pub bottom_outs : List ℕ
bottom_outs = 7 ∷ 17 ∷ 13 ∷ 0 ∷ 23 ∷ 9 ∷ 4 ∷ 21 ∷ []
