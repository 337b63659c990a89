-- The field of 2^128 elements (IEEE 1619-2007, 5.2; 000, 5.1). An element is a block, read as a polynomial in x over the bits 0 and 1: bit j of byte i
-- goes with x^(8i + j), so that byte 0 is the low end. Sums are xor, and products are taken modulo x^128 + x^7 + x^2 + x + 1. Alpha is the element x,
-- 2 in byte 0: a block times alpha is its `double` (01, doubling), which brings the carry out of byte 15 back as x^7 + x^2 + x + 1, 87 hex.
-- Assumes nothing.
use Rattle.std.specs.Prelude.{Bool, cond, List, ◌∷◌, ℕ, zero, suc, ◌/◌, ◌%◌, ◌^◌, eqb, replicate}
use Rattle.block.specs.Tab.{byte}
use Rattle.block.specs.Xor.{◌⊕◌}
use Rattle.block.specs.Double.{doubles}

-- the element 1
abbrev pub one : List ℕ
one = 1 ∷ replicate 15 0

-- alpha^k
unfoldable pub power : ℕ → List ℕ
power k = doubles k one

-- the bit of a that goes with x^n
abbrev pub bit : List ℕ → ℕ → Bool
bit a n = eqb (byte a (n / 8) / 2 ^ (n % 8) % 2) 1

-- b where the bit is 1, and else the element 0
abbrev pub only_if : Bool → List ℕ → List ℕ
only_if t b = cond t b (replicate 16 0)

-- the sum of b times alpha^i over the bits i of a that are 1, of the first n bits
unfoldable pub terms : ℕ → List ℕ → List ℕ → List ℕ
terms zero a b = replicate 16 0
terms (suc n) a b = terms n a b ⊕ only_if (bit a n) (doubles n b)

-- a times b: that sum, of all bits of a
unfoldable pub product : List ℕ → List ℕ → List ℕ
product a b = terms 128 a b
