-- FIPS 197, 4: the field of bytes, with x^8 + x^4 + x^3 + x + 1. A sum is xor.
-- Assumes nothing.
use Rattle.std.specs.Prelude.{ℕ, zero, suc, ◌*◌, ◌/◌, ◌%◌}
use Rattle.std.specs.Int.Bits.{bit_xor}

-- what x^8 leaves: x^4 + x^3 + x + 1
abbrev pub reduction : ℕ
reduction = 0x1b

-- 4.2: a byte times x, {02}
abbrev pub xtime : ℕ → ℕ
xtime b = bit_xor (b * 2 % 256) (b / 128 * reduction)

-- a sum with b where the digit is not 0
abbrev pub plus : ℕ → ℕ → ℕ → ℕ
plus zero b sum = sum
plus (suc d) b sum = bit_xor sum b

-- 4.2: a times b, by the n binary digits of a, the highest first
abbrev pub times_by : ℕ → ℕ → ℕ → ℕ
times_by zero a b = 0
times_by (suc n) a b = plus (a % 2) b (xtime (times_by n (a / 2) b))

infixl 75 ◌•◌
-- a • b of two bytes
unfoldable pub ◌•◌ : ℕ → ℕ → ℕ
a • b = times_by 8 a b

-- q, its square, the square of that, .., n factors, multiplied
unfoldable pub squares : ℕ → ℕ → ℕ
unfolding ◌•◌
squares zero q = 1
squares (suc n) q = q • squares n (q • q)

-- 4.4: the inverse, as b^254 = b^2 • b^4 • .. • b^128; 0 is kept
unfoldable pub inverse : ℕ → ℕ
unfolding ◌•◌ squares
inverse b = squares 7 (b • b)
