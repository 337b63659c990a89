-- 000, 5.1 (Mult-by-alpha), and 01: doubling of a block, and padding of a short one.
-- Assumes nothing.
use Rattle.std.specs.Prelude.{ℕ, zero, suc, ◌+◌, ◌-◌, ◌%◌, cond, List, ◌∷◌, ◌++◌, length, replicate, bit_xor, nat_lt}
use Rattle.block.specs.Tab.{tab, byte}

-- x where y > 127, and else 0
abbrev pub carried : ℕ → ℕ → ℕ
carried y x = cond (nat_lt 127 y) x 0

-- byte i of the result, before byte 0 is xored: twice X[i] with the carry out of the byte dropped, plus 1 if i > 0 and X[i-1] > 127
abbrev pub twice : List ℕ → ℕ → ℕ
twice X zero = (byte X 0 + byte X 0) % 256
twice X (suc i) = (byte X (suc i) + byte X (suc i)) % 256 + carried (byte X i) 1

-- if X[15] > 127, byte 0 is then xored with 87 hex
unfoldable pub double : List ℕ → List ℕ
double X = bit_xor (twice X 0) (carried (byte X 15) 0x87) ∷ tab 15 (λ i. twice X (suc i))

-- X doubled n times
unfoldable pub doubles : ℕ → List ℕ → List ℕ
doubles zero X = X
doubles (suc n) X = doubles n (double X)

-- a short block gets one byte 80 hex, then zeros, up to 16
unfoldable pub pad : List ℕ → List ℕ
pad b = b ++ (0x80 ∷ replicate (15 - length b) 0)
