-- FIPS 197, 5.1 and 5.3: the steps of a round and of an inverse round. The state is a list of 16 bytes, column after column: the
-- byte in row r and column c, s[r,c], stands at place r + 4 * c (3.4), so row and column of place i are i % 4 and i / 4.
-- Assumes nothing.
use Rattle.std.specs.Prelude.{List, ℕ, ◌+◌, ◌*◌, ◌/◌, ◌%◌}
use Rattle.std.specs.Int.Bits.{bit_xor}
use Rattle.block.specs.Tab.{tab, byte}
use Rattle.block.specs.Xor.{◌⊕◌}
use Rattle.sbox.specs.Field.{xtime, ◌•◌}

-- the place of row r and column c, and s[r,c]
abbrev pub place : ℕ → ℕ → ℕ
place r c = r + 4 * c

abbrev pub at : List ℕ → ℕ → ℕ → ℕ
at s r c = byte s (place r c)

-- 5.1.2, ShiftRows: s'[r,c] = s[r, (c + r) mod 4]
abbrev pub shifted : ℕ → ℕ
shifted i = place (i % 4) ((i / 4 + i % 4) % 4)

unfoldable pub shift_rows : List ℕ → List ℕ
shift_rows s = tab 16 (λ i. byte s (shifted i))

-- 5.3.1, InvShiftRows: s'[r,c] = s[r, (c - r) mod 4]; 3 * r is - r modulo 4
abbrev pub shifted_back : ℕ → ℕ
shifted_back i = place (i % 4) ((i / 4 + 3 * (i % 4)) % 4)

unfoldable pub inv_shift_rows : List ℕ → List ℕ
inv_shift_rows s = tab 16 (λ i. byte s (shifted_back i))

-- 5.1.3 and 5.3.3, each column times a fixed polynomial: in row r the sum of a • s[r,c], b • s[r+1,c], d • s[r+2,c] and
-- e • s[r+3,c], rows modulo 4
unfoldable pub columns_times : ℕ → ℕ → ℕ → ℕ → List ℕ → List ℕ
columns_times a b d e s =
    tab 16
    (λ i.
    let r : ℕ = i % 4 in
    let c : ℕ = i / 4 in
    bit_xor (a • at s r c) (bit_xor (b • at s ((r + 1) % 4) c) (bit_xor (d • at s ((r + 2) % 4) c) (e • at s ((r + 3) % 4) c))))

-- 5.1.3, MixColumns
unfoldable pub mix_columns : List ℕ → List ℕ
mix_columns s = columns_times 0x02 0x03 0x01 0x01 s

-- 5.3.3, InvMixColumns
unfoldable pub inv_mix_columns : List ℕ → List ℕ
inv_mix_columns s = columns_times 0x0e 0x0b 0x0d 0x09 s

-- 5.1.4, AddRoundKey, its own inverse
abbrev pub add_round_key : List ℕ → List ℕ → List ℕ
add_round_key s k = s ⊕ k

-- what the code makes the columns' products of: each byte times x, and each column moved up by one row
abbrev pub each_times_x : List ℕ → List ℕ
each_times_x s = tab 16 (λ i. xtime (byte s i))

abbrev pub columns_turned : List ℕ → List ℕ
columns_turned s = tab 16 (λ i. at s ((i % 4 + 1) % 4) (i / 4))
