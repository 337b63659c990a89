-- A unit over a small permutation and its inverse, against a program written from IEEE 1619-2007 that gives the standard's vectors 1 to 19 both
-- ways, a line for each block: one block, stealing at both ends of a short block's length, full blocks, and stealing after a block that can be
-- read alone; enciphered, and deciphered. The tweak loses a bit at its high end when it is doubled the first time.
-- Assumes nothing.
use Rattle.std.specs.Prelude.{◌≡◌, refl, true, false, List, [], ◌∷◌, ℕ, ◌+◌, ◌*◌, ◌%◌}
use Rattle.std.specs.Int.Bits.{bit_xor}
use Rattle.block.specs.Tab.{tab, byte}
use Rattle.block.specs.Xor.{◌⊕◌}
use Rattle.block.specs.Blocks.{blocks, join}
use Rattle.block.specs.Double.{double, doubles}
use Rattle.unit.specs.Unit.{alone, xts_block, xts_blocks, stolen, last_two, xts_unit}

-- each byte moved down by one place and xored with its own number, and back
toy : List ℕ → List ℕ
toy b = tab 16 (λ i. bit_xor ((17 * i + 3) % 256) (byte b ((i + 1) % 16)))

untoy : List ℕ → List ℕ
untoy b = tab 16 (λ i. bit_xor ((17 * ((i + 15) % 16) + 3) % 256) (byte b ((i + 15) % 16)))

T : List ℕ
T = tab 16 (λ i. (205 + 13 * i) % 256)

message : ℕ → List ℕ
message n = tab n (λ i. (i * 5 + 1) % 256)

one_block : xts_unit toy false T (message 16)
    ≡ 18 ∷ 34 ∷ 38 ∷ 214 ∷ 82 ∷ 82 ∷ 126 ∷ 78 ∷ 210 ∷ 162 ∷ 134 ∷ 182 ∷ 146 ∷ 82 ∷ 174 ∷ 94 ∷ []
unfolding toy untoy T message ◌⊕◌ blocks join double doubles alone xts_block xts_blocks stolen last_two xts_unit
one_block = refl

one_byte_more : xts_unit toy false T (message 17)
    ≡ 137 ∷ 72 ∷ 213 ∷ 142 ∷ 10 ∷ 12 ∷ 65 ∷ 146 ∷ 199 ∷ 0 ∷ 61 ∷ 70 ∷ 163 ∷ 164 ∷ 136 ∷ 111
    ∷ 18 ∷ []
unfolding toy untoy T message ◌⊕◌ blocks join double doubles alone xts_block xts_blocks stolen last_two xts_unit
one_byte_more = refl

one_byte_fewer : xts_unit toy false T (message 31)
    ≡ 253 ∷ 53 ∷ 99 ∷ 185 ∷ 50 ∷ 29 ∷ 123 ∷ 57 ∷ 27 ∷ 5 ∷ 3 ∷ 89 ∷ 99 ∷ 157 ∷ 136 ∷ 111
    ∷ 18 ∷ 34 ∷ 38 ∷ 214 ∷ 82 ∷ 82 ∷ 126 ∷ 78 ∷ 210 ∷ 162 ∷ 134 ∷ 182 ∷ 146 ∷ 82 ∷ 174 ∷ []
unfolding toy untoy T message ◌⊕◌ blocks join double doubles alone xts_block xts_blocks stolen last_two xts_unit
one_byte_fewer = refl

two_blocks : xts_unit toy false T (message 32)
    ≡ 18 ∷ 34 ∷ 38 ∷ 214 ∷ 82 ∷ 82 ∷ 126 ∷ 78 ∷ 210 ∷ 162 ∷ 134 ∷ 182 ∷ 146 ∷ 82 ∷ 174 ∷ 94
    ∷ 253 ∷ 53 ∷ 99 ∷ 185 ∷ 50 ∷ 29 ∷ 123 ∷ 57 ∷ 27 ∷ 5 ∷ 3 ∷ 89 ∷ 99 ∷ 157 ∷ 74 ∷ 111 ∷ []
unfolding toy untoy T message ◌⊕◌ blocks join double doubles alone xts_block xts_blocks stolen last_two xts_unit
two_blocks = refl

after_a_block : xts_unit toy false T (message 37)
    ≡ 18 ∷ 34 ∷ 38 ∷ 214 ∷ 82 ∷ 82 ∷ 126 ∷ 78 ∷ 210 ∷ 162 ∷ 134 ∷ 182 ∷ 146 ∷ 82 ∷ 174 ∷ 94
    ∷ 245 ∷ 74 ∷ 217 ∷ 87 ∷ 101 ∷ 119 ∷ 156 ∷ 21 ∷ 82 ∷ 170 ∷ 184 ∷ 9 ∷ 46 ∷ 126 ∷ 209 ∷ 219
    ∷ 253 ∷ 53 ∷ 99 ∷ 185 ∷ 50 ∷ []
unfolding toy untoy T message ◌⊕◌ blocks join double doubles alone xts_block xts_blocks stolen last_two xts_unit
after_a_block = refl

one_block_back : xts_unit untoy true T (message 16)
    ≡ 19 ∷ 21 ∷ 47 ∷ 61 ∷ 211 ∷ 93 ∷ 87 ∷ 69 ∷ 67 ∷ 213 ∷ 191 ∷ 141 ∷ 179 ∷ 237 ∷ 87 ∷ 165 ∷ []
unfolding toy untoy T message ◌⊕◌ blocks join double doubles alone xts_block xts_blocks stolen last_two xts_unit
one_block_back = refl

one_byte_more_back : xts_unit untoy true T (message 17)
    ≡ 206 ∷ 69 ∷ 131 ∷ 94 ∷ 203 ∷ 132 ∷ 0 ∷ 50 ∷ 119 ∷ 152 ∷ 221 ∷ 22 ∷ 51 ∷ 60 ∷ 217 ∷ 170
    ∷ 114 ∷ []
unfolding toy untoy T message ◌⊕◌ blocks join double doubles alone xts_block xts_blocks stolen last_two xts_unit
one_byte_more_back = refl

one_byte_fewer_back : xts_unit untoy true T (message 31)
    ≡ 206 ∷ 69 ∷ 127 ∷ 109 ∷ 163 ∷ 45 ∷ 39 ∷ 53 ∷ 19 ∷ 133 ∷ 239 ∷ 61 ∷ 3 ∷ 93 ∷ 135 ∷ 117
    ∷ 114 ∷ 170 ∷ 104 ∷ 8 ∷ 204 ∷ 77 ∷ 104 ∷ 16 ∷ 100 ∷ 76 ∷ 168 ∷ 184 ∷ 236 ∷ 204 ∷ 72 ∷ []
unfolding toy untoy T message ◌⊕◌ blocks join double doubles alone xts_block xts_blocks stolen last_two xts_unit
one_byte_fewer_back = refl

after_a_block_back : xts_unit untoy true T (message 37)
    ≡ 19 ∷ 21 ∷ 47 ∷ 61 ∷ 211 ∷ 93 ∷ 87 ∷ 69 ∷ 67 ∷ 213 ∷ 191 ∷ 141 ∷ 179 ∷ 237 ∷ 87 ∷ 165
    ∷ 23 ∷ 10 ∷ 200 ∷ 168 ∷ 108 ∷ 237 ∷ 111 ∷ 105 ∷ 138 ∷ 31 ∷ 168 ∷ 92 ∷ 182 ∷ 19 ∷ 52 ∷ 112
    ∷ 230 ∷ 2 ∷ 183 ∷ 50 ∷ 130 ∷ []
unfolding toy untoy T message ◌⊕◌ blocks join double doubles alone xts_block xts_blocks stolen last_two xts_unit
after_a_block_back = refl
