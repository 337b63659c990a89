-- The wide block over a small permutation, against what the second implementation (host/rust, written apart from document 000) makes of
-- the same input, a line for each block: one block, a short last block, full blocks, and a new mask at block 129, with and without a short block
-- after it; and T_star.
-- Assumes nothing.
use Rattle.std.specs.Prelude.{◌≡◌, refl, List, [], ◌∷◌, ℕ, ◌+◌, ◌*◌, ◌%◌, drop}
use Rattle.std.specs.Int.Bits.{bit_xor}
use Rattle.block.specs.Tab.{tab, byte}
use Rattle.block.specs.Xor.{◌⊕◌}
use Rattle.block.specs.Blocks.{blocks, join}
use Rattle.block.specs.Double.{double, doubles, pad}
use Rattle.mode.specs.TStar.{TTs, short_tt, sum, some_t_star, t_star, eme2_t_star}
use Rattle.mode.specs.Wide.{enter, leave, total, padded, middle, MP, Cm, CCCs, CCC1, wide_on, wide}

-- each byte moved down by one place and xored with its own number
toy : List ℕ → List ℕ
toy b = tab 16 (λ i. bit_xor ((17 * i + 3) % 256) (byte b ((i + 1) % 16)))

L : List ℕ
L = tab 16 (λ i. (200 + 7 * i) % 256)

T : List ℕ
T = tab 16 (λ i. (90 + 11 * i) % 256)

message : ℕ → List ℕ
message n = tab n (λ i. (i * 5 + 1) % 256)

one_block : wide toy L T (message 16) ≡ 34 ∷ 50 ∷ 142 ∷ 14 ∷ 66 ∷ 178 ∷ 86 ∷ 166 ∷ 226 ∷ 178 ∷ 190 ∷ 222 ∷ 162 ∷ 242 ∷ 182 ∷ 198 ∷ []
unfolding toy L T message ◌⊕◌ blocks join double pad enter leave total padded middle MP Cm CCCs CCC1 wide_on wide
one_block = refl

one_byte_more : wide toy L T (message 17)
    ≡ 163 ∷ 136 ∷ 221 ∷ 90 ∷ 247 ∷ 44 ∷ 209 ∷ 110 ∷ 75 ∷ 48 ∷ 101 ∷ 34 ∷ 31 ∷ 5 ∷ 9 ∷ 152
    ∷ 126 ∷ []
unfolding toy L T message ◌⊕◌ blocks join double pad enter leave total padded middle MP Cm CCCs CCC1 wide_on wide
one_byte_more = refl

two_blocks : wide toy L T (message 32)
    ≡ 70 ∷ 156 ∷ 90 ∷ 209 ∷ 174 ∷ 236 ∷ 97 ∷ 160 ∷ 102 ∷ 237 ∷ 139 ∷ 33 ∷ 47 ∷ 221 ∷ 225 ∷ 71
    ∷ 9 ∷ 191 ∷ 166 ∷ 128 ∷ 140 ∷ 211 ∷ 64 ∷ 140 ∷ 1 ∷ 198 ∷ 159 ∷ 72 ∷ 117 ∷ 74 ∷ 56 ∷ 3 ∷ []
unfolding toy L T message ◌⊕◌ blocks join double pad enter leave total padded middle MP Cm CCCs CCC1 wide_on wide
two_blocks = refl

short_block : wide toy L T (message 47)
    ≡ 10 ∷ 99 ∷ 129 ∷ 124 ∷ 230 ∷ 132 ∷ 166 ∷ 152 ∷ 162 ∷ 122 ∷ 233 ∷ 116 ∷ 107 ∷ 96 ∷ 179 ∷ 246
    ∷ 239 ∷ 55 ∷ 69 ∷ 68 ∷ 194 ∷ 241 ∷ 170 ∷ 48 ∷ 118 ∷ 255 ∷ 44 ∷ 157 ∷ 82 ∷ 152 ∷ 91 ∷ 111
    ∷ 74 ∷ 127 ∷ 24 ∷ 249 ∷ 190 ∷ 155 ∷ 228 ∷ 156 ∷ 147 ∷ 198 ∷ 225 ∷ 208 ∷ 183 ∷ 146 ∷ 97 ∷ []
unfolding toy L T message ◌⊕◌ blocks join double pad enter leave total padded middle MP Cm CCCs CCC1 wide_on wide
short_block = refl

new_mask : drop 2031 (wide toy L T (message 2064))
    ≡ 7
    ∷ 60 ∷ 100 ∷ 159 ∷ 28 ∷ 246 ∷ 111 ∷ 165 ∷ 150 ∷ 2 ∷ 2 ∷ 146 ∷ 19 ∷ 29 ∷ 51 ∷ 252 ∷ 119
    ∷ 240 ∷ 55 ∷ 203 ∷ 216 ∷ 78 ∷ 252 ∷ 2 ∷ 97 ∷ 55 ∷ 132 ∷ 67 ∷ 128 ∷ 105 ∷ 243 ∷ 158 ∷ 241 ∷ []
unfolding toy L T message ◌⊕◌ blocks join double pad enter leave total padded middle MP Cm CCCs CCC1 wide_on wide
new_mask = refl

new_mask_and_short : drop 2051 (wide toy L T (message 2084))
    ≡ 192 ∷ 190 ∷ 44 ∷ 145 ∷ 166 ∷ 102 ∷ 14 ∷ 178 ∷ 22 ∷ 135 ∷ 28 ∷ 129 ∷ 45
    ∷ 208 ∷ 156 ∷ 109 ∷ 77 ∷ 13 ∷ 54 ∷ 60 ∷ 124 ∷ 16 ∷ 183 ∷ 166 ∷ 168 ∷ 102 ∷ 14 ∷ 68 ∷ 133
    ∷ 137 ∷ 10 ∷ 168 ∷ 43 ∷ []
unfolding toy L T message ◌⊕◌ blocks join double pad enter leave total padded middle MP Cm CCCs CCC1 wide_on wide
new_mask_and_short = refl

-- ---- T_star, against the same

Key3 : List ℕ
Key3 = tab 16 (λ i. (33 + 25 * i) % 256)

data_of : ℕ → List ℕ
data_of n = tab n (λ i. (i * 7 + 2) % 256)

no_data : eme2_t_star toy Key3 (data_of 0) ≡ 57 ∷ 71 ∷ 73 ∷ 179 ∷ 217 ∷ 239 ∷ 185 ∷ 147 ∷ 137 ∷ 135 ∷ 153 ∷ 243 ∷ 169 ∷ 159 ∷ 105 ∷ 35 ∷ []
unfolding toy Key3 data_of ◌⊕◌ blocks double pad total TTs doubles short_tt sum some_t_star t_star
no_data = refl

short_data : eme2_t_star toy Key3 (data_of 5) ≡ 105 ∷ 161 ∷ 207 ∷ 140 ∷ 168 ∷ 252 ∷ 245 ∷ 159 ∷ 39 ∷ 251 ∷ 17 ∷ 90 ∷ 98 ∷ 132 ∷ 109 ∷ 235 ∷ []
unfolding toy Key3 data_of ◌⊕◌ blocks double pad total TTs doubles short_tt sum some_t_star t_star
short_data = refl

one_block_of_data : eme2_t_star toy Key3 (data_of 16) ≡ 187 ∷ 214 ∷ 76 ∷ 250 ∷ 85 ∷ 38 ∷ 148 ∷ 50 ∷ 28 ∷ 231 ∷ 188 ∷ 26 ∷ 196 ∷ 182 ∷ 84 ∷ 245 ∷ []
unfolding toy Key3 data_of ◌⊕◌ blocks double pad total TTs doubles short_tt sum some_t_star t_star
one_block_of_data = refl

data_and_short : eme2_t_star toy Key3 (data_of 20) ≡ 6 ∷ 8 ∷ 21 ∷ 5 ∷ 205 ∷ 54 ∷ 196 ∷ 131 ∷ 206 ∷ 180 ∷ 105 ∷ 109 ∷ 80 ∷ 159 ∷ 157 ∷ 82 ∷ []
unfolding toy Key3 data_of ◌⊕◌ blocks double pad total TTs doubles short_tt sum some_t_star t_star
data_and_short = refl

two_blocks_of_data : eme2_t_star toy Key3 (data_of 32) ≡ 162 ∷ 231 ∷ 19 ∷ 230 ∷ 232 ∷ 70 ∷ 194 ∷ 7 ∷ 138 ∷ 164 ∷ 18 ∷ 134 ∷ 107 ∷ 230 ∷ 226 ∷ 110 ∷ []
unfolding toy Key3 data_of ◌⊕◌ blocks double pad total TTs doubles short_tt sum some_t_star t_star
two_blocks_of_data = refl

two_blocks_and_short : eme2_t_star toy Key3 (data_of 37) ≡ 65 ∷ 150 ∷ 55 ∷ 189 ∷ 145 ∷ 143 ∷ 217 ∷ 235 ∷ 178 ∷ 166 ∷ 78 ∷ 170 ∷ 19 ∷ 148 ∷ 98 ∷ 166 ∷ []
unfolding toy Key3 data_of ◌⊕◌ blocks double pad total TTs doubles short_tt sum some_t_star t_star
two_blocks_and_short = refl
