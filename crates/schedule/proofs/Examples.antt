-- Worked examples of FIPS 197, as theorems over the definitions: the round constants, and words of appendix A's schedules.
-- Assumes nothing.
use Rattle.std.specs.Prelude.{◌≡◌, refl, List, [], ◌∷◌, ℕ, zero, suc}
use Rattle.block.specs.Tab.{tab}
use Rattle.block.specs.Xor.{◌⊕◌}
use Rattle.sbox.specs.Field.{xtime}
use Rattle.sbox.specs.Sub.{sub, sub_word}
use Rattle.schedule.specs.KeyExpansion.{word, rcon, rot_word, temp, next_word, expanded}

-- 5.2: the constant of round j is x^(j - 1)
power : ℕ → ℕ
power zero = 1
power (suc n) = xtime (power n)

round_constants : rcon ≡ tab 10 power
unfolding power
round_constants = refl

-- A.1: the key of 16 bytes, and w[4]; A.3: the key of 32 bytes, w[8] and w[12]
key128 : List ℕ
key128 = 0x2b ∷ 0x7e ∷ 0x15 ∷ 0x16 ∷ 0x28 ∷ 0xae ∷ 0xd2 ∷ 0xa6 ∷ 0xab ∷ 0xf7 ∷ 0x15 ∷ 0x88 ∷ 0x09 ∷ 0xcf ∷ 0x4f ∷ 0x3c ∷ []

key256 : List ℕ
key256 =
    0x60 ∷ 0x3d ∷ 0xeb ∷ 0x10 ∷ 0x15 ∷ 0xca ∷ 0x71 ∷ 0xbe ∷ 0x2b ∷ 0x73 ∷ 0xae ∷ 0xf0 ∷ 0x85 ∷ 0x7d ∷ 0x77 ∷ 0x81 ∷
    0x1f ∷ 0x35 ∷ 0x2c ∷ 0x07 ∷ 0x3b ∷ 0x61 ∷ 0x08 ∷ 0xd7 ∷ 0x2d ∷ 0x98 ∷ 0x10 ∷ 0xa3 ∷ 0x09 ∷ 0x14 ∷ 0xdf ∷ 0xf4 ∷ []

w4 : word (expanded 4 key128 1) 4 ≡ 0xa0 ∷ 0xfa ∷ 0xfe ∷ 0x17 ∷ []
unfolding key128 sub sub_word rot_word temp next_word expanded ◌⊕◌
w4 = refl

w8 : word (expanded 8 key256 1) 8 ≡ 0x9b ∷ 0xa3 ∷ 0x54 ∷ 0x11 ∷ []
unfolding key256 sub sub_word rot_word temp next_word expanded ◌⊕◌
w8 = refl

w12 : word (expanded 8 key256 5) 12 ≡ 0xa8 ∷ 0xb0 ∷ 0x9c ∷ 0x1a ∷ []
unfolding key256 sub sub_word rot_word temp next_word expanded ◌⊕◌
w12 = refl
