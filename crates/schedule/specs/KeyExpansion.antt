-- FIPS 197, 5.2: the key schedule, as the bytes of its words one after the other, and the round keys that it makes.
-- Assumes nothing.
use Rattle.std.specs.Prelude.{cond, ◌&&◌, List, [], ◌∷◌, ◌++◌, ℕ, zero, suc, ◌+◌, ◌-◌, ◌*◌, ◌/◌, ◌%◌, ltb, eqb, take, drop, replicate}
use Rattle.block.specs.Tab.{tab, byte}
use Rattle.block.specs.Xor.{◌⊕◌}
use Rattle.block.specs.Blocks.{block_at}
use Rattle.sbox.specs.Sub.{sub_word}
use Rattle.schedule.specs.Size.{Nk, Nr}

-- w[i], 4 bytes
abbrev pub word : List ℕ → ℕ → List ℕ
word w i = take 4 (drop (4 * i) w)

-- the round constants: the first byte of Rcon[j], of which the others are 0, stands at place j - 1
abbrev pub rcon : List ℕ
rcon = 0x01 ∷ 0x02 ∷ 0x04 ∷ 0x08 ∷ 0x10 ∷ 0x20 ∷ 0x40 ∷ 0x80 ∷ 0x1b ∷ 0x36 ∷ []

abbrev pub Rcon : ℕ → List ℕ
Rcon j = byte rcon (j - 1) ∷ 0 ∷ 0 ∷ 0 ∷ []

-- RotWord: [a0, a1, a2, a3] gives [a1, a2, a3, a0]
unfoldable pub rot_word : List ℕ → List ℕ
rot_word w = tab 4 (λ i. byte w ((i + 1) % 4))

-- what w[i - Nk] is xored with: w[i - 1], changed where i is a multiple of Nk, and where Nk > 6 in the middle between two
unfoldable pub temp : ℕ → ℕ → List ℕ → List ℕ
temp nk i t =
    cond (eqb (i % nk) 0) (sub_word (rot_word t) ⊕ Rcon (i / nk))
    (cond (ltb 6 nk && eqb (i % nk) 4) (sub_word t) t)

unfoldable pub next_word : ℕ → ℕ → List ℕ → List ℕ
next_word nk i w = word w (i - nk) ⊕ temp nk i (word w (i - 1))

-- the key's nk words and n more
unfoldable pub expanded : ℕ → List ℕ → ℕ → List ℕ
expanded nk key zero = key
expanded nk key (suc n) = expanded nk key n ++ next_word nk (nk + n) (expanded nk key n)

-- all 4 * (Nr + 1) words
unfoldable pub key_expansion : List ℕ → List ℕ
key_expansion key = expanded (Nk key) key (4 * (Nr key + 1) - Nk key)

-- the round keys, words w[4j] to w[4j + 3] the one of round j, in a table of 15; those past round Nr are 0
unfoldable pub round_keys : List ℕ → List (List ℕ)
round_keys key = tab 15 (λ j. block_at (key_expansion key ++ replicate (240 - 16 * (Nr key + 1)) 0) (16 * j))
