-- Words made of others by xor, masks and shifts: how planes are turned. Each bit of such a word is a sum of bits of those that it is made of.
-- Assumes nothing.
use Rattle.std.specs.Prelude.{List, [], ◌∷◌, map, ℕ, ◌*◌, ◌/◌, ◌%◌, ◌^◌, get_or}
use Rattle.std.specs.Int.Bits.{bit_xor, bit_and}

pub data Wire : Type 0 where
  input : ℕ → Wire
  xor : Wire → Wire → Wire
  mask : Wire → ℕ → Wire
  right : Wire → ℕ → Wire
  left : Wire → ℕ → Wire

-- the word that it is of the words ws
abbrev pub value : List ℕ → Wire → ℕ
value ws (input i) = get_or ws i 0
value ws (xor a b) = bit_xor (value ws a) (value ws b)
value ws (mask a m) = bit_and (value ws a) m
value ws (right a s) = value ws a / 2 ^ s
value ws (left a s) = value ws a * 2 ^ s % 2 ^ 32

abbrev pub wired : List Wire → List ℕ → List ℕ
wired l ws = map (value ws) l

-- two wires with the bits that lie s apart exchanged: those of a above for those of b below, where m has a bit
abbrev pub lower : ℕ → ℕ → Wire → Wire → Wire
lower s m a b = xor a (left (mask (xor (right a s) b) m) s)

abbrev pub upper : ℕ → ℕ → Wire → Wire → Wire
upper s m a b = xor b (mask (xor (right a s) b) m)

abbrev pub flip_ones : List Wire
flip_ones =
    lower 1 0x55555555 (input 0) (input 1)
    ∷ upper 1 0x55555555 (input 0) (input 1)
    ∷ lower 1 0x55555555 (input 2) (input 3)
    ∷ upper 1 0x55555555 (input 2) (input 3)
    ∷ lower 1 0x55555555 (input 4) (input 5)
    ∷ upper 1 0x55555555 (input 4) (input 5)
    ∷ lower 1 0x55555555 (input 6) (input 7)
    ∷ upper 1 0x55555555 (input 6) (input 7)
    ∷ []

abbrev pub flip_twos : List Wire
flip_twos =
    lower 2 0x33333333 (input 0) (input 2)
    ∷ lower 2 0x33333333 (input 1) (input 3)
    ∷ upper 2 0x33333333 (input 0) (input 2)
    ∷ upper 2 0x33333333 (input 1) (input 3)
    ∷ lower 2 0x33333333 (input 4) (input 6)
    ∷ lower 2 0x33333333 (input 5) (input 7)
    ∷ upper 2 0x33333333 (input 4) (input 6)
    ∷ upper 2 0x33333333 (input 5) (input 7)
    ∷ []

abbrev pub flip_fours : List Wire
flip_fours =
    lower 4 0x0f0f0f0f (input 0) (input 4)
    ∷ lower 4 0x0f0f0f0f (input 1) (input 5)
    ∷ lower 4 0x0f0f0f0f (input 2) (input 6)
    ∷ lower 4 0x0f0f0f0f (input 3) (input 7)
    ∷ upper 4 0x0f0f0f0f (input 0) (input 4)
    ∷ upper 4 0x0f0f0f0f (input 1) (input 5)
    ∷ upper 4 0x0f0f0f0f (input 2) (input 6)
    ∷ upper 4 0x0f0f0f0f (input 3) (input 7)
    ∷ []

-- bit 0 of each byte of eight words, as the eight bits of the byte
abbrev pub merge : Wire
merge =
    xor
    (xor
    (xor
    (xor
    (xor (xor (xor (low 0) (left (low 1) 1)) (left (low 2) 2)) (left (low 3) 3))
    (left (low 4) 4))
    (left (low 5) 5))
    (left (low 6) 6))
    (left (low 7) 7)
  where
    low : ℕ → Wire
    low i = mask (input i) 0x01010101
