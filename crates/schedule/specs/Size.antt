-- FIPS 197, 5, table 3, for the key sizes that 01 takes. All else is over Nk, so that another size is one more number here.
-- Assumes nothing.
use Rattle.std.specs.Prelude.{Bool, ◌||◌, List, ℕ, ◌+◌, ◌/◌, eqb, length}

-- the lengths of a key in bytes
abbrev pub key_size : ℕ → Bool
key_size n = eqb n 16 || eqb n 32

-- Nk, the words of a key; Nr, the rounds
abbrev pub Nk : List ℕ → ℕ
Nk key = length key / 4

abbrev pub Nr : List ℕ → ℕ
Nr key = Nk key + 6
