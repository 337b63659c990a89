-- FIPS 197, 5.1 and 5.3: Cipher and InvCipher, over the round keys `keys` and the number of rounds `nr`.
-- Assumes nothing.
use Rattle.std.specs.Prelude.{Bool, true, false, List, [], ℕ, zero, suc, ◌-◌, get_or}
use Rattle.sbox.specs.Sub.{sub_bytes, inv_sub_bytes}
use Rattle.rounds.specs.Steps.{shift_rows, inv_shift_rows, mix_columns, inv_mix_columns, add_round_key}

-- the round key of round j
abbrev pub round_key : List (List ℕ) → ℕ → List ℕ
round_key keys j = get_or keys j []

-- 5.1: rounds 1 to j
unfoldable pub through_rounds : List (List ℕ) → ℕ → List ℕ → List ℕ
through_rounds keys zero s = s
through_rounds keys (suc j) s = add_round_key (mix_columns (shift_rows (sub_bytes (through_rounds keys j s)))) (round_key keys (suc j))

-- 5.1: the last round has no MixColumns
unfoldable pub cipher : List (List ℕ) → ℕ → List ℕ → List ℕ
cipher keys nr b = add_round_key (shift_rows (sub_bytes (through_rounds keys (nr - 1) (add_round_key b (round_key keys 0))))) (round_key keys nr)

-- 5.3: what rounds j to 0 of the inverse make of a state
unfoldable pub inverse_from : List (List ℕ) → ℕ → List ℕ → List ℕ
inverse_from keys zero s = add_round_key (inv_sub_bytes (inv_shift_rows s)) (round_key keys 0)
inverse_from keys (suc j) s = inverse_from keys j (inv_mix_columns (add_round_key (inv_sub_bytes (inv_shift_rows s)) (round_key keys (suc j))))

unfoldable pub inv_cipher : List (List ℕ) → ℕ → List ℕ → List ℕ
inv_cipher keys nr b = inverse_from keys (nr - 1) (add_round_key b (round_key keys nr))

-- one block, enciphered, or with `back` deciphered
abbrev pub crypted : Bool → List (List ℕ) → ℕ → List ℕ → List ℕ
crypted false keys nr b = cipher keys nr b
crypted true keys nr b = inv_cipher keys nr b
