-- EME2-AES of a message (000, as 01 scopes it): the key's fields, the refusals in 01's order, and the message afterwards.
-- Assumes nothing.
use Rattle.std.specs.Prelude.{Bool, false, cond, not, ◌||◌, List, ℕ, ◌-◌, eqb, ltb, length, take, drop}
use Rattle.numbers.specs.declared.Refusal.TheVariants.{KeyLength, MessageLength, DataLength}
use Rattle.numbers.specs.Numbers.{paper}
use Rattle.aes.specs.Aes.{key_size, aes}
use Rattle.mode.specs.Wide.{wide}
use Rattle.mode.specs.TStar.{eme2_t_star}

-- the last 16 key bytes are Key3, the 16 before them Key2, the rest Key1: an AES key
abbrev pub Key1 : List ℕ → List ℕ
Key1 k = take (length k - 32) k

abbrev pub Key2 : List ℕ → List ℕ
Key2 k = take 16 (drop (length k - 32) k)

abbrev pub Key3 : List ℕ → List ℕ
Key3 k = drop (length k - 16) k

-- a key that is taken, of 48 or 64 bytes: what is left for Key1 is a key of AES
abbrev pub key_taken : List ℕ → Bool
key_taken k = key_size (length k - 32)

-- a message below 16 bytes or above 65,536, and associated data above 1,024
unfoldable pub bad_message : List ℕ → Bool
bad_message m = ltb (length m) 16 || ltb 65536 (length m)

unfoldable pub bad_data : List ℕ → Bool
bad_data ad = ltb 1024 (length ad)

-- the numbers of 01 in their order
unfoldable pub number : List ℕ → List ℕ → List ℕ → ℕ
number k ad m = cond (not (key_taken k)) (paper KeyLength) (cond (bad_message m) (paper MessageLength) (cond (bad_data ad) (paper DataLength) 0))

-- enciphering, or with `back` deciphering; T_star is made with Enc either way
unfoldable pub eme2 : Bool → List ℕ → List ℕ → List ℕ → List ℕ
eme2 back k ad m = wide (aes back (Key1 k)) (Key2 k) (eme2_t_star (aes false (Key1 k)) (Key3 k) ad) m

-- the message afterwards: as it was if the call is refused
unfoldable pub afterwards : Bool → List ℕ → List ℕ → List ℕ → List ℕ
afterwards back k ad m = cond (eqb (number k ad m) 0) (eme2 back k ad m) m
