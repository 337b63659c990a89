-- FIPS 197, 5.1.1, 5.2 and 5.3.2: SubBytes, SubWord and InvSubBytes, by the tables.
-- Assumes nothing.
use Rattle.std.specs.Prelude.{List, ℕ}
use Rattle.block.specs.Tab.{tab, byte}
use Rattle.sbox.specs.Tables.{sbox, inv_sbox}

-- the substitution of one byte, and its inverse
unfoldable pub sub : ℕ → ℕ
sub x = byte sbox x

unfoldable pub inv_sub : ℕ → ℕ
inv_sub x = byte inv_sbox x

-- what the table t has for each of the first n bytes of s
abbrev pub looked_up : ℕ → List ℕ → List ℕ → List ℕ
looked_up n t s = tab n (λ i. byte t (byte s i))

unfoldable pub sub_bytes : List ℕ → List ℕ
sub_bytes s = tab 16 (λ i. sub (byte s i))

unfoldable pub inv_sub_bytes : List ℕ → List ℕ
inv_sub_bytes s = tab 16 (λ i. inv_sub (byte s i))

unfoldable pub sub_word : List ℕ → List ℕ
sub_word w = tab 4 (λ i. sub (byte w i))
