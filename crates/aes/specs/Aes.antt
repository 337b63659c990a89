-- AES under a key: FIPS 197's Cipher and InvCipher with the round keys of its key expansion. What the layers above cite of the rooms below
-- they take from here: `key_size`, which keys are taken; and `round_keys`, `Nr` and `crypted`, in which the code's calls speak.
-- Assumes nothing.
use Rattle.std.specs.Prelude.{Bool, List, ℕ}
pub use Rattle.schedule.specs.Size.{key_size, Nr}
pub use Rattle.schedule.specs.KeyExpansion.{round_keys}
pub use Rattle.cipher.specs.Cipher.{crypted}

-- one block, enciphered, or with `back` deciphered
unfoldable pub aes : Bool → List ℕ → List ℕ → List ℕ
aes back key b = crypted back (round_keys key) (Nr key) b
