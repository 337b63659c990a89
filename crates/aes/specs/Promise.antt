-- What the layers above go by, and all that they go by: how long a taken key is, what a block call gives, and of every key that is taken
-- that a block stays a block and each direction undoes the other. They never open `aes`.
-- Assumes nothing.
use Rattle.std.specs.Prelude.{◌≡◌, refl, Bool, true, not, List, ℕ, ◌≤◌, length}
use Rattle.std.proofs.Common.{arith}
use Rattle.block.specs.Bytes.{Bytes, Block}
use Rattle.schedule.proofs.Laws.{key_sizes, round_keys_blocks}
use Rattle.cipher.proofs.Undo.{Keys, block_crypted, crypted_undone, length-crypted as length_of_cipher}
use Rattle.aes.specs.Aes.{key_size, Nr, round_keys, crypted, aes}

-- a key that is taken has 16 to 32 bytes
pub key_bounds : (n : ℕ) → key_size n ≡ true → (16 ≤ n) × (n ≤ 32)
key_bounds n e = omega (arith, key_sizes n e)

-- keys of 16 and 32 bytes are taken, whatever others are
pub taken_16 : key_size 16 ≡ true
taken_16 = refl

pub taken_32 : key_size 32 ≡ true
taken_32 = refl

-- `crypt`, and `crypt_blocks` of each block, gives 16 bytes, whatever the round keys, their number and the block
pub length-crypted : (back : Bool) (keys : List (List ℕ)) (nr : ℕ) (b : List ℕ) → length (crypted back keys nr b) ≡ 16
length-crypted back keys nr b = length_of_cipher back keys nr b

-- what they make of a block with the round keys and the number of rounds that `key_setup` gives
pub crypted_aes : (back : Bool) (key b : List ℕ) → crypted back (round_keys key) (Nr key) b ≡ aes back key b
unfolding aes
crypted_aes back key b = refl

module _ (key : List ℕ) (size : key_size (length key) ≡ true) (bytes : Bytes key) where
  blocks : Keys (round_keys key) (Nr key)
  blocks j h = round_keys_blocks key size bytes j (omega (arith, key_sizes (length key) size))

  pub aes_block : (back : Bool) {b : List ℕ} → Block b → Block (aes back key b)
  unfolding aes
  aes_block back h = block_crypted back (round_keys key) (Nr key) blocks h

  pub aes_undone : (back : Bool) {b : List ℕ} → Block b → aes (not back) key (aes back key b) ≡ b
  unfolding aes
  aes_undone back h = crypted_undone back (round_keys key) (Nr key) blocks h
