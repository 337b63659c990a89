-- The block of a unit's number: it is one, and the number's bytes as the library gives them, with zeros after them, make it.
-- Assumes nothing.
use mathlib.Core.Path.{◌≡◌, refl}
use mathlib.Core.List.{◌++◌}
use Prim.Native.Nat.{ℕ, zero, suc, ◌/◌}
use native.Mathlib.Nat.{mod-lt}
use lib.Dec.{lit<}
use lib.ListN.{replicate}
use Rattle.block.specs.Bytes.{Bytes, Block}
use Rattle.block.proofs.BytesLaws.{bytes_cons, bytes_zeros, bytes_append}
use Rattle.std.proofs.Math.Nat.{div-div-eq-div-mul}
use Rattle.std.specs.Int.{bytes_low_first}
use Rattle.xts.specs.Xts.{little_endian, number_block}

bytes-little_endian : (n i : ℕ) → Bytes (little_endian n i)
bytes-little_endian zero i = bytes_zeros 0
bytes-little_endian (suc n) i = bytes_cons (mod-lt i (lit< tt)) (bytes-little_endian n (i / 256))

pub block_number_lem : (i : ℕ) → Block (number_block i)
unfolding number_block
block_number_lem i = record { size = refl; bytes = bytes_append (little_endian 8 i) (replicate 8 0) (bytes-little_endian 8 i) (bytes_zeros 8) }

-- the library has byte i of the number as what is left of it after 256^i
pub le_bytes : (i : ℕ) → bytes_low_first 0 8 i ++ replicate 8 0 ≡ number_block i
unfolding number_block
le_bytes i = simp div-div-eq-div-mul
