-- XTS-AES (IEEE 1619-2007) of a data unit, as 02's order 3 scopes it: the key's halves, the tweak of a unit's number, the refusals in 02's order and the
-- unit afterwards; and a single block.
-- Assumes nothing.
use Rattle.std.specs.Prelude.{Bool, true, false, cond, not, ◌||◌, List, [], ◌∷◌, ◌++◌, ℕ, zero, suc, ◌*◌, ◌/◌, ◌%◌, eqb, ltb, length, take, drop, replicate}
use Rattle.block.specs.Blocks.{block_at}
use Rattle.block.specs.Double.{doubles}
use Rattle.numbers.specs.declared.Refusal.TheVariants.{XtsKeyLength, UnitLength, BlockNotAlone}
use Rattle.numbers.specs.Numbers.{paper}
use Rattle.aes.specs.Aes.{aes}
use Rattle.unit.specs.Unit.{alone, xts_block, xts_unit}

-- ---- the key and the tweak

-- the key is Key1 | Key2, each half of it a key of AES
abbrev pub Key1 : List ℕ → List ℕ
Key1 k = take (length k / 2) k

abbrev pub Key2 : List ℕ → List ℕ
Key2 k = drop (length k / 2) k

-- the first n bytes of a number, the low one first
abbrev pub little_endian : ℕ → ℕ → List ℕ
little_endian zero i = []
little_endian (suc n) i = i % 256 ∷ little_endian n (i / 256)

-- 5.1: the unit's number as a block. 64 bits of it are given, so that the last 8 bytes are 0
unfoldable pub number_block : ℕ → List ℕ
number_block i = little_endian 8 i ++ replicate 8 0

-- 5.3.1 and 5.4.1, step 1, of block 0: the number's block under Key2, enciphered in both directions
unfoldable pub tweak : List ℕ → ℕ → List ℕ
tweak k i = aes false (Key2 k) (number_block i)

-- ---- refusals, by the lengths of key and unit

-- a key that is taken is 32 or 64 bytes long. Which keys AES takes is not asked: 48 is refused whatever AES comes to take
unfoldable pub key_taken : ℕ → Bool
key_taken n = eqb n 32 || eqb n 64

-- a unit below 16 bytes or above 65,536
unfoldable pub bad_unit : ℕ → Bool
bad_unit n = ltb n 16 || ltb 65536 n

-- 02, order 3: the numbers in their order
unfoldable pub number : ℕ → ℕ → ℕ
number key unit = cond (not (key_taken key)) (paper XtsKeyLength) (cond (bad_unit unit) (paper UnitLength) 0)

-- after these, of a single block: block j can't be read alone
unfoldable pub block_number : ℕ → ℕ → ℕ → ℕ
block_number key unit j = cond (eqb (number key unit) 0) (cond (ltb j (alone unit)) 0 (paper BlockNotAlone)) (number key unit)

-- ---- a unit

-- unit number i under key k: enciphered, or with `back` deciphered
unfoldable pub xts : Bool → List ℕ → ℕ → List ℕ → List ℕ
xts back k i u = xts_unit (aes back (Key1 k)) back (tweak k i) u

-- the unit afterwards: as it was if the call is refused
unfoldable pub afterwards : Bool → List ℕ → ℕ → List ℕ → List ℕ
afterwards back k i u = cond (eqb (number (length k) (length u)) 0) (xts back k i u) u

-- ---- a single block, deciphered

-- 5.4.1, XTS-AES-blockDec: C as block j of unit number i, whose tweak is doubled j times
unfoldable pub block_under : List ℕ → ℕ → ℕ → List ℕ → List ℕ
block_under k i j C = xts_block (aes true (Key1 k)) (doubles j (tweak k i)) C

-- the block that is answered: zeros if the call is refused. Of the unit, its length and the 16 bytes of block j stand here and nothing else
unfoldable pub block_answered : List ℕ → ℕ → List ℕ → ℕ → List ℕ
block_answered k i u j = cond (eqb (block_number (length k) (length u) j) 0) (block_under k i j (block_at u (16 * j))) (replicate 16 0)
