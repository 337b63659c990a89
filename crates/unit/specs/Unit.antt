-- IEEE 1619-2007, 5.3 and 5.4: a data unit under XTS, over a block function f (AES-enc under Key1, or to decipher AES-dec), the tweak T of block 0 and
-- the direction, in the standard's variables. P0 to Pm-1 are the m full blocks, and Pm the bytes after them, fewer than 16: none where the length is
-- a multiple of 16. To decipher, P and C change places.
-- Assumes nothing.
use Rattle.std.specs.Prelude.{Bool, cond, List, [], ◌∷◌, ◌++◌, ℕ, ◌-◌, ◌*◌, ◌/◌, ◌%◌, eqb, length, take, drop}
use Rattle.block.specs.Xor.{◌⊕◌}
use Rattle.block.specs.Blocks.{blocks, join}
use Rattle.block.specs.Double.{double, doubles}

-- 02, order 3: how many blocks of a unit of n bytes can be read alone, since no byte of another goes into them: all m full ones where n is a multiple
-- of 16, and else all but the last of them
unfoldable pub alone : ℕ → ℕ
alone n = cond (eqb (n % 16) 0) (n / 16) (n / 16 - 1)

module _ (f : List ℕ → List ℕ) where
  -- 5.3.1 and 5.4.1, steps 2 to 4, XTS-AES-blockEnc and -blockDec under the block's tweak: PP = P xor T, CC = f(PP), C = CC xor T
  unfoldable pub xts_block : List ℕ → List ℕ → List ℕ
  xts_block T P = f (P ⊕ T) ⊕ T

  -- 5.3.2 and 5.4.2, the loop: block q has T doubled q times, which is T times alpha^q (5.3.1, step 1)
  unfoldable pub xts_blocks : List ℕ → List (List ℕ) → List (List ℕ)
  xts_blocks T [] = []
  xts_blocks T (P ∷ Ps) = xts_block T P ∷ xts_blocks (double T) Ps

  -- 5.3.2 and 5.4.2, ciphertext stealing: the last full block and the bytes after it, under one tweak first and then another
  module _ (first second Pm_1 Pm : List ℕ) where
    abbrev pub CC : List ℕ  -- the full block under the first tweak
    CC = xts_block first Pm_1

    abbrev pub Cm : List ℕ  -- as many of its first bytes as Pm has
    Cm = take (length Pm) CC

    abbrev pub CP : List ℕ  -- and the bytes after those, which are stolen
    CP = drop (length Pm) CC

    abbrev pub PP : List ℕ  -- Pm, filled up with them
    PP = Pm ++ CP

    unfoldable pub stolen : List ℕ  -- Cm-1, then Cm
    stolen = xts_block second PP ++ Cm

  -- the bytes after the blocks that can be read alone: none, or the last full block, of tweak T, and the bytes after it. Enciphering
  -- has T first and then the next tweak, deciphering the next one first
  unfoldable pub last_two : Bool → List ℕ → List ℕ → List ℕ
  last_two back T [] = []
  last_two back T (x ∷ d) = stolen (cond back (double T) T) (cond back T (double T)) (take 16 (x ∷ d)) (drop 16 (x ∷ d))

  -- 5.3.2 and 5.4.2, XTS-AES-Enc and -Dec of a unit P of 16 bytes or more
  unfoldable pub xts_unit : Bool → List ℕ → List ℕ → List ℕ
  xts_unit back T P =
      join (xts_blocks T (blocks (alone (length P)) P))
      ++ last_two back (doubles (alone (length P)) T) (drop (16 * alone (length P)) P)
