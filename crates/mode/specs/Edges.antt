-- 01, both sides of each edge: D1 to D12, over the definitions, as one table.
-- Assumes nothing.
use Rattle.std.specs.Prelude.{◌≡◌, List, [], ◌∷◌, ◌++◌, map, ℕ, suc, length, replicate}
use Rattle.block.specs.Blocks.{full, rest, blocks}
use Rattle.block.specs.Double.{double, pad}
use Rattle.sbox.specs.Sub.{sub}
use Rattle.mode.specs.Wide.{CCCs}

-- the length of a short last block, if there is one
abbrev pub short_length : List ℕ → List ℕ
short_length [] = []
short_length (x ∷ short) = length (x ∷ short) ∷ []

-- the lengths of the blocks that n bytes are split into
abbrev pub parts : ℕ → List ℕ
unfolding blocks
parts n = map length (blocks (full (replicate n 0)) (replicate n 0)) ++ short_length (rest (replicate n 0))

-- the wide block's CCC2 and on, of blocks that stand for the PPPs, over an f that gives no bytes. Xor keeps the left length, so CCCi is empty
-- where block i begins a new mask, f(..) xor M1, and elsewhere as long as PPPi, PPPi xor M
abbrev pub cccs_of : List (List ℕ) → List ℕ → List (List ℕ)
cccs_of [] short = []
cccs_of (PPP1 ∷ PPPs) short = CCCs (λ b. []) (replicate 16 0) PPP1 PPPs short

-- the numbers of those that are empty, where the first is number i
abbrev pub empties : ℕ → List (List ℕ) → List ℕ
empties i [] = []
empties i ([] ∷ Xs) = i ∷ empties (suc i) Xs
empties i ((x ∷ X) ∷ Xs) = empties (suc i) Xs

-- the blocks that begin a new mask, of n bytes split as the wide block splits its message
abbrev pub masks_of : ℕ → List ℕ
masks_of n = empties 2 (cccs_of (blocks (full (replicate n 0)) (replicate n 0)) (rest (replicate n 0)))

-- the table: one row for each of 01's
pub record Edges : Type 0 where
  pub D1 : double (0x01 ∷ replicate 15 0x00) ≡ 0x02 ∷ replicate 15 0x00
  pub D2 : double (0x80 ∷ replicate 15 0x00) ≡ 0x00 ∷ 0x01 ∷ replicate 14 0x00
  pub D3 : double (replicate 15 0x00 ++ (0x80 ∷ [])) ≡ 0x87 ∷ replicate 15 0x00
  pub D4 : double (replicate 16 0xff) ≡ 0x79 ∷ replicate 15 0xff
  pub D5 : pad (0xab ∷ []) ≡ 0xab ∷ 0x80 ∷ replicate 14 0x00
  pub D6 : parts 33 ≡ 16 ∷ 16 ∷ 1 ∷ []
  pub D7 : parts 32 ≡ 16 ∷ 16 ∷ []
  pub D8 : masks_of 2048 ≡ []
  pub D9 : masks_of 2049 ≡ []
  pub D10 : masks_of 2064 ≡ 129 ∷ []
  pub D11 : masks_of 2065 ≡ 129 ∷ []
  pub D12 : sub 0x00 ≡ 0x63
