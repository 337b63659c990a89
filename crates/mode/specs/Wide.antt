-- 000, table 1, steps 12 to 45: the wide block over a block permutation f (AES-Enc, or to decipher AES-Dec), L (Key2) and T (T_star), in
-- 000's variables. The full blocks come as a list, and the bytes of a short last block beside it: none where the last block is full.
-- Assumes nothing.
use Rattle.std.specs.Prelude.{Bool, true, false, cond, List, [], ◌∷◌, ◌++◌, ℕ, suc, ◌-◌, ◌%◌, eqb}
use Rattle.block.specs.Xor.{◌⊕◌}
use Rattle.block.specs.Blocks.{full, rest, blocks, join}
use Rattle.block.specs.Double.{double, pad}

-- steps 16, 19 and 33: whether the last block is short
abbrev pub is_short : List ℕ → Bool
is_short [] = false
is_short (x ∷ short) = true

-- steps 16 and 35: a short block only padded, and nothing where the last block is full
unfoldable pub padded : List ℕ → List (List ℕ)
padded short = cond (is_short short) (pad short ∷ []) []

-- steps 18 and 40: X xor the blocks, in their order
unfoldable pub total : List ℕ → List (List ℕ) → List ℕ
total X [] = X
total X (Y ∷ Ys) = total (X ⊕ Y) Ys

-- steps 25 and 36: whether block i begins a new mask
abbrev pub begins : ℕ → Bool
begins i = eqb ((i - 1) % 128) 0

module _ (f : List ℕ → List ℕ) where
  -- steps 12 to 17, the first pass: PPPi = f(2^(i-1)·L xor Pi)
  unfoldable pub enter : List ℕ → List (List ℕ) → List (List ℕ)
  enter L [] = []
  enter L (P ∷ Ps) = f (L ⊕ P) ∷ enter (double L) Ps

  -- steps 26 and 29 to 31, the mask of block i: doubled, or MP xor MC with MP = PPPi xor M1 and MC = f(MP)
  abbrev pub mask : List ℕ → ℕ → List ℕ → List ℕ → List ℕ
  mask M1 i M PPP = cond (begins i) ((PPP ⊕ M1) ⊕ f (PPP ⊕ M1)) (double M)

  -- steps 27 and 32: CCCi = PPPi xor M, or MC xor M1
  abbrev pub ccc_of : List ℕ → ℕ → List ℕ → List ℕ → List ℕ
  ccc_of M1 i M PPP = cond (begins i) (f (PPP ⊕ M1) ⊕ M1) (PPP ⊕ M)

  -- steps 24 to 32 and 36 to 39: CCCi and on, from the mask M of the block before
  unfoldable pub middle : List ℕ → ℕ → List ℕ → List (List ℕ) → List (List ℕ)
  middle M1 i M [] = []
  middle M1 i M (PPP ∷ PPPs) = ccc_of M1 i (mask M1 i M PPP) PPP ∷ middle M1 (suc i) (mask M1 i M PPP) PPPs

  -- steps 18 to 40, the mixing, of T_star, PPP1, the PPPs after it and the short block
  module _ (T PPP1 : List ℕ) (PPPs : List (List ℕ)) (short : List ℕ) where
    unfoldable pub MP : List ℕ  -- step 18
    MP = total PPP1 (PPPs ++ padded short) ⊕ T

    abbrev pub MM : List ℕ  -- step 20
    MM = f MP

    abbrev pub MC1 : List ℕ  -- steps 21 and 22
    MC1 = cond (is_short short) (f MM) (f MP)

    abbrev pub M1 : List ℕ  -- step 23
    M1 = MP ⊕ MC1

    unfoldable pub CCCs : List (List ℕ)  -- steps 24 to 32 and 36 to 39: CCC2 and on, of the full blocks
    CCCs = middle M1 2 M1 PPPs

    unfoldable pub Cm : List ℕ  -- step 34: xor keeps the left length, so MM is cut to that of the short block
    Cm = short ⊕ MM

    unfoldable pub CCC1 : List ℕ  -- step 40
    CCC1 = total MC1 (CCCs ++ padded Cm) ⊕ T

  -- steps 41 to 45, the second pass: Ci = f(CCCi) xor 2^(i-1)·L
  unfoldable pub leave : List ℕ → List (List ℕ) → List (List ℕ)
  leave L [] = []
  leave L (CCC ∷ Xs) = (f CCC ⊕ L) ∷ leave (double L) Xs

  -- steps 18 to 45, of the PPPs and the short block
  unfoldable pub wide_on : List ℕ → List ℕ → List (List ℕ) → List ℕ → List ℕ
  wide_on L T [] short = short
  wide_on L T (PPP1 ∷ PPPs) short = join (leave L (CCC1 T PPP1 PPPs short ∷ CCCs T PPP1 PPPs short)) ++ Cm T PPP1 PPPs short

  -- the whole message P, of 16 bytes or more
  unfoldable pub wide : List ℕ → List ℕ → List ℕ → List ℕ
  wide L T P = wide_on L T (enter L (blocks (full P) P)) (rest P)
