-- The steps between the two passes as the code takes them, over the bytes of the message: a sum over all blocks after the first, and the
-- mixing. That they are `wide`, together with the passes (the masks, which are `field`'s, and the permutation of all blocks), is a law
-- (`proofs/WideLaws.antt`).
-- Assumes nothing.
use Rattle.std.specs.Prelude.{List, [], ◌∷◌, ◌++◌, ℕ}
use Rattle.block.specs.Blocks.{full, rest, blocks, join}
use Rattle.mode.specs.Wide.{total, padded, Cm, CCCs, CCC1}

-- steps 18 and 40, of the bytes d after the first block: X xor the blocks of d, a short last one padded
abbrev pub total_of : List ℕ → List ℕ → List ℕ
total_of X d = total X (blocks (full d) d ++ padded (rest d))

-- steps 18 to 40, of full blocks and a short one
unfoldable pub mixed_on : (List ℕ → List ℕ) → List ℕ → List (List ℕ) → List ℕ → List ℕ
mixed_on f T [] short = short
mixed_on f T (PPP1 ∷ PPPs) short = join (CCC1 f T PPP1 PPPs short ∷ CCCs f T PPP1 PPPs short) ++ Cm f T PPP1 PPPs short

-- and of the bytes s
unfoldable pub mixed : (List ℕ → List ℕ) → List ℕ → List ℕ → List ℕ
mixed f T s = mixed_on f T (blocks (full s) s) (rest s)
