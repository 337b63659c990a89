-- What the passes over planes go by: a plane by the blocks that its bytes are of, and the planes that ShiftRows and its inverse pick.
-- Assumes nothing.
use Rattle.std.specs.Prelude.{◌≡◌, List, ℕ, ◌+◌, ◌*◌, ◌/◌, ◌%◌, ◌<◌}
use Rattle.block.specs.Tab.{tab, byte}
use Rattle.block.specs.Blocks.{block_at}

-- y has byte p of each of the sixteen blocks x 0 to x 15
abbrev pub Plane : ℕ → (ℕ → List ℕ) → List ℕ → Type 0
Plane p x y = (l : ℕ) → l < 16 → byte y l ≡ byte (x l) p

-- each plane p of t is one that may be made of p and of plane p of s
abbrev pub EachPlane : (ℕ → List ℕ → List ℕ → Type 0) → List ℕ → List ℕ → Type 0
EachPlane made s t = (p : ℕ) → p < 16 → made p (block_at s (16 * p)) (block_at t (16 * p))

-- the place k rows below place p, in its column
abbrev pub below : ℕ → ℕ → ℕ
below p k = (p % 4 + k) % 4 + 4 * (p / 4)

-- each byte of b is the one k rows' worth further, for each row that it is down
unfoldable pub picked : ℕ → List ℕ → List ℕ
picked k b = tab 16 (λ i. byte b ((i + k * (i % 4)) % 16))
