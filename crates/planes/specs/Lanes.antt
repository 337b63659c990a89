-- Sixteen blocks in planes: a list of 256 bytes in which plane p, the bytes from 16 * p on, has byte p of each of the blocks. Block l
-- is lane l.
-- Assumes nothing.
use Rattle.std.specs.Prelude.{◌≡◌, List, ℕ, ◌+◌, ◌*◌, ◌<◌}
use Rattle.block.specs.Tab.{tab, byte}

unfoldable pub lane : List ℕ → ℕ → List ℕ
lane s l = tab 16 (λ p. byte s (16 * p + l))

-- of each of the sixteen blocks t is what f makes of it in s
abbrev pub Lanewise : (List ℕ → List ℕ) → List ℕ → List ℕ → Type 0
Lanewise f s t = (l : ℕ) → l < 16 → lane t l ≡ f (lane s l)
