-- Step 34: the bytes after the full blocks xored with MM.
-- Assumes nothing.
use Rattle.std.proofs.Common.{ℕ, ◌*◌, List, ◌++◌, take}
use Rattle.block.specs.Xor.{◌⊕◌}
use Rattle.block.specs.Blocks.{full, rest}

-- the bytes afterwards
abbrev pub shorted : List ℕ → List ℕ → List ℕ
shorted s mm = take (full s * 16) s ++ (rest s ⊕ mm)
