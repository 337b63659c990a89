-- What a mode asks of a block permutation f and its inverse g: f keeps blocks, and g undoes it on them.
-- Assumes nothing.
use Rattle.std.specs.Prelude.{◌≡◌, ℕ, List}
use Rattle.block.specs.Bytes.{Block}

pub record Undoes (f g : List ℕ → List ℕ) : Type 0 where
  pub keeps : {b : List ℕ} → Block b → Block (f b)
  pub back : {b : List ℕ} → Block b → g (f b) ≡ b
