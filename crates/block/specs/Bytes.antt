-- Lists of bytes, and blocks: lists of 16 bytes.
-- Assumes nothing.
use Rattle.std.specs.Prelude.{◌≡◌, ℕ, ◌<◌, List, length, slice_index}

-- every element is a byte; past the end `slice_index` gives 0, which is one
pub record Bytes (l : List ℕ) : Type 0 where
  pub below : (i : ℕ) → slice_index l i < 256

pub record Block (b : List ℕ) : Type 0 where
  pub size : length b ≡ 16
  pub bytes : Bytes b
