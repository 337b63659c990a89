-- 01: numbers are little-endian. The number that stands in s from `at` on, in two bytes and in four.
-- Assumes nothing.
use Rattle.std.specs.Prelude.{ℕ, ◌+◌, ◌*◌, List}
use Rattle.block.specs.Tab.{byte}

abbrev pub le16 : List ℕ → ℕ → ℕ
le16 s at = byte s at + 256 * byte s (at + 1)

abbrev pub le32 : List ℕ → ℕ → ℕ
le32 s at = byte s at + 256 * (byte s (at + 1) + 256 * (byte s (at + 2) + 256 * byte s (at + 3)))
