-- The patterns that the programs fill keys, associated data, messages, texts and stores with.
-- Assumes nothing.
use Rattle.std.specs.Prelude.{◌≡◌, List, ℕ, ◌+◌, ◌*◌, ◌/◌, ◌%◌, ◌<◌, length, get_or}

-- byte i of the pattern that goes on by `by` from `from`
abbrev pub pattern_byte : ℕ → ℕ → ℕ → ℕ
pattern_byte by from i = ((i % 256) * (by % 256) + i / 256 + from % 256) % 256

-- a list is the pattern, as far as it goes
abbrev pub Pattern : ℕ → ℕ → List ℕ → Type 0
Pattern by from s = (i : ℕ) → i < length s → get_or s i 0 ≡ pattern_byte by from i
