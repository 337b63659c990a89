-- Rows of w bytes each, one after the other: row k of s, and s with another row in its place.
-- Assumes nothing.
use Rattle.std.specs.Prelude.{ℕ, ◌+◌, ◌*◌, List, ◌++◌, take, drop}

unfoldable pub row : ℕ → List ℕ → ℕ → List ℕ
row w s k = take w (drop (k * w) s)

unfoldable pub put_row : ℕ → List ℕ → ℕ → List ℕ → List ℕ
put_row w s k r = take (k * w) s ++ (r ++ drop (k * w + w) s)
