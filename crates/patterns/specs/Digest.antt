-- The digest of a slice: its bytes, each and one more, as the digits of base 257, modulo a prime below 2^31.
-- Assumes nothing.
use Rattle.std.specs.Prelude.{List, [], ◌∷◌, ℕ, ◌+◌, ◌*◌, ◌%◌}

abbrev pub digest_step : ℕ → ℕ → ℕ
digest_step h x = (h * 257 + x + 1) % 2147483647

-- the digest that goes on from h; the whole one goes on from 0
unfoldable pub digest_from : ℕ → List ℕ → ℕ
digest_from h [] = h
digest_from h (x ∷ xs) = digest_from (digest_step h x) xs
