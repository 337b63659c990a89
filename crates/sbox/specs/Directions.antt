-- The substitution in either direction.
-- Assumes nothing.
use Rattle.std.specs.Prelude.{Bool, cond, ℕ}
use Rattle.sbox.specs.Sub.{sub, inv_sub}

-- the substitution, or with `back` its inverse
unfoldable pub directed : Bool → ℕ → ℕ
directed back x = cond back (inv_sub x) (sub x)
