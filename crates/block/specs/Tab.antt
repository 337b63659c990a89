-- The list of f 0 to f (n - 1). With a numeral for n it computes, so that a list given by its places is that list by `refl`.
-- Assumes nothing.
use Rattle.std.specs.Prelude.{ℕ, zero, suc, List, [], ◌∷◌, get_or}

module _ {ℓ} {A : Type ℓ} where
  abbrev pub tab : ℕ → (ℕ → A) → List A
  tab zero f = []
  tab (suc n) f = f zero ∷ tab n (λ i. f (suc i))

-- the byte at place i, and 0 past the end
abbrev pub byte : List ℕ → ℕ → ℕ
byte l i = get_or l i 0
