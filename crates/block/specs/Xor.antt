-- Xor of two lists of bytes, place by place. It keeps the length of its left side, so that a short block needs no case of its own.
-- Assumes nothing.
use Rattle.std.specs.Prelude.{ℕ, List, [], ◌∷◌, bit_xor}

infixl 70 ◌⊕◌
unfoldable pub ◌⊕◌ : List ℕ → List ℕ → List ℕ
[] ⊕ b = []
(x ∷ a) ⊕ [] = x ∷ a
(x ∷ a) ⊕ (y ∷ b) = bit_xor x y ∷ (a ⊕ b)
