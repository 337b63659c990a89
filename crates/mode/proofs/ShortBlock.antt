-- The short last block: whether there is one goes by how many bytes it has, and Cm has as many. By cases on those bytes.
-- Assumes nothing.
use mathlib.Core.Path.{◌≡◌, refl}
use mathlib.Core.Bool.{true, false}
use mathlib.Core.List.{List, [], ◌∷◌}
use Prim.Native.Nat.{ℕ, ◌<◌}
use native.Mathlib.Nat.{not-suc-le-zero}
use native.Mathlib.Omega.{arith}
use lib.ListN.{length}
use Rattle.block.specs.Xor.{◌⊕◌}
use Rattle.block.proofs.XorLaws.{length_⊕}
use Rattle.mode.specs.Wide.{is_short, MM, Cm}

pub not_short : (s : List ℕ) → length s ≡ 0 → is_short s ≡ false
not_short [] h = refl
not_short (x ∷ s) h = let z : ⊥ = omega arith in absurd z

pub is_short_lem : (s : List ℕ) → 0 < length s → is_short s ≡ true
is_short_lem [] h = absurd (not-suc-le-zero h)
is_short_lem (x ∷ s) h = refl

pub short_⊕ : (s m : List ℕ) → is_short (s ⊕ m) ≡ is_short s
unfolding ◌⊕◌
short_⊕ [] m = refl
short_⊕ (x ∷ s) [] = refl
short_⊕ (x ∷ s) (y ∷ m) = refl

pub length-Cm : (f : List ℕ → List ℕ) (T X1 : List ℕ) (Xs : List (List ℕ)) (s : List ℕ) → length (Cm f T X1 Xs s) ≡ length s
unfolding Cm
length-Cm f T X1 Xs s = length_⊕ s (MM f T X1 Xs s)
