-- Laws of the masks of a text's blocks.
-- Assumes nothing.
use mathlib.Core.Path.{◌≡◌, refl, ◌∙◌}
use mathlib.Core.List.{List, [], ◌∷◌}
use Prim.Native.Nat.{ℕ, zero, suc, ◌<◌}
use native.Mathlib.Nat.{le_of_suc-le-suc, not-suc-le-zero}
use lib.ListN.{length, get_or}
use Rattle.block.specs.Xor.{◌⊕◌}
use Rattle.block.specs.Double.{double, doubles}
use Rattle.block.proofs.XorLaws.{length_⊕}
use Rattle.block.proofs.BlockLaws.{Sized}
use Rattle.field.specs.Masks.{masked}

pub sized_masked : (L : List ℕ) (bs : List (List ℕ)) → Sized bs → Sized (masked L bs)
unfolding masked
sized_masked L [] h = tt
sized_masked L (b ∷ bs) h = (length_⊕ b L ∙ h.0, sized_masked (double L) bs h.1)

-- block i, counted from 0, has L doubled i times
pub masked_at : (L : List ℕ) (bs : List (List ℕ)) (i : ℕ) → i < length bs → get_or (masked L bs) i [] ≡ get_or bs i [] ⊕ doubles i L
unfolding masked doubles
masked_at L [] i h = absurd (not-suc-le-zero h)
masked_at L (b ∷ bs) zero h = refl
masked_at L (b ∷ bs) (suc i) h = masked_at (double L) bs i (le_of_suc-le-suc h)
