-- The two passes of the definition, as the code makes them: masks, then the permutation of all blocks, and the other way round.
-- Assumes nothing.
use mathlib.Core.Path.{◌≡◌, refl, sym, ap, ap₂, ◌∙◌}
use mathlib.Core.List.{List, [], ◌∷◌, map}
use Prim.Native.Nat.{ℕ}
use lib.ListN.{length}
use Rattle.block.specs.Xor.{◌⊕◌}
use Rattle.block.specs.Double.{double}
use Rattle.block.proofs.XorLaws.{⊕_comm}
use Rattle.block.proofs.DoubleLaws.{length-double}
use Rattle.block.proofs.BlockLaws.{Sized}
use Rattle.field.specs.Masks.{masked}
use Rattle.mode.specs.Wide.{enter, leave}

pub enter_masked : (f : List ℕ → List ℕ) (L : List ℕ) → length L ≡ 16 → (Ps : List (List ℕ)) → Sized Ps → map f (masked L Ps) ≡ enter f L Ps
unfolding enter masked
enter_masked f L h [] k = refl
enter_masked f L h (P ∷ Ps) k =
    ap₂ (λ (x : List ℕ) (xs : List (List ℕ)). x ∷ xs)
    (ap f (⊕_comm P L (k.0 ∙ sym h)))
    (enter_masked f (double L) (length-double L) Ps k.1)

pub leave_masked : (f : List ℕ → List ℕ) (L : List ℕ) (Xs : List (List ℕ)) → masked L (map f Xs) ≡ leave f L Xs
unfolding leave masked
leave_masked f L [] = refl
leave_masked f L (X ∷ Xs) = ap (λ (xs : List (List ℕ)). (f X ⊕ L) ∷ xs) (leave_masked f (double L) Xs)
