-- Sums of blocks: a sum that is added twice cancels.
-- Assumes nothing.
use mathlib.Core.Path.{◌≡◌, refl, sym, ap, ◌∙◌}
use mathlib.Core.List.{List, [], ◌∷◌}
use Prim.Native.Nat.{ℕ}
use native.Mathlib.Nat.{le_of_eq}
use Rattle.block.specs.Xor.{◌⊕◌}
use Rattle.block.specs.Bytes.{Block}
use Rattle.block.proofs.XorLaws.{⊕_undo, ⊕_comm, ⊕_assoc, block_⊕}
use Rattle.block.proofs.AllBlocks.{AllBlocks}
use Rattle.mode.specs.Wide.{total}

-- the last two of three change places
swap : {a b c : List ℕ} → Block a → Block b → Block c → a ⊕ b ⊕ c ≡ a ⊕ c ⊕ b
swap {a} {b} {c} ha hb hc =
    ⊕_assoc a b c (le_of_eq (ha.size ∙ sym hb.size))
    ∙ ap (λ (x : List ℕ). a ⊕ x) (⊕_comm b c (hb.size ∙ sym hc.size))
    ∙ sym (⊕_assoc a c b (le_of_eq (ha.size ∙ sym hc.size)))

pub block_total : {a : List ℕ} (xs : List (List ℕ)) → Block a → AllBlocks xs → Block (total a xs)
unfolding total
block_total [] h k = h
block_total {a} (x ∷ xs) h k = block_total {a = a ⊕ x} xs (block_⊕ h k.0) k.1

total_add : {a b : List ℕ} (xs : List (List ℕ)) → Block a → Block b → AllBlocks xs → total (a ⊕ b) xs ≡ total a xs ⊕ b
unfolding total
total_add [] ha hb k = refl
total_add {a} (x ∷ xs) ha hb k = ap (λ (y : List ℕ). total y xs) (swap ha hb k.0) ∙ total_add {a = a ⊕ x} xs (block_⊕ ha k.0) hb k.1

total_twice : {a : List ℕ} (xs : List (List ℕ)) → Block a → AllBlocks xs → total (total a xs) xs ≡ a
unfolding total
total_twice [] h k = refl
total_twice {a} (x ∷ xs) h k =
    ap (λ (y : List ℕ). total y xs)
    (sym (total_add xs (block_⊕ h k.0) k.0 k.1) ∙ ap (λ (y : List ℕ). total y xs) (⊕_undo a x))
    ∙ total_twice xs h k.1

pub total_undo : {a t : List ℕ} (xs : List (List ℕ)) → Block a → Block t → AllBlocks xs → total (total a xs ⊕ t) xs ⊕ t ≡ a
total_undo {a} {t} xs ha ht k =
    ap (λ (y : List ℕ). y ⊕ t) (total_add xs (block_total xs ha k) ht k) ∙ ⊕_undo (total (total a xs) xs) t ∙ total_twice xs ha k
