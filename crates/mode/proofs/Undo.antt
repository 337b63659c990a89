-- The wide block is undone by the wide block with the permutation's inverse: once over any two functions that keep blocks and undo each
-- other on them.
-- Assumes nothing.
use mathlib.Core.Path.{◌≡◌, refl, sym, ap, ap₂, ◌∙◌}
use mathlib.Core.Bool.{Bool, true, false, cond}
use mathlib.Core.List.{List, [], ◌∷◌, ◌++◌}
use Prim.Native.Nat.{ℕ, suc, ◌*◌, ◌≤◌, ◌<◌}
use native.Mathlib.Nat.{not-suc-le-zero}
use native.Mathlib.Omega.{arith}
use lib.ListN.{length}
use Rattle.block.specs.Xor.{◌⊕◌}
use Rattle.block.specs.Bytes.{Bytes, Block}
use Rattle.block.specs.Blocks.{full, rest, blocks, join}
use Rattle.block.specs.Double.{double}
use Rattle.block.specs.Permutation.{Undoes}
use Rattle.block.proofs.BytesLaws.{bytes_drop}
use Rattle.block.proofs.BlockLaws.{Sized, blocks_of, rest_join, join_blocks, length_rest, length-blocks}
use Rattle.block.proofs.AllBlocks.{AllBlocks, all_append, all_sized, all_blocks}
use Rattle.block.proofs.XorLaws.{length_⊕, ⊕_undo, ⊕_comm, bytes_⊕, block_⊕}
use Rattle.block.proofs.DoubleLaws.{block_double, block_pad}
use Rattle.mode.specs.Wide.{enter, leave, begins, mask, ccc_of, middle, total, padded, is_short, MP, MM, MC1, M1, Cm, CCCs, CCC1, wide_on, wide}
use Rattle.mode.proofs.ShortBlock.{short_⊕, length-Cm}
use Rattle.mode.proofs.Totals.{block_total, total_undo}

-- around L, and back
around : {L X : List ℕ} → Block L → Block X → L ⊕ (X ⊕ L) ≡ X
around {L} {X} h_l h_x = ⊕_comm L (X ⊕ L) (h_l.size ∙ sym (length_⊕ X L ∙ h_x.size)) ∙ ⊕_undo X L

between : {L P : List ℕ} → Block L → Block P → L ⊕ P ⊕ L ≡ P
between {L} {P} h_l h_p = ap (λ (x : List ℕ). x ⊕ L) (⊕_comm L P (h_l.size ∙ sym h_p.size)) ∙ ⊕_undo P L

block_padded : (s : List ℕ) → length s < 16 → Bytes s → AllBlocks (padded s)
unfolding padded
block_padded [] h k = tt
block_padded (x ∷ s) h k = (block_pad (x ∷ s) h k, tt)

module _ (f g : List ℕ → List ℕ) (u : Undoes f g) where
  -- ---- the two passes

  pub block_enter : {L : List ℕ} → Block L → (Ps : List (List ℕ)) → AllBlocks Ps → AllBlocks (enter f L Ps)
  unfolding enter
  block_enter h_l [] k = tt
  block_enter {L} h_l (P ∷ Ps) k = (u.keeps (block_⊕ h_l k.0), block_enter {L = double L} (block_double L) Ps k.1)

  pub block_leave : {L : List ℕ} → Block L → (Xs : List (List ℕ)) → AllBlocks Xs → AllBlocks (leave f L Xs)
  unfolding leave
  block_leave h_l [] k = tt
  block_leave {L} h_l (X ∷ Xs) k = (block_⊕ (u.keeps k.0) h_l, block_leave {L = double L} (block_double L) Xs k.1)

  enter_leave : {L : List ℕ} → Block L → (Xs : List (List ℕ)) → AllBlocks Xs → enter g L (leave f L Xs) ≡ Xs
  unfolding enter leave
  enter_leave h_l [] k = refl
  enter_leave {L} h_l (X ∷ Xs) k =
      ap₂ (λ (x : List ℕ) (xs : List (List ℕ)). x ∷ xs)
      (ap g (around h_l (u.keeps k.0)) ∙ u.back k.0)
      (enter_leave {L = double L} (block_double L) Xs k.1)

  leave_enter : {L : List ℕ} → Block L → (Ps : List (List ℕ)) → AllBlocks Ps → leave g L (enter f L Ps) ≡ Ps
  unfolding enter leave
  leave_enter h_l [] k = refl
  leave_enter {L} h_l (P ∷ Ps) k =
      ap₂ (λ (x : List ℕ) (xs : List (List ℕ)). x ∷ xs)
      (ap (λ (x : List ℕ). x ⊕ L) (u.back (block_⊕ h_l k.0)) ∙ between h_l k.0)
      (leave_enter {L = double L} (block_double L) Ps k.1)

  -- ---- the mixing of the blocks after the first

  module _ {M1 : List ℕ} (h_m1 : Block M1) where
    block_mask : (t : Bool) (M : List ℕ) {X : List ℕ} → Block X → Block (cond t ((X ⊕ M1) ⊕ f (X ⊕ M1)) (double M))
    block_mask true M h = block_⊕ (block_⊕ h h_m1) (u.keeps (block_⊕ h h_m1))
    block_mask false M h = block_double M

    block_ccc : (t : Bool) {M X : List ℕ} → Block M → Block X → Block (cond t (f (X ⊕ M1) ⊕ M1) (X ⊕ M))
    block_ccc true h_m h = block_⊕ (u.keeps (block_⊕ h h_m1)) h_m1
    block_ccc false h_m h = block_⊕ h h_m

    -- the inverse finds the same mask
    mask_same : (t : Bool) (M N : List ℕ) {X : List ℕ} → Block X → N ≡ cond t ((X ⊕ M1) ⊕ f (X ⊕ M1)) (double M)
        → cond t ((cond t (f (X ⊕ M1) ⊕ M1) (X ⊕ N) ⊕ M1) ⊕ g (cond t (f (X ⊕ M1) ⊕ M1) (X ⊕ N) ⊕ M1)) (double M) ≡ N
    mask_same true M N {X} h e =
        let h_p : Block (X ⊕ M1) = block_⊕ h h_m1 in
        let w : f (X ⊕ M1) ⊕ M1 ⊕ M1 ≡ f (X ⊕ M1) = ⊕_undo (f (X ⊕ M1)) M1 in
        ap₂ (λ (x y : List ℕ). x ⊕ y) w (ap g w ∙ u.back h_p)
        ∙ ⊕_comm (f (X ⊕ M1)) (X ⊕ M1) ((u.keeps h_p).size ∙ sym h_p.size)
        ∙ sym e
    mask_same false M N h e = sym e

    -- and the block
    block_same : (t : Bool) (N : List ℕ) {X : List ℕ} → Block X
        → cond t (g (cond t (f (X ⊕ M1) ⊕ M1) (X ⊕ N) ⊕ M1) ⊕ M1) (cond t (f (X ⊕ M1) ⊕ M1) (X ⊕ N) ⊕ N) ≡ X
    block_same true N {X} h =
        ap (λ (x : List ℕ). x ⊕ M1) (ap g (⊕_undo (f (X ⊕ M1)) M1) ∙ u.back (block_⊕ h h_m1)) ∙ ⊕_undo X M1
    block_same false N {X} h = ⊕_undo X N

    block_middle : (i : ℕ) {M : List ℕ} → Block M → (Xs : List (List ℕ)) → AllBlocks Xs → AllBlocks (middle f M1 i M Xs)
    unfolding middle
    block_middle i h_m [] k = tt
    block_middle i {M} h_m (X ∷ Xs) k =
        let h_n : Block (mask f M1 i M X) = block_mask (begins i) M k.0 in
        (block_ccc (begins i) h_n k.0, block_middle (suc i) h_n Xs k.1)

    middle_undone : (i : ℕ) (M : List ℕ) (Xs : List (List ℕ)) → AllBlocks Xs → middle g M1 i M (middle f M1 i M Xs) ≡ Xs
    unfolding middle
    middle_undone i M [] k = refl
    middle_undone i M (X ∷ Xs) k =
        let N : List ℕ = mask f M1 i M X in
        let Y : List ℕ = ccc_of f M1 i N X in
        let Ys : List (List ℕ) = middle f M1 (suc i) N Xs in
        ap (λ (m : List ℕ). ccc_of g M1 i m Y ∷ middle g M1 (suc i) m Ys) (mask_same (begins i) M N k.0 refl)
        ∙ ap₂ (λ (x : List ℕ) (xs : List (List ℕ)). x ∷ xs) (block_same (begins i) N k.0) (middle_undone (suc i) N Xs k.1)

  -- ---- the whole mixing, of full blocks X1 ∷ Xs and a short one s (empty where there is none)

  block_MC1 : (t : Bool) {P : List ℕ} → Block P → Block (cond t (f (f P)) (f P))
  block_MC1 true h = u.keeps (u.keeps h)
  block_MC1 false h = u.keeps h

  -- MC1 is taken back to MP, and the short block comes back
  MC1_undone : (t : Bool) {P : List ℕ} → Block P → cond t (g (g (cond t (f (f P)) (f P)))) (g (cond t (f (f P)) (f P))) ≡ P
  MC1_undone true h = ap g (u.back (u.keeps h)) ∙ u.back h
  MC1_undone false h = u.back h

  Cm_undone : (s : List ℕ) {P : List ℕ} → Block P → s ⊕ f P ⊕ g (cond (is_short s) (f (f P)) (f P)) ≡ s
  unfolding ◌⊕◌
  Cm_undone [] h = refl
  Cm_undone (x ∷ s) {P} h = ap (λ (z : List ℕ). (x ∷ s) ⊕ f P ⊕ z) (u.back (u.keeps h)) ∙ ⊕_undo (x ∷ s) (f P)

  module _ {T X1 : List ℕ} (h_t : Block T) (h_x1 : Block X1) (Xs : List (List ℕ)) (h_xs : AllBlocks Xs) (s : List ℕ) (ls : length s < 16) (bs : Bytes s) where
    h_p : Block (MP f T X1 Xs s)
    unfolding MP
    h_p = block_⊕ (block_total (Xs ++ padded s) h_x1 (all_append Xs (padded s) h_xs (block_padded s ls bs))) h_t

    h_c : Block (MC1 f T X1 Xs s)
    h_c = block_MC1 (is_short s) h_p

    h_m : Block (M1 f T X1 Xs s)
    h_m = block_⊕ h_p h_c

    pub block_CCCs : AllBlocks (CCCs f T X1 Xs s)
    unfolding CCCs
    block_CCCs = block_middle h_m 2 h_m Xs h_xs

    pub bytes-Cm : Bytes (Cm f T X1 Xs s)
    unfolding Cm
    bytes-Cm = bytes_⊕ s (MM f T X1 Xs s) bs (u.keeps h_p).bytes

    all_out : AllBlocks (CCCs f T X1 Xs s ++ padded (Cm f T X1 Xs s))
    all_out = all_append (CCCs f T X1 Xs s) (padded (Cm f T X1 Xs s)) block_CCCs (block_padded (Cm f T X1 Xs s) (omega (arith, length-Cm f T X1 Xs s)) bytes-Cm)

    pub block_CCC1 : Block (CCC1 f T X1 Xs s)
    unfolding CCC1
    block_CCC1 = block_⊕ (block_total (CCCs f T X1 Xs s ++ padded (Cm f T X1 Xs s)) h_c all_out) h_t

    -- backwards MP is MC1
    MP_back : MP g T (CCC1 f T X1 Xs s) (CCCs f T X1 Xs s) (Cm f T X1 Xs s) ≡ MC1 f T X1 Xs s
    unfolding MP CCC1
    MP_back = total_undo (CCCs f T X1 Xs s ++ padded (Cm f T X1 Xs s)) h_c h_t all_out

    -- MC1 is MP
    MC1_back : MC1 g T (CCC1 f T X1 Xs s) (CCCs f T X1 Xs s) (Cm f T X1 Xs s) ≡ MP f T X1 Xs s
    unfolding Cm
    MC1_back =
        ap₂ (λ (t : Bool) (m : List ℕ). cond t (g (g m)) (g m)) (short_⊕ s (MM f T X1 Xs s)) MP_back ∙ MC1_undone (is_short s) h_p

    -- so that M1 is the same
    M1_back : M1 g T (CCC1 f T X1 Xs s) (CCCs f T X1 Xs s) (Cm f T X1 Xs s) ≡ M1 f T X1 Xs s
    M1_back = ap₂ (λ (a b : List ℕ). a ⊕ b) MP_back MC1_back ∙ ⊕_comm (MC1 f T X1 Xs s) (MP f T X1 Xs s) (h_c.size ∙ sym h_p.size)

    CCCs_back : CCCs g T (CCC1 f T X1 Xs s) (CCCs f T X1 Xs s) (Cm f T X1 Xs s) ≡ Xs
    unfolding CCCs
    CCCs_back = ap (λ (m : List ℕ). middle g m 2 m (CCCs f T X1 Xs s)) M1_back ∙ middle_undone h_m 2 (M1 f T X1 Xs s) Xs h_xs

    Cm_back : Cm g T (CCC1 f T X1 Xs s) (CCCs f T X1 Xs s) (Cm f T X1 Xs s) ≡ s
    unfolding Cm
    Cm_back = ap (λ (m : List ℕ). Cm f T X1 Xs s ⊕ g m) MP_back ∙ Cm_undone s h_p

    CCC1_back : CCC1 g T (CCC1 f T X1 Xs s) (CCCs f T X1 Xs s) (Cm f T X1 Xs s) ≡ X1
    unfolding CCC1 MP
    CCC1_back =
        ap₂ (λ (a : List ℕ) (b : List (List ℕ)). total a (b ++ padded (Cm g T (CCC1 f T X1 Xs s) (CCCs f T X1 Xs s) (Cm f T X1 Xs s))) ⊕ T) MC1_back CCCs_back
        ∙ ap (λ (c : List ℕ). total (MP f T X1 Xs s) (Xs ++ padded c) ⊕ T) Cm_back
        ∙ total_undo (Xs ++ padded s) h_x1 h_t (all_append Xs (padded s) h_xs (block_padded s ls bs))

  -- ---- the whole message

  module _ {L T : List ℕ} (h_l : Block L) (h_t : Block T) where
    -- split again, what the wide block gave is the blocks that left the second pass, and the short block
    on_blocks_lem : (Ps : List (List ℕ)) → AllBlocks Ps → 0 < length Ps → (s : List ℕ) → length s < 16 → Bytes s
        → wide g L T (wide_on f L T (enter f L Ps) s) ≡ join Ps ++ s
    unfolding wide wide_on enter leave
    on_blocks_lem [] k h s ls bs = absurd (not-suc-le-zero h)
    on_blocks_lem (P1 ∷ Ps) k h s ls bs =
        let X1 : List ℕ = f (L ⊕ P1) in
        let Xs : List (List ℕ) = enter f (double L) Ps in
        let h_x1 : Block X1 = u.keeps (block_⊕ h_l k.0) in
        let h_xs : AllBlocks Xs = block_enter (block_double L) Ps k.1 in
        let Y1 : List ℕ = CCC1 f T X1 Xs s in
        let Ys : List (List ℕ) = CCCs f T X1 Xs s in
        let s' : List ℕ = Cm f T X1 Xs s in
        let h_y : AllBlocks (Y1 ∷ Ys) = (block_CCC1 h_t h_x1 Xs h_xs s ls bs, block_CCCs h_t h_x1 Xs h_xs s ls bs) in
        let C : List (List ℕ) = leave f L (Y1 ∷ Ys) in
        let h_c : Sized C = all_sized C (block_leave h_l (Y1 ∷ Ys) h_y) in
        let ls' : length s' < 16 = omega (arith, length-Cm f T X1 Xs s) in
        ap₂ (λ (bs : List (List ℕ)) (t : List ℕ). wide_on g L T (enter g L bs) t)
        (blocks_of C s' h_c ls')
        (rest_join C s' h_c ls')
        ∙ ap (λ (bs : List (List ℕ)). wide_on g L T bs s') (enter_leave h_l (Y1 ∷ Ys) h_y)
        ∙ ap₂ (λ (bs : List (List ℕ)) (t : List ℕ). join (leave g L bs) ++ t)
        (ap₂ (λ (x : List ℕ) (xs : List (List ℕ)). x ∷ xs) (CCC1_back h_t h_x1 Xs h_xs s ls bs) (CCCs_back h_t h_x1 Xs h_xs s ls bs))
        (Cm_back h_t h_x1 Xs h_xs s ls bs)
        ∙ ap (λ (bs : List (List ℕ)). join bs ++ s) (leave_enter h_l (P1 ∷ Ps) k)

    pub wide_undone : (P : List ℕ) → 16 ≤ length P → Bytes P → wide g L T (wide f L T P) ≡ P
    unfolding wide
    wide_undone P h b =
        on_blocks_lem (blocks (full P) P) (all_blocks (full P) P (omega arith) b) (omega (arith, length-blocks (full P) P)) (rest P) (length_rest P)
        (bytes_drop (full P * 16) P b)
        ∙ join_blocks P
