-- The steps that the code takes over the bytes of a message are together the wide block of the definition.
-- Assumes nothing.
use mathlib.Core.Path.{◌≡◌, refl, sym, ap, ap₂, ◌∙◌}
use mathlib.Core.Bool.{Bool, true, false, cond}
use mathlib.Core.List.{List, [], ◌∷◌, ◌++◌, map, append_assoc}
use Prim.Native.Nat.{ℕ, suc, ◌*◌, ◌≤◌, ◌<◌}
use native.Mathlib.Nat.{not-suc-le-zero}
use native.Mathlib.Omega.{arith}
use lib.ListN.{length, take, drop}
use lib.Seq.{length-take-le, take_at, drop_at}
use Rattle.block.specs.Xor.{◌⊕◌}
use Rattle.block.specs.Blocks.{block_at, with_block, full, rest, blocks, join, on_blocks}
use Rattle.block.specs.Double.{double}
use Rattle.block.proofs.XorLaws.{length_⊕}
use Rattle.block.proofs.BlockLaws.{Sized, sized_map, sized_blocks, length-blocks, first_block, first_rest, length_rest}
use Rattle.block.proofs.BlockLaws.{length-join, full_join, rest_join, blocks_of, on_join}
use Rattle.field.specs.Masks.{masked}
use Rattle.field.proofs.MaskLaws.{sized_masked}
use Rattle.mode.specs.Wide.{enter, total, padded, mask, is_short, middle, MP, MM, MC1, M1, Cm, CCCs, CCC1, wide_on, wide}
use Rattle.mode.proofs.ShortBlock.{length-Cm}
use Rattle.mode.proofs.Lengths.{length-enter}
use Rattle.wide.specs.Passes.{total_of, mixed_on, mixed}
use Rattle.wide.proofs.PassLaws.{enter_masked, leave_masked}
use Rattle.wide.proofs.MixLaws.{length_ccc}
use Rattle.wide.proofs.ShortLaws.{shorted}

length-total : (X : List ℕ) (Ys : List (List ℕ)) → length (total X Ys) ≡ length X
unfolding total
length-total X [] = refl
length-total X (Y ∷ Ys) = length-total (X ⊕ Y) Ys ∙ length_⊕ X Y

-- the sum and the short block, where the bytes come as blocks put together with a short rest
total_join : (X : List ℕ) (Ys : List (List ℕ)) (s : List ℕ) → Sized Ys → length s < 16 → total_of X (join Ys ++ s) ≡ total X (Ys ++ padded s)
total_join X Ys s h k = ap₂ (λ (xs : List (List ℕ)) (r : List ℕ). total X (xs ++ padded r)) (blocks_of Ys s h k) (rest_join Ys s h k)

short_join : (Ys : List (List ℕ)) (s M : List ℕ) → Sized Ys → length s < 16 → shorted (join Ys ++ s) M ≡ join Ys ++ (s ⊕ M)
short_join Ys s M h k =
    ap₂ (λ (n : ℕ) (r : List ℕ). take (n * 16) (join Ys ++ s) ++ (r ⊕ M)) (full_join Ys s h k) (rest_join Ys s h k)
    ∙ ap (λ (t : List ℕ). t ++ (s ⊕ M)) (take_at (join Ys) s (length Ys * 16) (length-join Ys h))

module _ (f : List ℕ → List ℕ) (size : (x : List ℕ) → length (f x) ≡ 16) where
  -- ---- sizes

  sized_enter : (L : List ℕ) (Ps : List (List ℕ)) → Sized (enter f L Ps)
  unfolding enter
  sized_enter L [] = tt
  sized_enter L (P ∷ Ps) = (size (L ⊕ P), sized_enter (double L) Ps)

  sized_middle : (M1 : List ℕ) (i : ℕ) (M : List ℕ) (Xs : List (List ℕ)) → Sized Xs → Sized (middle f M1 i M Xs)
  unfolding middle
  sized_middle _ i M [] h = tt
  sized_middle M1 i M (X ∷ Xs) h =
      (length_ccc f size M1 i (mask f M1 i M X) X h.0, sized_middle M1 (suc i) (mask f M1 i M X) Xs h.1)

  length-MC1 : (t : Bool) (P : List ℕ) → length (cond t (f (f P)) (f P)) ≡ 16
  length-MC1 true P = size (f P)
  length-MC1 false P = size P

  module _ (T X1 : List ℕ) (Xs : List (List ℕ)) (h : Sized Xs) (s : List ℕ) where
    sized_CCCs : Sized (CCCs f T X1 Xs s)
    unfolding CCCs
    sized_CCCs = sized_middle (M1 f T X1 Xs s) 2 (M1 f T X1 Xs s) Xs h

    length-CCC1 : length (CCC1 f T X1 Xs s) ≡ 16
    unfolding CCC1
    length-CCC1 =
        let Ys : List (List ℕ) = CCCs f T X1 Xs s ++ padded (Cm f T X1 Xs s) in
        length_⊕ (total (MC1 f T X1 Xs s) Ys) T ∙ length-total (MC1 f T X1 Xs s) Ys ∙ length-MC1 (is_short s) (MP f T X1 Xs s)

  -- ---- steps 18 to 40: each hypothesis is what one call of the code ensures

  module _ (T s : List ℕ) (h : 16 ≤ length s) where
    pub mixing : (mp mmv c1 m1v s1 s2 y : List ℕ)
        → mp ≡ total_of (block_at s 0) (drop 16 s) ⊕ T
        → mmv ≡ f mp
        → c1 ≡ cond (is_short (rest s)) (f mmv) mmv
        → m1v ≡ mp ⊕ c1
        → s1 ≡ take 16 s ++ on_blocks (middle f m1v 2 m1v) (drop 16 s)
        → s2 ≡ shorted s1 mmv
        → y ≡ total_of c1 (drop 16 s2) ⊕ T
        → with_block s2 0 y ≡ mixed f T s
    unfolding on_blocks join MP Cm CCCs CCC1 mixed_on mixed
    mixing mp mmv c1 m1v s1 s2 y e_mp e_mm e_c1 e_m1 e_s1 e_s2 e_y =
        let X1 : List ℕ = take 16 s in
        let Xs : List (List ℕ) = blocks (full (drop 16 s)) (drop 16 s) in
        let r : List ℕ = rest (drop 16 s) in
        let h_x : Sized Xs = sized_blocks (full (drop 16 s)) (drop 16 s) (omega arith) in
        let lr : length r < 16 = length_rest (drop 16 s) in
        let C : List (List ℕ) = CCCs f T X1 Xs r in
        let h_c : Sized C = sized_CCCs T X1 Xs h_x r in
        let h_y : Sized (X1 ∷ C) = (length-take-le 16 s h, h_c) in
        let c : List ℕ = Cm f T X1 Xs r in
        let lc : length c < 16 = omega (arith, length-Cm f T X1 Xs r) in
        let q_mm : mmv ≡ MM f T X1 Xs r = e_mm ∙ ap f e_mp in
        let q_c1 : c1 ≡ MC1 f T X1 Xs r = e_c1 ∙ ap₂ (λ (d m : List ℕ). cond (is_short d) (f m) m) (first_rest s h) q_mm in
        let q_m1 : m1v ≡ M1 f T X1 Xs r = e_m1 ∙ ap₂ (λ (a b : List ℕ). a ⊕ b) e_mp q_c1 in
        let q_s1 : s1 ≡ join (X1 ∷ C) ++ r =
        e_s1 ∙ ap (λ (m : List ℕ). X1 ++ on_blocks (middle f m 2 m) (drop 16 s)) q_m1 ∙ sym (append_assoc X1 (join C) r) in
        let q_s2 : s2 ≡ X1 ++ (join C ++ c) =
        e_s2 ∙ ap₂ shorted q_s1 q_mm ∙ short_join (X1 ∷ C) r (MM f T X1 Xs r) h_y lr ∙ append_assoc X1 (join C) c in
        let q_d : drop 16 s2 ≡ join C ++ c = ap (λ (z : List ℕ). drop 16 z) q_s2 ∙ drop_at X1 (join C ++ c) 16 h_y.0 in
        let q_y : y ≡ CCC1 f T X1 Xs r =
        e_y ∙ ap₂ (λ (a z : List ℕ). total_of a z ⊕ T) q_c1 q_d ∙ ap (λ (z : List ℕ). z ⊕ T) (total_join (MC1 f T X1 Xs r) C c h_c lc) in
        ap₂ (λ (a z : List ℕ). a ++ z) q_y q_d
        ∙ sym (append_assoc (CCC1 f T X1 Xs r) (join C) c)
        ∙ sym (ap₂ (mixed_on f T) (first_block s h) (first_rest s h))

  -- ---- the two passes around it

  leaving : (L T : List ℕ) (Xs : List (List ℕ)) → Sized Xs → 0 < length Xs → (s : List ℕ) → length s < 16
      → on_blocks (masked L) (on_blocks (map f) (mixed_on f T Xs s)) ≡ wide_on f L T Xs s
  unfolding mixed_on wide_on
  leaving L T [] h k s l = absurd (not-suc-le-zero k)
  leaving L T (X1 ∷ Xs) h k s l =
      let Y : List (List ℕ) = CCC1 f T X1 Xs s ∷ CCCs f T X1 Xs s in
      let h_y : Sized Y = (length-CCC1 T X1 Xs h.1 s, sized_CCCs T X1 Xs h.1 s) in
      let c : List ℕ = Cm f T X1 Xs s in
      let lc : length c < 16 = omega (arith, length-Cm f T X1 Xs s) in
      ap (on_blocks (masked L)) (on_join (map f) Y c h_y lc)
      ∙ on_join (masked L) (map f Y) c (sized_map f size Y) lc
      ∙ ap (λ (bs : List (List ℕ)). join bs ++ c) (leave_masked f L Y)

  pub wide_passes : (L T P : List ℕ) → length L ≡ 16 → 16 ≤ length P
      → on_blocks (masked L) (on_blocks (map f) (mixed f T (on_blocks (map f) (on_blocks (masked L) P)))) ≡ wide f L T P
  unfolding on_blocks mixed wide
  wide_passes L T P h_l h =
      let Bs : List (List ℕ) = blocks (full P) P in
      let h_b : Sized Bs = sized_blocks (full P) P (omega arith) in
      let r : List ℕ = rest P in
      let lr : length r < 16 = length_rest P in
      let X : List (List ℕ) = enter f L Bs in
      let h_x : Sized X = sized_enter L Bs in
      let entered : on_blocks (map f) (on_blocks (masked L) P) ≡ join X ++ r =
      on_join (map f) (masked L Bs) r (sized_masked L Bs h_b) lr ∙ ap (λ (bs : List (List ℕ)). join bs ++ r) (enter_masked f L h_l Bs h_b) in
      let n : 0 < length X = omega (arith, length-enter f L Bs, length-blocks (full P) P) in
      ap (λ (z : List ℕ). on_blocks (masked L) (on_blocks (map f) (mixed f T z))) entered
      ∙ ap (λ (z : List ℕ). on_blocks (masked L) (on_blocks (map f) z)) (ap₂ (mixed_on f T) (blocks_of X r h_x lr) (rest_join X r h_x lr))
      ∙ leaving L T X h_x n r lr
