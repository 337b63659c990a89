-- The steps that the code takes are those of the definition: masks around the permutation of all full blocks; and the blocks that can be read
-- alone, then what is left.
-- Assumes nothing.
use mathlib.Core.Path.{◌≡◌, refl, sym, ap, ap₂, ◌∙◌, subst}
use mathlib.Core.Bool.{Bool}
use mathlib.Core.List.{List, [], ◌∷◌, ◌++◌, map, append-nil}
use mathlib.Core.Logic.{◌⊎◌}
use Prim.Native.Nat.{ℕ, ◌+◌, ◌-◌, ◌*◌, ◌≤◌, ◌<◌}
use native.Mathlib.Nat.{zero-add}
use native.Mathlib.Omega.{arith}
use borrow.Rule.Slice.PartMut.{put_mid}
use lib.Dec.{lit<}
use lib.ListN.{length, take, drop, length-append, length-drop, drop_of_length-le}
use lib.Seq.{length-take-le, take_all, take_at, drop_at}
use Rattle.block.specs.Xor.{◌⊕◌}
use Rattle.block.specs.Blocks.{block_at, with_block, full, rest, blocks, join, on_blocks}
use Rattle.block.specs.Double.{double, doubles}
use Rattle.block.proofs.XorLaws.{length_⊕}
use Rattle.block.proofs.BlockLaws.{Sized, sized_map, sized_blocks, length-blocks, length-join, length_rest, join_blocks_take, on_join}
use Rattle.block.proofs.PartLaws.{part_changed}
use Rattle.field.specs.Masks.{masked}
use Rattle.field.proofs.MaskLaws.{sized_masked}
use Rattle.unit.specs.Unit.{alone, xts_block, xts_blocks, Cm, CP, stolen, last_two, xts_unit}
use Rattle.unit.proofs.AloneLaws.{left_of}

-- ---- masks around the permutation

masks_around : (f : List ℕ → List ℕ) (T : List ℕ) (Ps : List (List ℕ)) → masked T (map f (masked T Ps)) ≡ xts_blocks f T Ps
unfolding masked xts_block xts_blocks
masks_around f T [] = refl
masks_around f T (P ∷ Ps) = ap (λ (xs : List (List ℕ)). (f (P ⊕ T) ⊕ T) ∷ xs) (masks_around f (double T) Ps)

pub passes : (f : List ℕ → List ℕ) → ((x : List ℕ) → length (f x) ≡ 16) → (T s : List ℕ)
    → on_blocks (masked T) (on_blocks (map f) (on_blocks (masked T) s)) ≡ on_blocks (xts_blocks f T) s
unfolding on_blocks
passes f size T s =
    let Ps : List (List ℕ) = blocks (full s) s in
    let r : List ℕ = rest s in
    let lr : length r < 16 = length_rest s in
    let h_m : Sized (masked T Ps) = sized_masked T Ps (sized_blocks (full s) s (omega arith)) in
    ap (on_blocks (masked T)) (on_join (map f) (masked T Ps) r h_m lr)
    ∙ on_join (masked T) (map f (masked T Ps)) r (sized_map f size (masked T Ps)) lr
    ∙ ap (λ (xs : List (List ℕ)). join xs ++ r) (masks_around f T Ps)

-- the front of a list, as long as its first n blocks, is those blocks put together
front : (n : ℕ) (l : List ℕ) → 16 * n ≤ length l → take (16 * n) l ≡ join (blocks n l) ++ []
front n l h =
    let B : List (List ℕ) = blocks n l in
    let k : length (join B) ≡ 16 * n = length-join B (sized_blocks n l h) ∙ omega (arith, length-blocks n l) in
    ap (take (16 * n)) (sym (join_blocks_take n l h)) ∙ take_at (join B) (drop (16 * n) l) (16 * n) k ∙ sym (append-nil (join B))

on_front : (h : List (List ℕ) → List (List ℕ)) (n : ℕ) (l : List ℕ) → 16 * n ≤ length l → on_blocks h (take (16 * n) l) ≡ join (h (blocks n l))
on_front h n l k =
    ap (on_blocks h) (front n l k) ∙ on_join h (blocks n l) [] (sized_blocks n l k) (lit< tt) ∙ append-nil (join (h (blocks n l)))

-- ---- stealing: each hypothesis is what one call of the code ensures

module _ (f : List ℕ → List ℕ) (size : (x : List ℕ) → length (f x) ≡ 16) where
  length_under : (T P : List ℕ) → length (xts_block f T P) ≡ 16
  unfolding xts_block
  length_under T P = length_⊕ (f (P ⊕ T)) T ∙ size (P ⊕ T)

  pub stealing : (T₁ T₂ s : List ℕ) → 16 < length s → length s < 32 → (cc pp s1 y : List ℕ)
      → cc ≡ xts_block f T₁ (block_at s 0)
      → pp ≡ take (length s - 16) (drop 16 s) ++ drop (0 + length (take (length s - 16) (drop 16 s))) cc
      → s1 ≡ take 16 s ++ (take (length s - 16) cc ++ drop (16 + length (take (length s - 16) cc)) s)
      → y ≡ xts_block f T₂ pp
      → with_block s1 0 y ≡ stolen f T₁ T₂ (take 16 s) (drop 16 s)
  unfolding stolen
  stealing T₁ T₂ s h k cc pp s1 y e_cc e_pp e_s1 e_y =
      let r : List ℕ = drop 16 s in
      let m : List ℕ = take (length s - 16) cc in
      let l : length cc ≡ 16 = ap length e_cc ∙ length_under T₁ (block_at s 0) in
      let part : take (length s - 16) r ≡ r = take_all (length s - 16) r (omega (arith, length-drop 16 s)) in
      let q_pp : pp ≡ r ++ CP f T₁ T₂ (take 16 s) r =
      e_pp ∙ ap₂ (λ (x c : List ℕ). x ++ drop (0 + length x) c) part e_cc ∙ ap (λ (j : ℕ). r ++ drop j (xts_block f T₁ (take 16 s))) (zero-add (length r)) in
      let j : length s - 16 ≡ length r = omega (arith, length-drop 16 s) in
      let q_m : m ≡ Cm f T₁ T₂ (take 16 s) r = ap₂ (λ (i : ℕ) (c : List ℕ). take i c) j e_cc in
      let n : length m ≡ length s - 16 = length-take-le (length s - 16) cc (omega arith) in
      let none : drop (16 + length m) s ≡ [] = drop_of_length-le s {i = 16 + length m} (omega arith) in
      ap₂ (λ (a z : List ℕ). a ++ drop 16 z) (e_y ∙ ap (xts_block f T₂) q_pp)
      (e_s1 ∙ ap₂ (λ (a z : List ℕ). take 16 s ++ (a ++ z)) q_m none ∙ ap (λ (a : List ℕ). take 16 s ++ a) (append-nil (Cm f T₁ T₂ (take 16 s) r)))
      ∙ ap (λ (z : List ℕ). xts_block f T₂ (r ++ CP f T₁ T₂ (take 16 s) r) ++ z)
      (drop_at (take 16 s) (Cm f T₁ T₂ (take 16 s) r) 16 (length-take-le 16 s (omega arith)))

-- ---- the unit, of k blocks that can be read alone and what is left

module _ (s : List ℕ) (h : 16 ≤ length s) (k : ℕ) (e : k ≡ alone (length s)) where
  pub within : 16 * k ≤ length s
  within = subst (λ (j : ℕ). 16 * j ≤ length s) (sym e) (left_of (length s) h).within

  -- the unit is as long once its blocks have become x
  pub as_long : (x : List ℕ) → length x ≡ length (take (16 * k) s) → length (x ++ drop (16 * k) s) ≡ length s
  as_long x l =
      let w : 16 * k ≤ length s = within in
      length-append x (drop (16 * k) s) ∙ omega (arith, length-drop (16 * k) s, length-take-le (16 * k) s (omega arith))

  -- what is left is what stealing takes, whatever became of the blocks
  pub left_over : (s1 : List ℕ) → length s1 ≡ length s
      → (length (take (length s1 - 16 * k) (drop (16 * k) s1)) ≡ 0)
      ⊎ ((16 < length (take (length s1 - 16 * k) (drop (16 * k) s1))) × (length (take (length s1 - 16 * k) (drop (16 * k) s1)) < 32))
  left_over s1 l =
      let d : List ℕ = drop (16 * k) s1 in
      let m : length (take (length s1 - 16 * k) d) ≡ length s - 16 * alone (length s) =
      ap length (take_all (length s1 - 16 * k) d (omega (arith, length-drop (16 * k) s1)))
      ∙ length-drop (16 * k) s1
      ∙ ap₂ (λ (i j : ℕ). i - 16 * j) l e in
      subst (λ (i : ℕ). (i ≡ 0) ⊎ ((16 < i) × (i < 32))) (sym m) (left_of (length s) h).left

  pub unit_steps : (f : List ℕ → List ℕ) (back : Bool) (T next x y : List ℕ)
      → next ≡ doubles (full (take (16 * k) s)) T
      → x ≡ on_blocks (xts_blocks f T) (take (16 * k) s)
      → length x ≡ length (take (16 * k) s)
      → y ≡ last_two f back next (take (length (x ++ drop (16 * k) s) - 16 * k) (drop (16 * k) (x ++ drop (16 * k) s)))
      → put_mid (16 * k) (length (x ++ drop (16 * k) s) - 16 * k) (x ++ drop (16 * k) s) y ≡ xts_unit f back T s
  unfolding xts_unit
  unit_steps f back T next x y e_next e_x l_x e_y =
      let w : 16 * k ≤ length s = within in
      let d : List ℕ = drop (16 * k) s in
      let s1 : List ℕ = x ++ d in
      let l : length x ≡ 16 * k = l_x ∙ length-take-le (16 * k) s w in
      let n : full (take (16 * k) s) ≡ k = omega (arith, l, l_x) in
      let q_next : next ≡ doubles k T = e_next ∙ ap (λ (j : ℕ). doubles j T) n in
      let q_x : x ≡ join (xts_blocks f T (blocks k s)) = e_x ∙ on_front (xts_blocks f T) k s w in
      let m : length s1 ≡ length s = as_long x l_x in
      let q_d : drop (16 * k) s1 ≡ d = drop_at x d (16 * k) l in
      let q_t : take (16 * k) s1 ≡ x = take_at x d (16 * k) l in
      let q_l : take (length s1 - 16 * k) (drop (16 * k) s1) ≡ d =
      take_all (length s1 - 16 * k) (drop (16 * k) s1) (omega (arith, length-drop (16 * k) s1)) ∙ q_d in
      let q_y : y ≡ last_two f back (doubles k T) d = e_y ∙ ap₂ (last_two f back) q_next q_l in
      let none : drop (length s1) s1 ≡ [] = drop_of_length-le s1 {i = length s1} (omega arith) in
      part_changed (16 * k) (length s1) s1 y (omega arith)
      ∙ ap₂ (λ (a z : List ℕ). a ++ (y ++ z)) q_t none
      ∙ ap (λ (a : List ℕ). x ++ a) (append-nil y)
      ∙ ap₂ (λ (a z : List ℕ). a ++ z) q_x q_y
      ∙ ap (λ (j : ℕ). join (xts_blocks f T (blocks j s)) ++ last_two f back (doubles j T) (drop (16 * j) s)) e
