-- T_star as the code makes it: a running sum and a running mask, block by block.
-- Assumes nothing.
use mathlib.Core.Path.{◌≡◌, refl, sym, ap, ap₂, ◌∙◌}
use mathlib.Core.List.{List, [], ◌∷◌, ◌++◌}
use Prim.Native.Nat.{ℕ, suc, ◌*◌, ◌/◌, ◌≤◌, ◌<◌}
use native.Mathlib.Nat.{not-suc-le-zero}
use native.Mathlib.Omega.{arith}
use lib.ListN.{length, take, drop, replicate, length-drop}
use Rattle.block.specs.Xor.{◌⊕◌}
use Rattle.block.specs.Blocks.{full, rest, blocks}
use Rattle.block.specs.Double.{double, doubles, pad}
use Rattle.block.proofs.XorLaws.{length_⊕, ⊕_comm, ⊕_zero}
use Rattle.block.proofs.BlockLaws.{first_rest}
use Rattle.mode.specs.Wide.{total}
use Rattle.mode.specs.TStar.{TTs, short_tt, sum, some_t_star, t_star, eme2_t_star}

-- the sum so far and what is left of the data, under the next block's mask
abbrev pub left : (List ℕ → List ℕ) → List ℕ → List ℕ → List ℕ → List ℕ
left f s R d = total s (TTs f R (blocks (full d) d) ++ short_tt f (double (doubles (full d) R)) (rest d))

pub left_turn : (f : List ℕ → List ℕ) (s R d : List ℕ) → 16 ≤ length d
    → left f s R d ≡ left f (s ⊕ (f (R ⊕ take 16 d) ⊕ R)) (double R) (drop 16 d)
unfolding total TTs doubles blocks
left_turn f s R d h =
    let n : full d ≡ suc (full (drop 16 d)) = omega (arith, ap (λ (m : ℕ). m / 16) (length-drop 16 d)) in
    ap₂ (λ (k : ℕ) (r : List ℕ). total s (TTs f R (blocks k d) ++ short_tt f (double (doubles k R)) r)) n (first_rest d h)

pub left_end : (f : List ℕ → List ℕ) (s R d : List ℕ) → length d < 16 → left f s R d ≡ total s (short_tt f (double R) d)
unfolding TTs doubles blocks
left_end f s R d h =
    let e : full d ≡ 0 = omega arith in
    ap (λ (k : ℕ). total s (TTs f R (blocks k d) ++ short_tt f (double (doubles k R)) (drop (k * 16) d))) e

pub none_left : (f : List ℕ → List ℕ) (s M d : List ℕ) → length d ≡ 0 → total s (short_tt f M d) ≡ s
unfolding total short_tt
none_left f s M [] h = refl
none_left f s M (x ∷ d) h = let z : ⊥ = omega arith in absurd z

pub some_left : (f : List ℕ → List ℕ) (s M d : List ℕ) → 0 < length d → total s (short_tt f M d) ≡ s ⊕ (f (M ⊕ pad d) ⊕ M)
unfolding total short_tt
some_left f s M [] h = absurd (not-suc-le-zero h)
some_left f s M (x ∷ d) h = refl

-- ---- where it starts

pub star_empty : (f : List ℕ → List ℕ) (K T : List ℕ) → length T ≡ 0 → eme2_t_star f K T ≡ f K
unfolding t_star
star_empty f K [] h = refl
star_empty f K (x ∷ T) h = let z : ⊥ = omega arith in absurd z

module _ (f : List ℕ → List ℕ) (size : (x : List ℕ) → length (f x) ≡ 16) where
  from_zero : (y : List ℕ) (ys : List (List ℕ)) → length y ≡ 16 → total y ys ≡ total (replicate 16 0 ⊕ y) ys
  from_zero y ys h = ap (λ (x : List ℕ). total x ys) (sym (⊕_comm (replicate 16 0) y (sym h) ∙ ⊕_zero y 16))

  sum_from_zero : (R : List ℕ) (Ts : List (List ℕ)) (M d : List ℕ) → sum (TTs f R Ts ++ short_tt f M d) ≡ total (replicate 16 0) (TTs f R Ts ++ short_tt f M d)
  unfolding total sum TTs short_tt
  sum_from_zero R [] M [] = refl
  sum_from_zero R [] M (x ∷ d) = from_zero (f (M ⊕ pad (x ∷ d)) ⊕ M) [] (length_⊕ (f (M ⊕ pad (x ∷ d))) M ∙ size (M ⊕ pad (x ∷ d)))
  sum_from_zero R (T ∷ Ts) M d = from_zero (f (R ⊕ T) ⊕ R) (TTs f (double R) Ts ++ short_tt f M d) (length_⊕ (f (R ⊕ T)) R ∙ size (R ⊕ T))

  pub star_start : (K T : List ℕ) → (length T ≡ 0 → ⊥) → eme2_t_star f K T ≡ left f (replicate 16 0) (double K) T
  unfolding t_star some_t_star
  star_start K [] h = absurd (h refl)
  star_start K (x ∷ T) h =
      sum_from_zero (double K) (blocks (full (x ∷ T)) (x ∷ T)) (double (doubles (full (x ∷ T)) (double K))) (rest (x ∷ T))
