-- The planes of a group, one put and the others kept.
-- Assumes nothing.
use mathlib.Core.Path.{◌≡◌, refl, sym, ap, subst, ◌∙◌}
use mathlib.Core.List.{List, [], ◌∷◌}
use Prim.Native.Nat.{ℕ, zero, suc, ◌+◌, ◌*◌, ◌≤◌, ◌<◌}
use native.Mathlib.Nat.{add-zero, le_of_suc-le-suc, not-suc-le-zero}
use native.Mathlib.Omega.{arith}
use lib.ListN.{length, get_or, set, length-set}
use lib.Seq.{get_or-set_same, get_or-set_other}
use borrow.Author.Count.{below_more}
use Rattle.bits.specs.declared.BitPlanes.{BitPlanes}
use Rattle.bits.specs.Planes.{words, planes, planes_of, puts, with_planes}

-- word j of the planes at t
pub planes_at : (g : List ℕ) (t j : ℕ) → j < 8 → get_or (planes_of g t) j 0 ≡ get_or g (t + 4 * j) 0
planes_at g t zero h = ap (λ (n : ℕ). get_or g n 0) (sym (add-zero t))
planes_at g t (suc zero) h = refl
planes_at g t (suc (suc zero)) h = refl
planes_at g t (suc (suc (suc zero))) h = refl
planes_at g t (suc (suc (suc (suc zero)))) h = refl
planes_at g t (suc (suc (suc (suc (suc zero))))) h = refl
planes_at g t (suc (suc (suc (suc (suc (suc zero)))))) h = refl
planes_at g t (suc (suc (suc (suc (suc (suc (suc zero))))))) h = refl
planes_at g t (suc (suc (suc (suc (suc (suc (suc (suc j)))))))) h = omega arith

-- the planes that have these words
abbrev of_words : List ℕ → BitPlanes
of_words ws = record {
  p0 = get_or ws 0 0;
  p1 = get_or ws 1 0;
  p2 = get_or ws 2 0;
  p3 = get_or ws 3 0;
  p4 = get_or ws 4 0;
  p5 = get_or ws 5 0;
  p6 = get_or ws 6 0;
  p7 = get_or ws 7 0;
}

-- a place that none of them is at is kept
puts_kept : (g : List ℕ) (t k : ℕ) (xs : List ℕ) (i : ℕ) → ((m : ℕ) → m < length xs → i ≡ t + (k + 4 * m) → ⊥)
    → get_or (puts g t k xs) i 0 ≡ get_or g i 0
puts_kept g t k [] i out = refl
puts_kept g t k (x ∷ xs) i out =
    puts_kept (set g (t + k) x) t (k + 4) xs i (λ m h e. out (suc m) (omega arith) (omega arith))
    ∙ get_or-set_other g (t + k) i x 0 (λ e. out 0 (omega arith) (omega arith))

puts_found : (g : List ℕ) (t k : ℕ) (xs : List ℕ) (m : ℕ) → m < length xs → t + (k + 4 * m) < length g
    → get_or (puts g t k xs) (t + (k + 4 * m)) 0 ≡ get_or xs m 0
puts_found g t k [] m h l = absurd (not-suc-le-zero h)
puts_found g t k (x ∷ xs) zero h l =
    let e : t + (k + 4 * 0) ≡ t + k = omega arith in
    puts_kept (set g (t + k) x) t (k + 4) xs (t + (k + 4 * 0)) (λ n o p. omega arith)
    ∙ ap (λ (i : ℕ). get_or (set g (t + k) x) i 0) e
    ∙ get_or-set_same g (t + k) x 0 (omega arith)
puts_found g t k (x ∷ xs) (suc m) h l =
    let e : t + (k + 4 * suc m) ≡ t + (k + 4 + 4 * m) = omega arith in
    ap (λ (i : ℕ). get_or (puts (set g (t + k) x) t (k + 4) xs) i 0) e
    ∙ puts_found (set g (t + k) x) t (k + 4) xs m (le_of_suc-le-suc h) (omega (arith, length-set g (t + k) x))

module _ (g : List ℕ) (t : ℕ) (q : BitPlanes) (h : t < 4) (l : length g ≡ 32) where
  abbrev rest : List ℕ
  rest = q.p1 ∷ q.p2 ∷ q.p3 ∷ q.p4 ∷ q.p5 ∷ q.p6 ∷ q.p7 ∷ []

  abbrev first : List ℕ
  first = set g t q.p0

  words_put : planes_of (with_planes g t (words q)) t ≡ words q
  words_put =
      λ i.
      (puts_kept first t 4 rest t (λ m k e. omega arith) ∙ get_or-set_same g t q.p0 0 (omega arith)) i
      ∷ puts_found first t 4 rest 0 (omega arith) (omega (arith, length-set g t q.p0)) i
      ∷ puts_found first t 4 rest 1 (omega arith) (omega (arith, length-set g t q.p0)) i
      ∷ puts_found first t 4 rest 2 (omega arith) (omega (arith, length-set g t q.p0)) i
      ∷ puts_found first t 4 rest 3 (omega arith) (omega (arith, length-set g t q.p0)) i
      ∷ puts_found first t 4 rest 4 (omega arith) (omega (arith, length-set g t q.p0)) i
      ∷ puts_found first t 4 rest 5 (omega arith) (omega (arith, length-set g t q.p0)) i
      ∷ puts_found first t 4 rest 6 (omega arith) (omega (arith, length-set g t q.p0)) i
      ∷ []

  words_kept : (u : ℕ) → u < 4 → (u ≡ t → ⊥) → planes_of (with_planes g t (words q)) u ≡ planes_of g u
  words_kept u k n =
      λ i.
      (puts_kept first t 4 rest u (λ m o e. omega arith) ∙ get_or-set_other g t u q.p0 0 (λ e. omega arith)) i
      ∷ (puts_kept first t 4 rest (u + 4) (λ m o e. omega arith) ∙ get_or-set_other g t (u + 4) q.p0 0 (λ e. omega arith)) i
      ∷ (puts_kept first t 4 rest (u + 8) (λ m o e. omega arith) ∙ get_or-set_other g t (u + 8) q.p0 0 (λ e. omega arith)) i
      ∷ (puts_kept first t 4 rest (u + 12) (λ m o e. omega arith) ∙ get_or-set_other g t (u + 12) q.p0 0 (λ e. omega arith)) i
      ∷ (puts_kept first t 4 rest (u + 16) (λ m o e. omega arith) ∙ get_or-set_other g t (u + 16) q.p0 0 (λ e. omega arith)) i
      ∷ (puts_kept first t 4 rest (u + 20) (λ m o e. omega arith) ∙ get_or-set_other g t (u + 20) q.p0 0 (λ e. omega arith)) i
      ∷ (puts_kept first t 4 rest (u + 24) (λ m o e. omega arith) ∙ get_or-set_other g t (u + 24) q.p0 0 (λ e. omega arith)) i
      ∷ (puts_kept first t 4 rest (u + 28) (λ m o e. omega arith) ∙ get_or-set_other g t (u + 28) q.p0 0 (λ e. omega arith)) i
      ∷ []

  -- the planes that are put
  pub planes_put : planes (with_planes g t (words q)) t ≡ q
  planes_put = ap of_words words_put

  -- and the others
  pub planes_kept : (u : ℕ) → u < 4 → (u ≡ t → ⊥) → planes (with_planes g t (words q)) u ≡ planes g u
  planes_kept u k n = ap of_words (words_kept u k n)

-- one more turn of a loop that puts planes
module _ (g g' : List ℕ) (t : ℕ) (q : BitPlanes) (h : t < 4) (l : length g ≡ 32) (e : g' ≡ with_planes g t (words q)) where
  -- what holds of those that are done
  pub done_more : (P : ℕ → BitPlanes → Type 0) → ((u : ℕ) → u < t → P u (planes g u)) → P t q → (u : ℕ) → u < t + 1 → P u (planes g' u)
  done_more P d p =
      subst (λ (z : List ℕ). (u : ℕ) → u < t + 1 → P u (planes z u)) (sym e)
      (below_more (λ u. P u (planes (with_planes g t (words q)) u)) t
      (λ u m. subst (λ (z : BitPlanes). P u z) (sym (planes_kept g t q h l u (omega arith) (λ n. omega arith))) (d u m))
      (subst (λ (z : BitPlanes). P t z) (sym (planes_put g t q h l)) p))

  -- and those that are left
  pub left_more : (g₀ : List ℕ) → ((u : ℕ) → t ≤ u → u < 4 → planes g u ≡ planes g₀ u)
      → (u : ℕ) → t + 1 ≤ u → u < 4 → planes g' u ≡ planes g₀ u
  left_more g₀ d u k m =
      ap (λ (z : List ℕ). planes z u) e ∙ planes_kept g t q h l u m (λ n. omega arith) ∙ d u (omega arith) m
