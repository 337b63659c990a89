-- A fact about every number below n, from one test that the checker computes, one number after the other: how the rule of a
-- table is proved once over the whole table, and any equation between two functions of one byte.
-- Assumes nothing.
use Rattle.std.proofs.Common.{◌≡◌, ℕ, zero, suc, ◌+◌, ◌<◌, Bool, true, false, ◌&&◌, T, eqb, sym, ◌∙◌, subst, le_of_suc-le-suc, not-suc-le-zero}
use Rattle.std.proofs.Common.{add-zero, add-suc, suc-add, zero-add, eqb→eq}

and_left : (a b : Bool) → T (a && b) → T a
and_left true b t = tt
and_left false b t = t

and_right : (a b : Bool) → T (a && b) → T b
and_right true b t = t
and_right false b t = absurd t

-- f holds of the n numbers from i on
abbrev pub every : (ℕ → Bool) → ℕ → ℕ → Bool
every f i zero = true
every f i (suc n) = f i && every f (suc i) n

from : (f : ℕ → Bool) (i n : ℕ) → T (every f i n) → (k : ℕ) → k < n → T (f (i + k))
from f i zero t k h = absurd (not-suc-le-zero h)
from f i (suc n) t zero h = subst (λ (m : ℕ). T (f m)) (sym (add-zero i)) (and_left (f i) (every f (suc i) n) t)
from f i (suc n) t (suc k) h =
    subst (λ (m : ℕ). T (f m)) (suc-add i k ∙ sym (add-suc i k))
    (from f (suc i) n (and_right (f i) (every f (suc i) n) t) k (le_of_suc-le-suc h))

pub each : (f : ℕ → Bool) (n : ℕ) → T (every f 0 n) → (k : ℕ) → k < n → T (f k)
each f n t k h = subst (λ (m : ℕ). T (f m)) (zero-add k) (from f 0 n t k h)

-- two functions that agree below n, by the test that they do
pub agree : (f g : ℕ → ℕ) (n : ℕ) → T (every (λ x. eqb (f x) (g x)) 0 n) → (x : ℕ) → x < n → f x ≡ g x
agree f g n t x h = eqb→eq (f x) (g x) (each (λ x. eqb (f x) (g x)) n t x h)

-- and two functions of two numbers
pub agree₂ : (f g : ℕ → ℕ → ℕ) (m n : ℕ) → T (every (λ x. every (λ y. eqb (f x y) (g x y)) 0 n) 0 m) → (x y : ℕ) → x < m → y < n → f x y ≡ g x y
agree₂ f g m n t x y h k = agree (f x) (g x) n (each (λ x. every (λ y. eqb (f x y) (g x y)) 0 n) m t x h) y k
