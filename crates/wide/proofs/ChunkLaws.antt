-- The full blocks of a list as the library lends them, a list of arrays: block i is the 16 bytes from 16 i on.
-- Assumes nothing.
use Rattle.std.proofs.Common.{◌≡◌, ℕ, zero, suc, ◌+◌, ◌-◌, ◌*◌, ◌<◌, List, length, get_or, take, drop, refl, ap, ◌∙◌, le_of_suc-le-suc}
use Rattle.std.proofs.Common.{not-suc-le-zero, arith, drop-drop, take_all, length-drop}
use Rattle.std.specs.Simd.{first_chunks}

pub chunk_at : (n : ℕ) (l : List ℕ) (i : ℕ) (d : List ℕ) → i < n → get_or (first_chunks 16 n l) i d ≡ take 16 (drop (16 * i) l)
chunk_at zero l i d h = absurd (not-suc-le-zero h)
chunk_at (suc n) l zero d h = refl
chunk_at (suc n) l (suc i) d h =
    let e : 16 + 16 * i ≡ 16 * suc i = omega arith in
    chunk_at n (drop 16 l) i d (le_of_suc-le-suc h) ∙ ap (λ (x : List ℕ). take 16 x) (drop-drop (16 * i) 16 l ∙ ap (λ (j : ℕ). drop j l) e)

-- the bytes from n on
pub tail : (n : ℕ) (s : List ℕ) → take (length s - n) (drop n s) ≡ drop n s
tail n s = take_all (length s - n) (drop n s) (omega (arith, length-drop n s))
