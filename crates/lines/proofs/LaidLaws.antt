-- Laws of bytes laid into a buffer: nothing, one byte, one text after another; and from the front on they are an overlay.
-- Assumes nothing.
use mathlib.Core.Path.{◌≡◌, refl, sym, ap, ◌∙◌, subst}
use mathlib.Core.List.{List, [], ◌∷◌, ◌++◌}
use Prim.Native.Nat.{ℕ, suc, ◌+◌, ◌≤◌, ◌<◌}
use native.Mathlib.Nat.{add-zero, add-suc, suc-add, zero-add}
use native.Mathlib.Omega.{arith}
use lib.ListN.{length, take, set, get_or, length-append}
use lib.Seq.{sets, length-sets, set_out, take-nil, take-suc}
use Rattle.lines.specs.Laid.{overlay, Laid}

-- ---- one after another

pub laid_nothing : (at : ℕ) (b : List ℕ) → Laid [] at b at b
laid_nothing at b = record { place = sym (add-zero at); bytes = refl }

-- a byte past the end changes nothing
pub laid_past : (x at : ℕ) (b : List ℕ) → length b ≤ at → Laid (x ∷ []) at b (at + 1) b
laid_past x at b h = record { place = refl; bytes = sym (set_out b at x h) }

sets_append : (t u b : List ℕ) (at : ℕ) → sets b at (t ++ u) ≡ sets (sets b at t) (at + length t) u
sets_append [] u b at = ap (λ (k : ℕ). sets b k u) (sym (add-zero at))
sets_append (x ∷ t) u b at =
    sets_append t u (set b at x) (suc at)
    ∙ ap (λ (k : ℕ). sets (sets (set b at x) (suc at) t) k u) (suc-add at (length t) ∙ sym (add-suc at (length t)))

pub laid_then : {t u b b' b'' : List ℕ} {at n m : ℕ} → Laid t at b n b' → Laid u n b' m b'' → Laid (t ++ u) at b m b''
laid_then {t} {u} {b} {b'} {b''} {at} {n} {m} p q =
    let e : length (t ++ u) ≡ length t + length u = length-append t u in
    record {
      place = omega arith;
      bytes = q.bytes ∙ (λ i. sets (p.bytes i) (p.place i) u) ∙ sym (sets_append t u b at);
    }

-- the same bytes by another name
pub laid_as : {t u b b' : List ℕ} {at n : ℕ} → t ≡ u → Laid t at b n b' → Laid u at b n b'
laid_as {t} {u} {b} {b'} {at} {n} e p = subst (λ (x : List ℕ). Laid x at b n b') e p

-- the buffer keeps its length
pub laid_length : {t b b' : List ℕ} {at n : ℕ} → Laid t at b n b' → length b' ≡ length b
laid_length {t} {b} {b'} {at} {n} p = ap length p.bytes ∙ length-sets b at t

-- ---- in a loop that goes through a text

pub laid_more : (t : List ℕ) (i : ℕ) {b b' b'' : List ℕ} {at n m : ℕ} → i < length t
    → Laid (take i t) at b n b' → Laid (get_or t i 0 ∷ []) n b' m b'' → Laid (take (suc i) t) at b m b''
laid_more t i {b} {b'} {b''} {at} {n} {m} h p q = laid_as (sym (take-suc t i 0 h)) (laid_then p q)

-- ---- from the front on

sets_nil : (t : List ℕ) (i : ℕ) → sets [] i t ≡ []
sets_nil [] i = refl
sets_nil (x ∷ t) i = sets_nil t (suc i)

sets_behind : (t b : List ℕ) (x i : ℕ) → sets (x ∷ b) (suc i) t ≡ x ∷ sets b i t
sets_behind [] b x i = refl
sets_behind (y ∷ t) b x i = sets_behind t (set b i y) x (suc i)

sets_front : (t b : List ℕ) → sets b 0 t ≡ overlay t b
unfolding overlay
sets_front [] b = sym (ap (λ (l : List ℕ). l ++ b) (take-nil (length b)))
sets_front (y ∷ t) [] = sets_nil t 1
sets_front (y ∷ t) (x ∷ b) = sets_behind t b y 0 ∙ ap (λ (l : List ℕ). y ∷ l) (sets_front t b)

pub laid_front : {t b b' : List ℕ} {n : ℕ} → Laid t 0 b n b' → (n ≡ length t) × (b' ≡ overlay t b)
laid_front {t} {b} {b'} {n} p = (p.place ∙ zero-add (length t), p.bytes ∙ sets_front t b)
