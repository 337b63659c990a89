-- 01's number 1: the calls take a key exactly where it is 48 or 64 bytes.
-- Assumes nothing.
use mathlib.Core.Path.{◌≡◌, refl, ap, ap₂, ◌∙◌}
use mathlib.Core.Bool.{Bool, true, false, not, ◌||◌}
use mathlib.Core.List.{List}
use Prim.Native.Nat.{ℕ, ◌+◌, ◌-◌, ◌<◌}
use native.Mathlib.Omega.{arith}
use borrow.Author.Tests.{eqb-true, eqb-false, eq-eqb, ne_eqb}
use lib.Dec.{eqb}
use lib.ListN.{length}
use Rattle.plans.specs.Plans.{bad_key, bad_keys}
use Rattle.claims.specs.Claims.{Key}

-- what is left before Key2 and Key3 is m bytes, of which there are some, exactly where the whole is m + 32
left : (n m : ℕ) → 0 < m → (t : Bool) → eqb n (m + 32) ≡ t → eqb (n - 32) m ≡ t
left n m h true e = let q : n ≡ m + 32 = eqb-true n (m + 32) e in eq-eqb (n - 32) m (omega arith)
left n m h false e = let q : n ≡ m + 32 → ⊥ = eqb-false n (m + 32) e in ne_eqb (n - 32) m (λ r. q (omega arith))

pub refused_key : (k : List ℕ) → bad_key k ≡ not (eqb (length k) 48 || eqb (length k) 64)
refused_key k =
    ap₂ (λ (a b : Bool). not (a || b)) (left (length k) 16 (omega arith) (eqb (length k) 48) refl) (left (length k) 32 (omega arith) (eqb (length k) 64) refl)

pub keys_taken : (o w : List ℕ) → Key o → Key w → bad_keys o w ≡ false
unfolding bad_keys
keys_taken o w a b = ap₂ (λ (x y : Bool). x || y) (refused_key o ∙ ap not a.1) (refused_key w ∙ ap not b.1)
