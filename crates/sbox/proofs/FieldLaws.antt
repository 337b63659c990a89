-- Laws of the byte field: products are bytes, and a product with a sum is the sum of the products.
-- Assumes nothing.
use mathlib.Core.Path.{◌≡◌, refl, sym, ap, ap₂, ◌∙◌}
use Prim.Native.Nat.{ℕ, zero, suc, ◌*◌, ◌/◌, ◌%◌, ◌<◌}
use native.Mathlib.Nat.{add-zero}
use native.Mathlib.Omega.{arith}
use lib.Bits.{bit_xor, xor_shr, xor_mod, xor_block}
use lib.Dec.{lit<}
use Rattle.block.proofs.XorLaws.{xor_byte, xor_exchange}
use Rattle.sbox.specs.Field.{reduction, xtime, plus, times_by, ◌•◌}

xtime_byte : (x : ℕ) → x < 256 → xtime x < 256
xtime_byte x h = xor_byte (x * 2 % 256) (x / 128 * reduction) (omega arith) (omega arith)

plus_byte : (d x s : ℕ) → x < 256 → s < 256 → plus d x s < 256
plus_byte zero x s h k = k
plus_byte (suc d) x s h k = xor_byte s x k h

times_byte : (n a x : ℕ) → x < 256 → times_by n a x < 256
times_byte zero a x h = lit< tt
times_byte (suc n) a x h = plus_byte (a % 2) x (xtime (times_by n (a / 2) x)) h (xtime_byte (times_by n (a / 2) x) (times_byte n (a / 2) x h))

pub •-byte : (a x : ℕ) → x < 256 → a • x < 256
unfolding ◌•◌
•-byte a x h = times_byte 8 a x h

-- what x^8 leaves, of two top bits
carry_sum : (p q : ℕ) → p < 2 → q < 2 → bit_xor p q * reduction ≡ bit_xor (p * reduction) (q * reduction)
carry_sum zero zero h k = refl
carry_sum zero (suc zero) h k = refl
carry_sum (suc zero) zero h k = refl
carry_sum (suc zero) (suc zero) h k = refl
carry_sum zero (suc (suc q)) h k = omega arith
carry_sum (suc zero) (suc (suc q)) h k = omega arith
carry_sum (suc (suc p)) q h k = omega arith

xtime_sum : (x y : ℕ) → x < 256 → y < 256 → xtime (bit_xor x y) ≡ bit_xor (xtime x) (xtime y)
xtime_sum x y h k =
    ap₂ (λ (l c : ℕ). bit_xor l c)
    (ap (λ (n : ℕ). n % 256) (doubled x y) ∙ xor_mod (x * 2) (y * 2) 8)
    (ap (λ (n : ℕ). n * reduction) (xor_shr x y 7) ∙ carry_sum (x / 128) (y / 128) (omega arith) (omega arith))
    ∙ xor_exchange (x * 2 % 256) (y * 2 % 256) (x / 128 * reduction) (y / 128 * reduction)
  where
    doubled : (x y : ℕ) → bit_xor x y * 2 ≡ bit_xor (x * 2) (y * 2)
    doubled x y =
        sym (add-zero (bit_xor x y * 2))
        ∙ sym (xor_block 1 x y 0 0 (lit< tt) (lit< tt))
        ∙ ap₂ (λ (a b : ℕ). bit_xor a b) (add-zero (x * 2)) (add-zero (y * 2))

plus_sum : (d x y s t : ℕ) → plus d (bit_xor x y) (bit_xor s t) ≡ bit_xor (plus d x s) (plus d y t)
plus_sum zero x y s t = refl
plus_sum (suc d) x y s t = xor_exchange s t x y

times_sum : (n a x y : ℕ) → x < 256 → y < 256 → times_by n a (bit_xor x y) ≡ bit_xor (times_by n a x) (times_by n a y)
times_sum zero a x y h k = refl
times_sum (suc n) a x y h k =
    ap (λ (s : ℕ). plus (a % 2) (bit_xor x y) s)
    (ap xtime (times_sum n (a / 2) x y h k)
    ∙ xtime_sum (times_by n (a / 2) x) (times_by n (a / 2) y) (times_byte n (a / 2) x h) (times_byte n (a / 2) y k))
    ∙ plus_sum (a % 2) x y (xtime (times_by n (a / 2) x)) (xtime (times_by n (a / 2) y))

pub •-sum : (a x y : ℕ) → x < 256 → y < 256 → a • bit_xor x y ≡ bit_xor (a • x) (a • y)
unfolding ◌•◌
•-sum a x y h k = times_sum 8 a x y h k
