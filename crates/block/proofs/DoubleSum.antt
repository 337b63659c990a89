-- Twice a sum of blocks is the sum of their doubles.
-- Assumes nothing.
use Rattle.std.proofs.Common.{◌≡◌, ℕ, zero, suc, ◌+◌, ◌*◌, ◌/◌, ◌%◌, ◌<◌, Bool, true, false, cond, ltb, List, ◌∷◌, length, sym, refl, ap, ◌∙◌, ap₂}
use Rattle.std.proofs.Common.{one-mul, zero-mul, arith, ltb-false, ltb-true}
use lib.Bits.{bit_xor, xor_shr, xor_mod, xor_block}
use Rattle.block.specs.Tab.{byte}
use Rattle.block.specs.Bytes.{Block}
use Rattle.block.specs.Xor.{◌⊕◌}
use Rattle.block.specs.Double.{carried, twice, double, doubles}
use Rattle.block.proofs.TabLaws.{tab_ext}
use Rattle.block.proofs.XorLaws.{xor_byte, xor_exchange, bits_times, get_or-⊕}
use Rattle.block.proofs.DoubleLaws.{block_double}

-- by a product: the top bit of y times x
carried_of : (y x : ℕ) → y < 256 → carried y x ≡ y / 128 * x
carried_of y x h = go (ltb 127 y) refl
  where
    go : (t : Bool) → ltb 127 y ≡ t → cond t x 0 ≡ y / 128 * x
    go true e = let k : 127 < y = ltb-true 127 y e in let q : y / 128 ≡ 1 = omega arith in sym (ap (λ (n : ℕ). n * x) q ∙ one-mul x)
    go false e = let q : y / 128 ≡ 0 = omega (arith, ltb-false 127 y e) in sym (ap (λ (n : ℕ). n * x) q ∙ zero-mul x)

carried_sum : (u v : ℕ) → u < 256 → v < 256 → carried (bit_xor u v) 0x87 ≡ bit_xor (carried u 0x87) (carried v 0x87)
carried_sum u v h k =
    carried_of (bit_xor u v) 0x87 (xor_byte u v h k)
    ∙ ap (λ (n : ℕ). n * 0x87) (xor_shr u v 7)
    ∙ bits_times (u / 128) (v / 128) 0x87 (omega arith) (omega arith)
    ∙ sym (ap₂ (λ (a b : ℕ). bit_xor a b) (carried_of u 0x87 h) (carried_of v 0x87 k))

-- a byte of the double, by its digits: seven bits of x, and below them the top bit of the byte before, u
digits : (x u : ℕ) → u < 256 → (x + x) % 256 + carried u 1 ≡ x % 128 * 2 + u / 128
digits x u h = omega (arith, carried_of u 1 h)

twice_sum : (x y u v : ℕ) → u < 256 → v < 256
    → (bit_xor x y + bit_xor x y) % 256 + carried (bit_xor u v) 1 ≡ bit_xor ((x + x) % 256 + carried u 1) ((y + y) % 256 + carried v 1)
twice_sum x y u v h k =
    digits (bit_xor x y) (bit_xor u v) (xor_byte u v h k)
    ∙ ap₂ (λ (a r : ℕ). a * 2 + r) (xor_mod x y 7) (xor_shr u v 7)
    ∙ sym (xor_block 1 (x % 128) (y % 128) (u / 128) (v / 128) (omega arith) (omega arith))
    ∙ sym (ap₂ (λ (a b : ℕ). bit_xor a b) (digits x u h) (digits y v k))

-- byte 0, which has no byte before it
low_sum : (x y : ℕ) → (bit_xor x y + bit_xor x y) % 256 ≡ bit_xor ((x + x) % 256) ((y + y) % 256)
low_sum x y = sym (even (bit_xor x y)) ∙ twice_sum x y 0 0 (omega arith) (omega arith) ∙ ap₂ (λ (a b : ℕ). bit_xor a b) (even x) (even y)
  where
    even : (x : ℕ) → (x + x) % 256 + 0 ≡ (x + x) % 256
    even x = omega arith

pub double_⊕ : {a b : List ℕ} → Block a → Block b → double (a ⊕ b) ≡ double a ⊕ double b
unfolding double ◌⊕◌
double_⊕ {a} {b} h k =
    let e : length a ≡ length b = h.size ∙ sym k.size in
    ap₂ (λ (x : ℕ) (xs : List ℕ). x ∷ xs)
    (ap₂ (λ (x u : ℕ). bit_xor ((x + x) % 256) (carried u 0x87)) (get_or-⊕ a b 0 e) (get_or-⊕ a b 15 e)
    ∙ ap₂ (λ (x u : ℕ). bit_xor x u) (low_sum (byte a 0) (byte b 0)) (carried_sum (byte a 15) (byte b 15) (h.bytes.below 15) (k.bytes.below 15))
    ∙ xor_exchange ((byte a 0 + byte a 0) % 256) ((byte b 0 + byte b 0) % 256) (carried (byte a 15) 0x87) (carried (byte b 15) 0x87))
    (tab_ext 15 (λ i. twice (a ⊕ b) (suc i)) (λ i. bit_xor (twice a (suc i)) (twice b (suc i)))
    (λ i l. ap₂ (λ (x u : ℕ). (x + x) % 256 + carried u 1) (get_or-⊕ a b (suc i) e) (get_or-⊕ a b i e)
    ∙ twice_sum (byte a (suc i)) (byte b (suc i)) (byte a i) (byte b i) (h.bytes.below i) (k.bytes.below i)))

pub doubles_⊕ : (n : ℕ) {a b : List ℕ} → Block a → Block b → doubles n (a ⊕ b) ≡ doubles n a ⊕ doubles n b
unfolding doubles
doubles_⊕ zero h k = refl
doubles_⊕ (suc n) {a} {b} h k = ap (doubles n) (double_⊕ h k) ∙ doubles_⊕ n (block_double a) (block_double b)
