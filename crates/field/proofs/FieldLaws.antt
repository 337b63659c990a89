-- The field's laws: products are commutative and associative, distribute over sums, and 1 is neutral; and alpha^k times a block is the block doubled k
-- times, for every k. All but that 1 is neutral follow from the laws of a product's terms.
-- Assumes nothing.
use mathlib.Core.Path.{◌≡◌, refl, sym, ap, ◌∙◌}
use mathlib.Core.List.{List}
use Prim.Native.Nat.{ℕ, suc, ◌+◌, ◌/◌, ◌%◌}
use native.Mathlib.Omega.{arith}
use Rattle.block.specs.Bytes.{Block}
use Rattle.block.specs.Xor.{◌⊕◌}
use Rattle.block.specs.Double.{double, doubles}
use Rattle.block.proofs.DoubleLaws.{doubles_suc, doubles_add, block_doubles}
use Rattle.field.specs.Elements.{one, power, product}
use Rattle.field.proofs.TermLaws.{block_terms, terms_⊕, terms_doubles, terms_swap}
use Rattle.field.proofs.BitLaws.{block_one, terms_one}

pub block_product : (a : List ℕ) {b : List ℕ} → Block b → Block (product a b)
unfolding product
block_product a h = block_terms 128 a h

pub block_power : (k : ℕ) → Block (power k)
unfolding power
block_power k = block_doubles k block_one

pub product_one : {a : List ℕ} → Block a → product a one ≡ a
unfolding product
product_one h = terms_one h

pub product_⊕ : (a : List ℕ) {b c : List ℕ} → Block b → Block c → product a (b ⊕ c) ≡ product a b ⊕ product a c
unfolding product
product_⊕ a h k = terms_⊕ a 128 h k

-- a doubling, and a factor, taken past another factor
product_doubles : (a : List ℕ) (k : ℕ) {b : List ℕ} → Block b → product a (doubles k b) ≡ doubles k (product a b)
unfolding product
product_doubles a k h = terms_doubles a k 128 h

product_swap : (a c : List ℕ) {b : List ℕ} → Block b → product a (product c b) ≡ product c (product a b)
unfolding product
product_swap a c h = terms_swap a 128 c 128 h

pub product_comm : {a b : List ℕ} → Block a → Block b → product a b ≡ product b a
product_comm {a} {b} h k =
    ap (product a) (sym (product_one k)) ∙ product_swap a b block_one ∙ ap (product b) (product_one h)

pub product_assoc : {a b c : List ℕ} → Block a → Block b → Block c → product (product a b) c ≡ product a (product b c)
product_assoc {a} {b} {c} ha hb hc =
    product_comm (block_product a hb) hc ∙ product_swap c a hb ∙ ap (product a) (product_comm hc hb)

-- the law by which block k of a text gets its mask: alpha^k times b is b doubled k times
pub power_product : (k : ℕ) {b : List ℕ} → Block b → product (power k) b ≡ doubles k b
unfolding power
power_product k {b} h = product_comm (block_power k) h ∙ product_doubles b k block_one ∙ ap (doubles k) (product_one h)

-- and of two powers
pub power_add : (j k : ℕ) → product (power j) (power k) ≡ power (j + k)
unfolding power
power_add j k = power_product j (block_power k) ∙ sym (doubles_add j k one)

-- ---- by halving: from h = k/2, alpha^k is the square of alpha^h, and twice that where k is odd

pub power_zero : power 0 ≡ one
unfolding doubles power
power_zero = refl

pub power_even : (k : ℕ) → k % 2 ≡ 0 → product (power (k / 2)) (power (k / 2)) ≡ power k
power_even k e =
    let n : k / 2 + k / 2 ≡ k = omega arith in
    power_add (k / 2) (k / 2) ∙ ap power n

pub power_odd : (k : ℕ) → (k % 2 ≡ 0 → ⊥) → double (product (power (k / 2)) (power (k / 2))) ≡ power k
unfolding power
power_odd k e =
    let n : suc (k / 2 + k / 2) ≡ k = omega arith in
    ap double (power_add (k / 2) (k / 2)) ∙ sym (doubles_suc (k / 2 + k / 2) one) ∙ ap power n
