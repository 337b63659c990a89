-- Alpha^n, for n below 128, is the block whose bit n alone is 1, so that every block is the sum of the alpha^n over its bits: a block times 1 is itself.
-- Assumes nothing.
use mathlib.Core.Path.{◌≡◌, refl, sym, ap, ap₂, ◌∙◌}
use mathlib.Core.Bool.{Bool, true, false, cond}
use mathlib.Core.List.{List}
use Prim.Native.Nat.{ℕ, zero, suc, ◌+◌, ◌-◌, ◌*◌, ◌/◌, ◌%◌, ◌^◌, ◌≤◌, ◌<◌}
use native.Mathlib.Nat.{le_refl}
use native.Mathlib.Omega.{arith}
use borrow.Author.Tests.{eqb-true, eqb-false}
use lib.Bits.{bit_xor, xor_zero_r}
use lib.Dec.{eqb, lit<}
use lib.ListN.{length}
use lib.Seq.{ext_get_or}
use Rattle.block.specs.Tab.{tab, byte}
use Rattle.block.specs.Bytes.{Block}
use Rattle.block.specs.Double.{double, doubles}
use Rattle.block.proofs.Table.{agree₂}
use Rattle.block.proofs.TabLaws.{get_or-tab}
use Rattle.block.proofs.BytesLaws.{bytes_cons, bytes_zeros}
use Rattle.block.proofs.XorLaws.{get_or-⊕}
use Rattle.block.proofs.DoubleLaws.{length-double, doubles_suc, block_doubles}
use Rattle.field.specs.Elements.{one, bit, only_if, terms}
use Rattle.field.proofs.TermLaws.{block_only_if, byte-only_if, block_terms}

pub block_one : Block one
block_one = record { size = refl; bytes = bytes_cons (lit< tt) (bytes_zeros 15) }

-- two lists of 16 are equal place by place
places : (a b : List ℕ) → length a ≡ 16 → length b ≡ 16 → ((k : ℕ) → k < 16 → byte a k ≡ byte b k) → a ≡ b
places a b h k e = ext_get_or 0 a b (h ∙ sym k) (λ i l. e i (omega arith))

-- ---- the single bits

-- byte k of the block whose bit n alone is 1
abbrev single_byte : ℕ → ℕ → ℕ
single_byte n k = cond (eqb (n / 8) k) (2 ^ (n % 8)) 0

single : ℕ → List ℕ
single n = tab 16 (single_byte n)

double_single : (n : ℕ) → n < 127 → double (single n) ≡ single (suc n)
unfolding double single
double_single n h =
    places (double (single n)) (single (suc n)) (length-double (single n)) refl
    (λ k l. agree₂ (λ n k. byte (double (single n)) k) (λ n k. byte (single (suc n)) k) 127 16 tt n k h l)

doubles_one : (n : ℕ) → n < 128 → doubles n one ≡ single n
unfolding doubles single
doubles_one zero h = refl
doubles_one (suc n) h = doubles_suc n one ∙ ap double (doubles_one n (omega arith)) ∙ double_single n (omega arith)

byte_doubles_one : (n k : ℕ) → n < 128 → k < 16 → byte (doubles n one) k ≡ single_byte n k
unfolding single
byte_doubles_one n k h l = ap (λ (b : List ℕ). byte b k) (doubles_one n h) ∙ get_or-tab 16 (single_byte n) k 0 l

-- ---- the sum over the first n bits of a block

-- how many of the first n bits are in byte k
abbrev count : ℕ → ℕ → ℕ
count n k = 8 - (8 * k + 8 - n)

-- the first j + 1 bits of x, from the first j
one_more : (j x : ℕ) → j < 8 → x < 256 → bit_xor (x % 2 ^ j) (cond (eqb (x / 2 ^ j % 2) 1) (2 ^ j) 0) ≡ x % 2 ^ suc j
one_more j x h k = agree₂ (λ j x. bit_xor (x % 2 ^ j) (cond (eqb (x / 2 ^ j % 2) 1) (2 ^ j) 0)) (λ j x. x % 2 ^ suc j) 8 256 tt j x h k

-- byte k of the sum, one bit more: in the byte that bit n is in, and in another
turn : (a : List ℕ) (n k s : ℕ) → k < 16 → byte a k < 256 → s ≡ byte a k % 2 ^ count n k
    → bit_xor s (cond (bit a n) (single_byte n k) 0) ≡ byte a k % 2 ^ count (suc n) k
turn a n k s h l e = go (eqb (n / 8) k) refl
  where
    none : (t : Bool) → ◌≡◌ {A = ℕ} (cond t 0 0) 0
    none true = refl
    none false = refl

    go : (t : Bool) → eqb (n / 8) k ≡ t → bit_xor s (cond (bit a n) (cond t (2 ^ (n % 8)) 0) 0) ≡ byte a k % 2 ^ count (suc n) k
    go true q =
        let i : n / 8 ≡ k = eqb-true (n / 8) k q in
        let before : count n k ≡ n % 8 = omega arith in
        let after : suc (n % 8) ≡ count (suc n) k = omega arith in
        ap₂ (λ (s j : ℕ). bit_xor s (cond (eqb (byte a j / 2 ^ (n % 8) % 2) 1) (2 ^ (n % 8)) 0)) (e ∙ ap (λ (m : ℕ). byte a k % 2 ^ m) before) i
        ∙ one_more (n % 8) (byte a k) (omega arith) l
        ∙ ap (λ (m : ℕ). byte a k % 2 ^ m) after
    go false q =
        let i : n / 8 ≡ k → ⊥ = eqb-false (n / 8) k q in
        let same : count n k ≡ count (suc n) k = omega arith in
        ap (λ (x : ℕ). bit_xor s x) (none (bit a n)) ∙ xor_zero_r s ∙ e ∙ ap (λ (m : ℕ). byte a k % 2 ^ m) same

low_bits : {a : List ℕ} → Block a → (n : ℕ) → n ≤ 128 → (k : ℕ) → k < 16 → byte (terms n a one) k ≡ byte a k % 2 ^ count n k
unfolding terms
low_bits {a} h zero l k m =
    let none : 0 ≡ count 0 k = omega arith in
    get_or-tab 16 (λ j. 0) k 0 m ∙ first ∙ ap (λ (c : ℕ). byte a k % 2 ^ c) none
  where
    first : 0 ≡ byte a k % 2 ^ 0
    first = omega arith
low_bits {a} h (suc n) l k m =
    let t : Bool = bit a n in
    let s : List ℕ = terms n a one in
    let sizes : length s ≡ length (only_if t (doubles n one)) = (block_terms n a block_one).size ∙ sym (block_only_if t (block_doubles n block_one)).size in
    get_or-⊕ s (only_if t (doubles n one)) k sizes
    ∙ ap (λ (x : ℕ). bit_xor (byte s k) x)
    (byte-only_if t (doubles n one) k m ∙ ap (λ (x : ℕ). cond t x 0) (byte_doubles_one n k (omega arith) m))
    ∙ turn a n k (byte s k) m (h.bytes.below k) (low_bits h n (omega arith) k m)

pub terms_one : {a : List ℕ} → Block a → terms 128 a one ≡ a
terms_one {a} h =
    places (terms 128 a one) a (block_terms 128 a block_one).size h.size (λ k l. low_bits h 128 (le_refl 128) k l ∙ whole k l)
  where
    fits : (x : ℕ) → x < 256 → x % 256 ≡ x
    fits x l = omega arith

    whole : (k : ℕ) → k < 16 → byte a k % 2 ^ count 128 k ≡ byte a k
    whole k l =
        let all : count 128 k ≡ 8 = omega arith in
        ap (λ (c : ℕ). byte a k % 2 ^ c) all ∙ fits (byte a k) (h.bytes.below k)
