-- Laws of the terms of a product, and of their sum. Of the second factor the sum is one of its doublings, so it passes through sums and doublings,
-- and two such sums pass through each other.
-- Assumes nothing.
use mathlib.Core.Path.{◌≡◌, refl, sym, ap, ap₂, ◌∙◌}
use mathlib.Core.Bool.{Bool, true, false, cond}
use mathlib.Core.List.{List}
use Prim.Native.Nat.{ℕ, zero, suc, ◌*◌, ◌<◌}
use native.Mathlib.Nat.{mul-zero, mul-one}
use native.Mathlib.Omega.{arith}
use lib.Dec.{eqb}
use lib.ListN.{length, replicate}
use Rattle.std.proofs.lemmas.List.{ext_get_or}
use Rattle.block.specs.Tab.{byte}
use Rattle.block.specs.Bytes.{Block}
use Rattle.block.specs.Xor.{◌⊕◌}
use Rattle.block.specs.Double.{double, doubles}
use Rattle.block.proofs.TabLaws.{get_or-tab}
use Rattle.block.proofs.BytesLaws.{block_zeros}
use Rattle.block.proofs.XorLaws.{block_⊕, ⊕_exchange}
use Rattle.block.proofs.DoubleLaws.{block_double, doubles_suc, block_doubles}
use Rattle.block.proofs.DoubleSum.{double_⊕, doubles_⊕}
use Rattle.field.specs.Elements.{bit, only_if, terms}

-- ---- of the element 0

zeros_⊕ : replicate 16 0 ⊕ replicate 16 0 ≡ replicate 16 0
unfolding ◌⊕◌
zeros_⊕ = refl

double_zeros : double (replicate 16 0) ≡ replicate 16 0
unfolding double
double_zeros = refl

doubles_zeros : (n : ℕ) → doubles n (replicate 16 0) ≡ replicate 16 0
unfolding doubles
doubles_zeros zero = refl
doubles_zeros (suc n) = ap (doubles n) double_zeros ∙ doubles_zeros n

-- ---- of one term

pub block_only_if : (t : Bool) {b : List ℕ} → Block b → Block (only_if t b)
block_only_if true h = h
block_only_if false h = block_zeros

double-only_if : (t : Bool) (b : List ℕ) → only_if t (double b) ≡ double (only_if t b)
double-only_if true b = refl
double-only_if false b = sym double_zeros

only_if_⊕ : (t : Bool) (b c : List ℕ) → only_if t (b ⊕ c) ≡ only_if t b ⊕ only_if t c
only_if_⊕ true b c = refl
only_if_⊕ false b c = sym zeros_⊕

only_if_zeros : (t : Bool) → only_if t (replicate 16 0) ≡ replicate 16 0
only_if_zeros true = refl
only_if_zeros false = refl

pub byte-only_if : (t : Bool) (b : List ℕ) (k : ℕ) → k < 16 → byte (only_if t b) k ≡ cond t (byte b k) 0
byte-only_if true b k h = refl
byte-only_if false b k h = get_or-tab 16 (λ j. 0) k 0 h

-- as the code makes it, each byte times the bit
times_bit : (t : ℕ) (b : List ℕ) (i : ℕ) → t < 2 → i < 16 → byte b i * t ≡ byte (only_if (eqb t 1) b) i
times_bit zero b i h k = mul-zero (byte b i) ∙ sym (get_or-tab 16 (λ j. 0) i 0 k)
times_bit (suc zero) b i h k = mul-one (byte b i)
times_bit (suc (suc t)) b i h k = let z : ⊥ = omega arith in absurd z

pub times_each : (t : ℕ) (b r : List ℕ) → t < 2 → Block b → length r ≡ 16 → ((i : ℕ) → i < 16 → byte r i ≡ byte b i * t) → r ≡ only_if (eqb t 1) b
times_each t b r h k l at =
    ext_get_or 0 r (only_if (eqb t 1) b) (l ∙ sym (block_only_if (eqb t 1) k).size) (λ i m. at i (omega arith) ∙ times_bit t b i h (omega arith))

-- ---- of their sum

pub block_terms : (n : ℕ) (a : List ℕ) {b : List ℕ} → Block b → Block (terms n a b)
unfolding terms
block_terms zero a h = block_zeros
block_terms (suc n) a h = block_⊕ (block_terms n a h) (block_only_if (bit a n) (block_doubles n h))

module _ (a : List ℕ) where
  terms_zeros : (n : ℕ) → terms n a (replicate 16 0) ≡ replicate 16 0
  unfolding terms
  terms_zeros zero = refl
  terms_zeros (suc n) =
      ap₂ (λ (s t : List ℕ). s ⊕ t) (terms_zeros n) (ap (only_if (bit a n)) (doubles_zeros n) ∙ only_if_zeros (bit a n)) ∙ zeros_⊕

  pub terms_⊕ : (n : ℕ) {b c : List ℕ} → Block b → Block c → terms n a (b ⊕ c) ≡ terms n a b ⊕ terms n a c
  unfolding terms
  terms_⊕ zero h k = sym zeros_⊕
  terms_⊕ (suc n) {b} {c} h k =
      let t : Bool = bit a n in
      ap₂ (λ (x y : List ℕ). x ⊕ y) (terms_⊕ n h k) (ap (only_if t) (doubles_⊕ n h k) ∙ only_if_⊕ t (doubles n b) (doubles n c))
      ∙ ⊕_exchange (block_terms n a h) (block_terms n a k) (block_only_if t (block_doubles n h)) (block_only_if t (block_doubles n k))

  terms_double : (n : ℕ) {b : List ℕ} → Block b → terms n a (double b) ≡ double (terms n a b)
  unfolding doubles terms
  terms_double zero h = sym double_zeros
  terms_double (suc n) {b} h =
      let t : Bool = bit a n in
      ap₂ (λ (x y : List ℕ). x ⊕ y) (terms_double n h) (ap (only_if t) (doubles_suc n b) ∙ double-only_if t (doubles n b))
      ∙ sym (double_⊕ (block_terms n a h) (block_only_if t (block_doubles n h)))

  pub terms_doubles : (k n : ℕ) {b : List ℕ} → Block b → terms n a (doubles k b) ≡ doubles k (terms n a b)
  unfolding doubles
  terms_doubles zero n h = refl
  terms_doubles (suc k) n {b} h = terms_doubles k n (block_double b) ∙ ap (doubles k) (terms_double n h)

  terms-only_if : (t : Bool) (n : ℕ) (b : List ℕ) → terms n a (only_if t b) ≡ only_if t (terms n a b)
  terms-only_if true n b = refl
  terms-only_if false n b = terms_zeros n

  pub terms_swap : (m : ℕ) (c : List ℕ) (n : ℕ) {b : List ℕ} → Block b → terms m a (terms n c b) ≡ terms n c (terms m a b)
  unfolding terms
  terms_swap m c zero h = terms_zeros m
  terms_swap m c (suc n) {b} h =
      let t : Bool = bit c n in
      terms_⊕ m (block_terms n c h) (block_only_if t (block_doubles n h))
      ∙ ap₂ (λ (x y : List ℕ). x ⊕ y) (terms_swap m c n h) (terms-only_if t m (doubles n b) ∙ ap (only_if t) (terms_doubles n m h))
