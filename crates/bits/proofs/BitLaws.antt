-- Bits of xor, of a mask, of shifts and of a remainder; and the number that bits make.
-- Assumes nothing.
use mathlib.Core.Path.{◌≡◌, refl, sym, ap, ap₂, ◌∙◌}
use Prim.Native.Nat.{ℕ, zero, suc, ◌+◌, ◌*◌, ◌/◌, ◌%◌, ◌^◌, ◌<◌}
use native.Mathlib.Nat.{zero-add, suc-add, mod-lt, pow-suc, pow-succ', div-div-eq-div-mul}
use native.Mathlib.Omega.{arith}
use lib.Arith.{digits_div, digits_mod, mod-mul}
use lib.Bits.{bit_xor, bit_and, xor_shr, xor_mod, and_shr, and_mod}
use lib.Dec.{lit<}
use lib.Pow.{pow_pos}
use Rattle.block.specs.Tab.{tab}
use Rattle.bits.specs.Planes.{bit, of_bits}

pub bit_zero : (i : ℕ) → bit 0 i ≡ 0
unfolding bit
bit_zero zero = refl
bit_zero (suc i) = bit_zero i

pub bit_lt : (w i : ℕ) → bit w i < 2
unfolding bit
bit_lt w zero = mod-lt w (lit< tt)
bit_lt w (suc i) = bit_lt (w / 2) i

pub bit_xor_lem : (a b i : ℕ) → bit (bit_xor a b) i ≡ bit_xor (bit a i) (bit b i)
unfolding bit
bit_xor_lem a b zero = xor_mod a b 1
bit_xor_lem a b (suc i) = ap (λ (x : ℕ). bit x i) (xor_shr a b 1) ∙ bit_xor_lem (a / 2) (b / 2) i

pub bit_and_lem : (a b i : ℕ) → bit (bit_and a b) i ≡ bit_and (bit a i) (bit b i)
unfolding bit
bit_and_lem a b zero = and_mod a b 1
bit_and_lem a b (suc i) = ap (λ (x : ℕ). bit x i) (and_shr a b 1) ∙ bit_and_lem (a / 2) (b / 2) i

-- two shifts to the right are one
halves : (a s : ℕ) → a / 2 ^ suc s ≡ a / 2 / 2 ^ s
halves a s = ap (λ (m : ℕ). a / m) (pow-succ' 2 s) ∙ sym (div-div-eq-div-mul a 2 (2 ^ s))

pub bit_right : (a s i : ℕ) → bit (a / 2 ^ s) i ≡ bit a (s + i)
unfolding bit
bit_right a zero i = let e : a / 1 ≡ a = omega arith in ap₂ (λ (x j : ℕ). bit x j) e (sym (zero-add i))
bit_right a (suc s) i =
    ap (λ (x : ℕ). bit x i) (halves a s) ∙ bit_right (a / 2) s i ∙ ap (λ (j : ℕ). bit a j) (sym (suc-add s i))

-- a remainder by a power of two: its half, and its last bit
module _ (x m : ℕ) where
  parts : x % 2 ^ suc m ≡ (x / 2 % 2 ^ m) * 2 + x % 2
  parts = ap (λ (n : ℕ). x % n) (pow-suc 2 m) ∙ mod-mul x (pow_pos m) (lit< tt)

  pub mod_half : x % 2 ^ suc m / 2 ≡ x / 2 % 2 ^ m
  mod_half = ap (λ (n : ℕ). n / 2) parts ∙ digits_div (x / 2 % 2 ^ m) (mod-lt x (lit< tt))

  pub mod_last : x % 2 ^ suc m % 2 ≡ x % 2
  mod_last = ap (λ (n : ℕ). n % 2) parts ∙ digits_mod (x / 2 % 2 ^ m) (mod-lt x (lit< tt))

-- the first n bits of a number make its remainder by 2 ^ n
pub of_bits_lem : (n x : ℕ) → of_bits (tab n (λ i. bit x i)) ≡ x % 2 ^ n
unfolding bit
of_bits_lem zero x = sym (omega arith)
of_bits_lem (suc n) x =
    ap (λ (r : ℕ). x % 2 + 2 * r) (of_bits_lem n (x / 2))
    ∙ sym (parts x n ∙ omega arith)
