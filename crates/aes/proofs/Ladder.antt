-- Each way out of the calls, from the tests that lead there.
-- Assumes nothing.
use Rattle.std.specs.Prelude.{Err, Ok}
use mathlib.Core.Path.{◌≡◌, sym, ap, ◌∙◌}
use mathlib.Core.Bool.{Bool, true, false, cond, not}
use mathlib.Core.List.{List, ◌++◌, append-nil}
use Prim.Native.Nat.{ℕ}
use native.Mathlib.Nat.{le_of_eq}
use borrow.Author.Tests.{eq-eqb, ne_eqb}
use lib.Dec.{eqb}
use lib.ListN.{length, drop_of_length-le}
use lib.Seq.{take_all}
use Rattle.block.specs.Blocks.{block_at, with_block}
use Rattle.numbers.specs.declared.Refusal.TheVariants.{KeyLength, MessageLength}
use Rattle.schedule.specs.Size.{key_size, Nr}
use Rattle.schedule.specs.KeyExpansion.{round_keys}
use Rattle.cipher.specs.Cipher.{crypted}
use Rattle.aes.specs.Aes.{aes}
use Rattle.aes.specs.Calls.{number, afterwards, Called}
use Rattle.aes.specs.Promise.{crypted_aes}

module _ (back : Bool) (k b : List ℕ) where
  -- the block that goes with a number
  with_number : (n : ℕ) → number k b ≡ n → afterwards back k b ≡ cond (eqb n 0) (aes back k b) b
  unfolding afterwards
  with_number n e = ap (λ (m : ℕ). cond (eqb m 0) (aes back k b) b) e

  pub key_refused : key_size (length k) ≡ false → Called back k b (Err KeyLength) b
  unfolding number
  key_refused e =
      let n : number k b ≡ 1 = ap (λ (t : Bool). cond (not t) 1 (cond (not (eqb (length b) 16)) 2 0)) e in
      (sym n, sym (with_number 1 n))

  -- the second test, once the key has passed the first
  past_key : key_size (length k) ≡ true → number k b ≡ cond (not (eqb (length b) 16)) 2 0
  unfolding number
  past_key e = ap (λ (t : Bool). cond (not t) 1 (cond (not (eqb (length b) 16)) 2 0)) e

  pub block_refused : key_size (length k) ≡ true → (length b ≡ 16 → ⊥) → Called back k b (Err MessageLength) b
  block_refused e h =
      let n : number k b ≡ 2 = past_key e ∙ ap (λ (t : Bool). cond (not t) 2 0) (ne_eqb (length b) 16 h) in
      (sym n, sym (with_number 2 n))

  pub done : key_size (length k) ≡ true → length b ≡ 16 → (s : List ℕ) → s ≡ aes back k b → Called back k b (Ok tt) s
  done e h s p =
      let n : number k b ≡ 0 = past_key e ∙ ap (λ (t : Bool). cond (not t) 2 0) (eq-eqb (length b) 16 h) in
      (sym n, p ∙ sym (with_number 0 n))

  -- the whole block loaded, and a result put in its place
  pub over : length b ≡ 16 → (x y : List ℕ) → x ≡ block_at b 0 → y ≡ crypted back (round_keys k) (Nr k) x → with_block b 0 y ≡ aes back k b
  over h x y p q =
      ap (λ (r : List ℕ). y ++ r) (drop_of_length-le b {i = 16} (le_of_eq h))
      ∙ append-nil y
      ∙ q
      ∙ ap (crypted back (round_keys k) (Nr k)) (p ∙ take_all 16 b (le_of_eq h))
      ∙ crypted_aes back k b
