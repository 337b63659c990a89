-- Each way out of the calls, from the tests that lead there.
-- Assumes nothing.
use Rattle.std.specs.Prelude.{Err, Ok}
use mathlib.Core.Path.{◌≡◌, sym, ap, ◌∙◌}
use mathlib.Core.Bool.{Bool, true, false, cond}
use mathlib.Core.List.{List}
use mathlib.Core.Logic.{inl, inr}
use Prim.Native.Nat.{ℕ, ◌-◌, ◌≤◌, ◌<◌}
use native.Mathlib.Omega.{arith}
use borrow.Author.Tests.{ne_eqb}
use lib.Dec.{eqb}
use lib.ListN.{length}
use Rattle.numbers.specs.declared.Refusal.TheVariants.{KeyLength, MessageLength, DataLength}
use Rattle.aes.specs.Aes.{key_size}
use Rattle.eme2.specs.Transform.{key_taken, number, eme2, afterwards}
use Rattle.eme2.specs.Calls.{Called}
use Rattle.eme2.proofs.Bounds.{number_0, number_1, number_2, number_3}

module _ (back : Bool) (k ad m : List ℕ) where
  -- the message that goes with a number
  with_number : (n : ℕ) → number k ad m ≡ n → afterwards back k ad m ≡ cond (eqb n 0) (eme2 back k ad m) m
  unfolding afterwards
  with_number n e = ap (λ (j : ℕ). cond (eqb j 0) (eme2 back k ad m) m) e

  pub key_refused : key_taken k ≡ false → Called back k ad m (Err KeyLength) m
  key_refused e = let n : number k ad m ≡ 1 = (number_1 k ad m).1 e in (sym n, sym (with_number 1 n))

  pub message_below : key_taken k ≡ true → length m < 16 → Called back k ad m (Err MessageLength) m
  message_below e h = let n : number k ad m ≡ 2 = (number_2 k ad m).1 (e, inl h) in (sym n, sym (with_number 2 n))

  pub message_above : key_taken k ≡ true → 65536 < length m → Called back k ad m (Err MessageLength) m
  message_above e h = let n : number k ad m ≡ 2 = (number_2 k ad m).1 (e, inr h) in (sym n, sym (with_number 2 n))

  pub data_above : key_taken k ≡ true → 16 ≤ length m → length m ≤ 65536 → 1024 < length ad → Called back k ad m (Err DataLength) m
  data_above e h l g = let n : number k ad m ≡ 3 = (number_3 k ad m).1 (e, (h, l), g) in (sym n, sym (with_number 3 n))

  pub done : key_taken k ≡ true → 16 ≤ length m → length m ≤ 65536 → length ad ≤ 1024
      → (m' : List ℕ) → m' ≡ eme2 back k ad m → Called back k ad m (Ok tt) m'
  done e h l g m' p = let n : number k ad m ≡ 0 = (number_0 k ad m).1 (e, (h, l), g) in (sym n, p ∙ sym (with_number 0 n))

-- the refusals part by part, by which `call`'s tactics find each refused return, whatever the numbers are that the code tests against
module _ (k ad m : List ℕ) where
  pub number_by_key : key_taken k ≡ false → number k ad m ≡ 1
  number_by_key e = (number_1 k ad m).1 e

  pub number_below : key_taken k ≡ true → length m < 16 → number k ad m ≡ 2
  number_below e h = (number_2 k ad m).1 (e, inl h)

  pub number_above : key_taken k ≡ true → 65536 < length m → number k ad m ≡ 2
  number_above e h = (number_2 k ad m).1 (e, inr h)

  pub number_by_data : key_taken k ≡ true → 16 ≤ length m → length m ≤ 65536 → 1024 < length ad → number k ad m ≡ 3
  number_by_data e h l g = (number_3 k ad m).1 (e, (h, l), g)

pub kept : (back : Bool) (k ad m : List ℕ) → (number k ad m ≡ 0 → ⊥) → afterwards back k ad m ≡ m
unfolding afterwards
kept back k ad m h = ap (λ (t : Bool). cond t (eme2 back k ad m) m) (ne_eqb (number k ad m) 0 h)

pub ruleset refusals = (number_by_key, number_below, number_above, number_by_data, kept)

-- a key that is too short for Key2 and Key3
pub key_below : (k : List ℕ) → length k < 32 → key_taken k ≡ false
key_below k h =
    let z : length k - 32 ≡ 0 = omega arith in
    ap key_size z
