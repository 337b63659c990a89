-- What `lagunedo_probe_wide` promises of each refusal, and where nothing is refused.
-- Assumes nothing.
use Rattle.std.proofs.Common.{◌≡◌, Bool, true, false, cond, List, ℕ, ◌≤◌, ◌<◌, eqb, length, refl, sym, ap, ◌∙◌, arith}
use Rattle.std.proofs.lemmas.Bool.Decides.{nat_tests}
use Rattle.aes.specs.Aes.{key_size, Nr, round_keys, crypted, aes}
use Rattle.aes.specs.Promise.{crypted_aes}
use Rattle.mode.specs.Wide.{wide}
use Rattle.probe.specs.Calls.{wide_number, wide_afterwards, WideCalled}

module _ (back : Bool) (k L T m : List ℕ) where
  refused : (n : ℕ) → eqb n 0 ≡ false → wide_number k L T m ≡ n → WideCalled back k L T m n m
  unfolding wide_afterwards
  refused n z e = (sym e, ap (λ (t : Bool). cond t (wide (aes back k) L T m) m) (sym (ap (λ (j : ℕ). eqb j 0) e ∙ z)))

  pub key_refused : key_size (length k) ≡ false → WideCalled back k L T m 1 m
  unfolding wide_number
  key_refused e = refused 1 refl (grind (arith, nat_tests))

  pub L_refused : key_size (length k) ≡ true → (length L ≡ 16 → ⊥) → WideCalled back k L T m 2 m
  unfolding wide_number
  L_refused e h = refused 2 refl (grind (arith, nat_tests))

  pub T_refused : key_size (length k) ≡ true → (length T ≡ 16 → ⊥) → WideCalled back k L T m 2 m
  unfolding wide_number
  T_refused e h = refused 2 refl (grind (arith, nat_tests))

  pub message_refused : key_size (length k) ≡ true → length L ≡ 16 → length T ≡ 16 → length m < 16 → WideCalled back k L T m 2 m
  unfolding wide_number
  message_refused e h_l h_t h = refused 2 refl (grind (arith, nat_tests))

  number : key_size (length k) ≡ true → length L ≡ 16 → length T ≡ 16 → 16 ≤ length m → wide_number k L T m ≡ 0
  unfolding wide_number
  number e h_l h_t h = grind (arith, nat_tests)

  pub done : key_size (length k) ≡ true → length L ≡ 16 → length T ≡ 16 → 16 ≤ length m → {m' : List ℕ}
      → m' ≡ wide (crypted back (round_keys k) (Nr k)) L T m → WideCalled back k L T m 0 m'
  unfolding wide_afterwards
  done e h_l h_t h p =
      let n : wide_number k L T m ≡ 0 = number e h_l h_t h in (
        sym n,
        p ∙ ap (λ (f : List ℕ → List ℕ). wide f L T m) (λ i x. crypted_aes back k x i) ∙ ap (λ (j : ℕ). cond (eqb j 0) (wide (aes back k) L T m) m) (sym n),
      )
