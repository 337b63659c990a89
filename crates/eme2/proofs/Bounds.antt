-- 01's numbers of the transform in plain inequalities: a call gets each exactly if they hold. The tests of the ladder say the same of a
-- length itself, however great it is.
-- Assumes nothing.
use mathlib.Core.Path.{◌≡◌, refl, sym, ap, ap₂, ◌∙◌}
use mathlib.Core.Bool.{Bool, true, false, cond, not, ◌||◌, or-true}
use mathlib.Core.List.{List}
use mathlib.Core.Logic.{◌↔◌, ◌⊎◌, inl, inr, ⊎_elim}
use Prim.Native.Nat.{ℕ, ◌≤◌, ◌<◌}
use native.Mathlib.Omega.{arith}
use borrow.Author.Tests.{ltb-true, ltb-false, lt-ltb, le-ltb}
use lib.Dec.{ltb}
use lib.ListN.{length}
use Rattle.block.proofs.BoolLaws.{either, neither}
use Rattle.eme2.specs.Transform.{key_taken, bad_message, bad_data, number}

-- ---- the tests

-- a message is refused exactly if it is below 16 bytes or above 65,536
message_refused : (m : List ℕ) → (length m < 16) ⊎ (65536 < length m) → bad_message m ≡ true
unfolding bad_message
message_refused m =
    ⊎_elim (λ (h : length m < 16). ap (λ (t : Bool). t || ltb 65536 (length m)) (lt-ltb (length m) 16 h))
    (λ (h : 65536 < length m). ap (λ (t : Bool). ltb (length m) 16 || t) (lt-ltb 65536 (length m) h) ∙ or-true (ltb (length m) 16))

message_bad : (m : List ℕ) → bad_message m ≡ true → (length m < 16) ⊎ (65536 < length m)
unfolding bad_message
message_bad m =
    either (ltb (length m) 16) (ltb 65536 (length m)) (λ e. inl (ltb-true (length m) 16 e)) (λ e. inr (ltb-true 65536 (length m) e))

message_taken : (m : List ℕ) → (16 ≤ length m) × (length m ≤ 65536) → bad_message m ≡ false
unfolding bad_message
message_taken m h = ap₂ (λ (x y : Bool). x || y) (le-ltb (length m) 16 h.0) (le-ltb 65536 (length m) h.1)

message_good : (m : List ℕ) → bad_message m ≡ false → (16 ≤ length m) × (length m ≤ 65536)
unfolding bad_message
message_good m e =
    let t = neither (ltb (length m) 16) (ltb 65536 (length m)) e in
    (ltb-false (length m) 16 t.0, ltb-false 65536 (length m) t.1)

-- associated data exactly if it is above 1,024
data_refused : (ad : List ℕ) → 1024 < length ad → bad_data ad ≡ true
unfolding bad_data
data_refused ad h = lt-ltb 1024 (length ad) h

data_bad : (ad : List ℕ) → bad_data ad ≡ true → 1024 < length ad
unfolding bad_data
data_bad ad e = ltb-true 1024 (length ad) e

data_taken : (ad : List ℕ) → length ad ≤ 1024 → bad_data ad ≡ false
unfolding bad_data
data_taken ad h = le-ltb 1024 (length ad) h

data_good : (ad : List ℕ) → bad_data ad ≡ false → length ad ≤ 1024
unfolding bad_data
data_good ad e = ltb-false 1024 (length ad) e

-- ---- the number, by the tests of key, message and associated data

abbrev picked : Bool → Bool → Bool → ℕ
picked a b c = cond (not a) 1 (cond b 2 (cond c 3 0))

at_1 : (a b c : Bool) → picked a b c ≡ 1 → a ≡ false
at_1 true true c e = let z : ⊥ = omega arith in absurd z
at_1 true false true e = let z : ⊥ = omega arith in absurd z
at_1 true false false e = let z : ⊥ = omega arith in absurd z
at_1 false b c e = refl

at_2 : (a b c : Bool) → picked a b c ≡ 2 → (a ≡ true) × (b ≡ true)
at_2 true true c e = (refl, refl)
at_2 true false true e = let z : ⊥ = omega arith in absurd z
at_2 true false false e = let z : ⊥ = omega arith in absurd z
at_2 false b c e = let z : ⊥ = omega arith in absurd z

at_3 : (a b c : Bool) → picked a b c ≡ 3 → (a ≡ true) × (b ≡ false) × (c ≡ true)
at_3 true true c e = let z : ⊥ = omega arith in absurd z
at_3 true false true e = (refl, refl, refl)
at_3 true false false e = let z : ⊥ = omega arith in absurd z
at_3 false b c e = let z : ⊥ = omega arith in absurd z

at_0 : (a b c : Bool) → picked a b c ≡ 0 → (a ≡ true) × (b ≡ false) × (c ≡ false)
at_0 true true c e = let z : ⊥ = omega arith in absurd z
at_0 true false true e = let z : ⊥ = omega arith in absurd z
at_0 true false false e = (refl, refl, refl)
at_0 false b c e = let z : ⊥ = omega arith in absurd z

module _ (k ad m : List ℕ) where
  by_tests : (a b c : Bool) → key_taken k ≡ a → bad_message m ≡ b → bad_data ad ≡ c → number k ad m ≡ picked a b c
  unfolding number
  by_tests a b c p q r = ap₂ (λ (x y : Bool). picked x y (bad_data ad)) p q ∙ ap (λ (z : Bool). picked a b z) r

  tests : number k ad m ≡ picked (key_taken k) (bad_message m) (bad_data ad)
  tests = by_tests (key_taken k) (bad_message m) (bad_data ad) refl refl refl

  pub number_1 : (number k ad m ≡ 1) ↔ (key_taken k ≡ false)
  number_1 =
      (λ e. at_1 (key_taken k) (bad_message m) (bad_data ad) (sym tests ∙ e), λ h. by_tests false (bad_message m) (bad_data ad) h refl refl)

  pub number_2 : (number k ad m ≡ 2) ↔ ((key_taken k ≡ true) × ((length m < 16) ⊎ (65536 < length m)))
  number_2 = (
    λ e. let t = at_2 (key_taken k) (bad_message m) (bad_data ad) (sym tests ∙ e) in (t.0, message_bad m t.1),
    λ h. by_tests true true (bad_data ad) h.0 (message_refused m h.1) refl,
  )

  pub number_3 : (number k ad m ≡ 3) ↔ ((key_taken k ≡ true) × ((16 ≤ length m) × (length m ≤ 65536)) × (1024 < length ad))
  number_3 = (
    λ e.
        let t = at_3 (key_taken k) (bad_message m) (bad_data ad) (sym tests ∙ e) in
        (t.0, message_good m t.1, data_bad ad t.2),
    λ h. by_tests true false true h.0 (message_taken m h.1) (data_refused ad h.2),
  )

  pub number_0 : (number k ad m ≡ 0) ↔ ((key_taken k ≡ true) × ((16 ≤ length m) × (length m ≤ 65536)) × (length ad ≤ 1024))
  number_0 = (
    λ e.
        let t = at_0 (key_taken k) (bad_message m) (bad_data ad) (sym tests ∙ e) in
        (t.0, message_good m t.1, data_good ad t.2),
    λ h. by_tests true false false h.0 (message_taken m h.1) (data_taken ad h.2),
  )
