-- The outcomes of a step, from the tests that lead there.
-- Assumes nothing.
use mathlib.Core.Path.{◌≡◌, refl, ap, ◌∙◌}
use mathlib.Core.Bool.{Bool, true, false, cond, not}
use mathlib.Core.List.{List}
use Prim.Native.Nat.{ℕ, ◌+◌, ◌≤◌, ◌<◌}
use borrow.Author.Tests.{le-leb, lt-leb, eq-eqb, ne_eqb}
use lib.Dec.{eqb}
use Rattle.records.specs.Record.{num, mark, sound}
use Rattle.slots.specs.Slots.{slots, slot}
use Rattle.store.specs.declared.Outcome.{Outcome}
use Rattle.store.specs.declared.Outcome.TheVariants.{Done, Free, Damaged, Already, Converted}
use Rattle.store.specs.Calls.{record_outcome, outcome_at, moved_from, converted_at}

pub at_end : (s : List ℕ) (k : ℕ) → slots s ≤ k → outcome_at s k ≡ Done
unfolding outcome_at
at_end s k h = ap (λ (t : Bool). cond t Done (record_outcome (slot s k))) (le-leb (slots s) k h)

pub inside : (s : List ℕ) (k : ℕ) → k < slots s → outcome_at s k ≡ record_outcome (slot s k)
unfolding outcome_at
inside s k h = ap (λ (t : Bool). cond t Done (record_outcome (slot s k))) (lt-leb (slots s) k h)

module _ (r : List ℕ) where
  -- the outcome, once the three tests are known
  from_tests : (a b c : Bool) → eqb (num r) 0 ≡ a → sound r ≡ b → eqb (mark r) 2 ≡ c
      → record_outcome r ≡ cond a Free (cond (not b) Damaged (cond c Already Converted))
  unfolding record_outcome
  from_tests a b c p q s =
      ap (λ (t : Bool). cond t Free (cond (not (sound r)) Damaged (cond (eqb (mark r) 2) Already Converted))) p
      ∙ ap (λ (t : Bool). cond a Free (cond (not t) Damaged (cond (eqb (mark r) 2) Already Converted))) q
      ∙ ap (λ (t : Bool). cond a Free (cond (not b) Damaged (cond t Already Converted))) s

  pub is_free : num r ≡ 0 → record_outcome r ≡ Free
  is_free e = from_tests true (sound r) (eqb (mark r) 2) (eq-eqb (num r) 0 e) refl refl

  module _ (u : num r ≡ 0 → ⊥) where
    pub is_damaged : sound r ≡ false → record_outcome r ≡ Damaged
    is_damaged e = from_tests false false (eqb (mark r) 2) (ne_eqb (num r) 0 u) e refl

    pub is_already : sound r ≡ true → mark r ≡ 2 → record_outcome r ≡ Already
    is_already e m = from_tests false true true (ne_eqb (num r) 0 u) e (eq-eqb (mark r) 2 m)

    pub is_converted : sound r ≡ true → (mark r ≡ 2 → ⊥) → record_outcome r ≡ Converted
    is_converted e m = from_tests false true false (ne_eqb (num r) 0 u) e (ne_eqb (mark r) 2 m)

    -- a record that is converted is sound
    pub converted_sound : record_outcome r ≡ Converted → sound r ≡ true
    converted_sound e = by_test (sound r) refl
      where
        by_test : (b : Bool) → sound r ≡ b → sound r ≡ true
        by_test true p = p
        by_test false p = let d : record_outcome r ≡ Damaged = is_damaged p in cc

  -- and used
  pub converted_used : record_outcome r ≡ Converted → num r ≡ 0 → ⊥
  converted_used e p = let d : record_outcome r ≡ Free = is_free p in cc

  -- whatever comes of a record, the place is moved on
  pub moved_on : (k : ℕ) → moved_from k (record_outcome r) ≡ k + 1
  unfolding record_outcome
  moved_on k = by_tests (eqb (num r) 0) (sound r) (eqb (mark r) 2)
    where
      by_tests : (a b c : Bool) → moved_from k (cond a Free (cond (not b) Damaged (cond c Already Converted))) ≡ k + 1
      by_tests true b c = refl
      by_tests false false c = refl
      by_tests false true true = refl
      by_tests false true false = refl

-- a step that converts no slot keeps the store
pub kept_at : (o w s : List ℕ) (k : ℕ) (x : Outcome) → (x ≡ Converted → ⊥) → converted_at o w s k x ≡ s
kept_at o w s k Converted h = absurd (h refl)
kept_at o w s k Done h = refl
kept_at o w s k Free h = refl
kept_at o w s k Damaged h = refl
kept_at o w s k Already h = refl
