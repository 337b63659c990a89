-- The two idle steps of 01 shut out, on a store of two sheets in clear.
-- Assumes nothing.
use mathlib.Core.Path.{◌≡◌, refl, sym, ap, ap₂, ◌∙◌}
use mathlib.Core.Bool.{Bool, true, false, cond, not, ◌&&◌}
use mathlib.Core.List.{List, [], ◌∷◌}
use Prim.Native.Nat.{ℕ, ◌+◌, ◌<◌}
use native.Mathlib.Omega.{arith}
use borrow.Author.Tests.{eq-eqb, ne_eqb}
use lib.Dec.{eqb}
use Rattle.block.specs.Bytes.{Bytes}
use Rattle.records.specs.Record.{num, rev, mark}
use Rattle.slots.specs.Slots.{slots, slot, put}
use Rattle.slots.proofs.PutLaws.{slots_put, slot_put}
use Rattle.checking.specs.Check.{marked}
use Rattle.sheets.specs.Text.{text_of}
use Rattle.sheets.proofs.SheetLaws.{mark_sheet}
use Rattle.plans.specs.Plans.{bad_keys, step_plan, Plan}
use Rattle.store.specs.declared.Outcome.TheVariants.{Converted}
use Rattle.store.specs.Calls.{outcome_at, moved_from, converted_at, step_answer, place_after, step_store}
use Rattle.store.proofs.StepLaws.{inside, is_converted}
use Rattle.claims.specs.Machine.{stepping, State, store_step}
use Rattle.claims.specs.Claims.{LastSlotClaim, KeepsOthers, only_the_first, first_slots, every_slot}
use Rattle.claims.proofs.Simulation.{SoundStore}
use Rattle.claims.proofs.Effects.{rekeyed, convert_says, effect_step}
use Rattle.claims.proofs.LastSlot.{step_taken}
use Rattle.claims.proofs.StepRule.{keeps_others}
use Rattle.claims.proofs.TwoClear.{clear, two_clear, mark_clear, num_clear, two_slots, slot_0, slot_1, number_0, sound_two, two_pass}

-- a used slot in clear is converted
clear_converts : (s : List ℕ) → SoundStore s → (k : ℕ) → k < slots s → (num (slot s k) ≡ 0 → ⊥) → mark (slot s k) ≡ 0 → outcome_at s k ≡ Converted
clear_converts s g k h u m = inside s k h ∙ is_converted (slot s k) u (g.each k h) (λ q. let y : ⊥ = omega arith in y)

module _ (o w : List ℕ) (keys : bad_keys o w ≡ false) (bo : Bytes o) (bw : Bytes w) where
  module _ (s : List ℕ) (g : SoundStore s) (k : ℕ) (e : outcome_at s k ≡ Converted) where
    leaves_it : (store_step o w).leaves s k ≡ put s k (rekeyed o w s k)
    leaves_it = ap (step_store o w s) (step_taken o w s k keys g.size) ∙ ap (converted_at o w s k) e

    goes_on : (store_step o w).goes_to s k ≡ k + 1
    goes_on = ap (λ (p : Plan). place_after k (step_answer s p)) (step_taken o w s k keys g.size) ∙ ap (moved_from k) e

  converts_0 : outcome_at two_clear 0 ≡ Converted
  converts_0 = clear_converts two_clear sound_two 0 (omega (arith, two_slots)) (λ q. let y : ⊥ = omega (arith, number_0) in y) (ap mark slot_0 ∙ mark_clear 1)

  -- after the first step of either
  once : List ℕ
  once = (store_step o w).leaves two_clear 0

  once_slots : slots once ≡ 2
  unfolding once
  once_slots =
      let c = convert_says o w two_clear 0 bo bw sound_two.bytes converts_0 in
      ap slots (leaves_it two_clear sound_two 0 converts_0) ∙ slots_put two_clear 0 c.within (rekeyed o w two_clear 0) c.whole ∙ two_slots

  once_slot_1 : slot once 1 ≡ clear 2
  unfolding once
  once_slot_1 = keeps_others o w bo bw two_clear sound_two.bytes 0 1 (λ q. let y : ⊥ = omega arith in y) ∙ slot_1

  pub first_only_fails : LastSlotClaim o w (only_the_first o w) → ⊥
  unfolding once
  first_only_fails claim =
      let st : State = record { store = two_clear; place = λ c. 0 } in
      let k : ℕ = (store_step o w).goes_to two_clear 0 in
      let s : List ℕ = cond (eqb k 0) ((store_step o w).leaves once k) once in
      let far : eqb k 0 ≡ false = ne_eqb k 0 (λ q. let y : ⊥ = omega (arith, goes_on two_clear sound_two 0 converts_0) in y) in
      let same : s ≡ once = ap (λ (t : Bool). cond t ((store_step o w).leaves once k) once) far in
      let none = claim st sound_two.bytes two_pass [] (stepping 0 ∷ stepping 0 ∷ []) [] (tt, (tt, tt)) 0 refl (omega (arith, two_slots)) in
      let c = (none 1 (omega (arith, ap slots same, once_slots))).0 in
      clash (sym (ap (marked 0) (ap (λ (x : List ℕ). slot x 1) same ∙ once_slot_1)) ∙ c)
    where
      clash : marked 0 (clear 2) ≡ false → ⊥
      clash e =
          let u : eqb (num (clear 2)) 0 ≡ false = ne_eqb (num (clear 2)) 0 (λ q. let y : ⊥ = omega (arith, num_clear 2 (omega arith)) in y) in
          let m : marked 0 (clear 2) ≡ true = ap₂ (λ (a b : Bool). not a && b) u (eq-eqb (mark (clear 2)) 0 (mark_clear 2)) in
          let z : ◌≡◌ {A = ℕ} 1 0 = ap (λ (t : Bool). cond t 1 0) (sym m ∙ e) in
          let y : ⊥ = omega arith in
          y

  pub every_slot_fails : KeepsOthers (every_slot o w) → ⊥
  unfolding once
  every_slot_fails claim =
      let g : SoundStore once = (effect_step o w two_clear keys bo bw sound_two (step_plan o w two_clear 0)).1 in
      let m1 : mark (slot once 1) ≡ 0 = ap mark once_slot_1 ∙ mark_clear 2 in
      let u1 : num (slot once 1) ≡ 2 = ap num once_slot_1 ∙ num_clear 2 (omega arith) in
      let e : outcome_at once 1 ≡ Converted = clear_converts once g 1 (omega (arith, once_slots)) (λ q. let y : ⊥ = omega arith in y) m1 in
      let c = convert_says o w once 1 bo bw g.bytes e in
      let twice : slot (first_slots o w 2 two_clear) 1 ≡ rekeyed o w once 1 =
      ap (λ (x : List ℕ). slot x 1) (leaves_it once g 1 e) ∙ slot_put once 1 c.within (rekeyed o w once 1) c.whole in
      let q : slot (first_slots o w (slots two_clear) two_clear) 1 ≡ slot two_clear 1 =
      claim two_clear sound_two.bytes 0 1 (λ r. let y : ⊥ = omega arith in y) in
      let p : rekeyed o w once 1 ≡ clear 2 = sym twice ∙ sym (ap (λ (n : ℕ). slot (first_slots o w n two_clear) 1) two_slots) ∙ q ∙ slot_1 in
      let m : mark (rekeyed o w once 1) ≡ 2 = mark_sheet w (num (slot once 1)) (rev (slot once 1)) (text_of o w (slot once 1)) in
      let y : ⊥ = omega (arith, ap mark p, mark_clear 2) in
      y
