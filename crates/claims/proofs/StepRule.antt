-- 01, step: it keeps every byte of the other slots.
-- Assumes nothing.
use mathlib.Core.Path.{◌≡◌, refl, sym, ◌∙◌}
use mathlib.Core.List.{List}
use Prim.Native.Nat.{ℕ}
use Rattle.std.specs.Prelude.{Ok, Err}
use Rattle.block.specs.Bytes.{Bytes}
use Rattle.slots.specs.Slots.{slot}
use Rattle.slots.proofs.PutLaws.{slot_other}
use Rattle.plans.specs.Plans.{step_plan, Plan}
use Rattle.plans.proofs.PlanLaws.{step_says}
use Rattle.store.specs.Calls.{outcome_at, converted_at, step_store}
use Rattle.claims.specs.Machine.{store_step}
use Rattle.claims.specs.Claims.{KeepsOthers}
use Rattle.claims.proofs.Effects.{rekeyed, convert_says, left_by_step}

module _ (o w : List ℕ) (bo : Bytes o) (bw : Bytes w) (s : List ℕ) (bs : Bytes s) (j : ℕ) where
  other_kept : (k : ℕ) → (j ≡ k → ⊥) → slot (converted_at o w s k (outcome_at s k)) j ≡ slot s j
  other_kept k z =
      left_by_step o w s k (λ x. slot x j ≡ slot s j) refl
      (λ e. let c = convert_says o w s k bo bw bs e in slot_other s k c.within (rekeyed o w s k) c.whole j z)

  by_plan : (k : ℕ) → (j ≡ k → ⊥) → (p : Plan) → step_plan o w s k ≡ p → slot (step_store o w s p) j ≡ slot s j
  by_plan k z (Err x) e = refl
  by_plan k z (Ok i) e = other_kept i (λ r. z (r ∙ sym (step_says o w s k i e)))

pub keeps_others : (o w : List ℕ) → Bytes o → Bytes w → KeepsOthers (store_step o w)
keeps_others o w bo bw s bs k j z = by_plan o w bo bw s bs j k z (step_plan o w s k) refl
