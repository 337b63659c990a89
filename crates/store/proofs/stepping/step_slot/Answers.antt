-- `store::stepping::step_slot` meets its contract: the outcome of the slot's record decides.
-- Assumes nothing.
use Rattle.std.proofs.Common.{◌≡◌, ap, sym, ◌∙◌, ℕ, ◌+◌, ◌<◌, List, arith, rules, refl}
use denote.Enum.Bare.{same_true, same_false}
use Rattle.records.proofs.FieldLaws.{sound_len}
use Rattle.slots.specs.Slots.{slots, slot}
use Rattle.store.specs.contracts.Outcome.{the_type}
use Rattle.store.specs.declared.Outcome.TheVariants.{Converted}
use Rattle.store.specs.Calls.{record_outcome, outcome_at, moved_from, converted_at}
use Rattle.store.proofs.StepLaws.{inside, converted_sound, converted_used, moved_on, kept_at}
use Rattle.store.proofs.stepping.step_slot.Goals as goal
use Rattle.store.proofs.stepping.step_slot.Goals.{then-eq, else-eq, After-outcome_of-outcome}

-- the outcome is that of the slot's record
outcome : (c : After-outcome_of-outcome)
    → let a = c.args in c.outcome_of-outcome.result ≡ record_outcome (slot a.store.now a.k)
outcome c = c.outcome_of-outcome.ensures ∙ ap record_outcome c.record_at.ensures

pub rekey_at-requires : goal.rekey_at-requires
rekey_at-requires c =
    let a = c.args in
    let r : List ℕ = slot a.store.now a.k in
    let x : c.outcome_of-outcome.result ≡ Converted = same_true the_type (search rules) _ _ (sym c.if-eq.ensures) in
    let e : record_outcome r ≡ Converted = sym (outcome (goal.at.rekey_at-requires c).After-outcome_of-outcome) ∙ x in
    let u = converted_used r e in
    (omega arith, (sound_len r (converted_sound r u e) u).1)

pub returns : goal.returns
returns c =
    let a = c.args in
    let s : List ℕ = a.store.now in
    let k : ℕ = a.k in
    let h : k < slots s = omega arith in
    let o = outcome (goal.at.returns c).After-outcome_of-outcome in
    let e : outcome_at s k ≡ c.outcome_of-outcome.result = inside s k h ∙ sym o in
    let m : moved_from k c.outcome_of-outcome.result ≡ k + 1 = ap (moved_from k) o ∙ moved_on (slot s k) k in
    let changed : c.if-eq.store ≡ converted_at a.keys.old.now a.keys.new.now s k c.outcome_of-outcome.result =
    elim c.if-eq.branch [
      | then-eq w ↦ (
          let x : c.outcome_of-outcome.result ≡ Converted = same_true the_type (search rules) _ _ (sym w.if-eq.ensures) in
          w.store-is ∙ w.rekey_at.ensures ∙ sym (ap (converted_at a.keys.old.now a.keys.new.now s k) x)
          )
      | else-eq w ↦ w.store-is ∙ sym (kept_at a.keys.old.now a.keys.new.now s k c.outcome_of-outcome.result (same_false the_type _ _ (sym w.if-eq.ensures)))
    ] in
    rw (e, m) (refl, changed)
