-- Demand 3, as it is claimed: from a store that passes the check, with two fixed keys of 48 or 64 bytes, whole calls in any order.
-- o is the old key and w the new one; st is the store and the places of the copies of the job before the events es.
-- Assumes nothing.
use mathlib.Core.Path.{◌≡◌}
use mathlib.Core.Bool.{false}
use mathlib.Core.List.{List}
use Prim.Native.Nat.{ℕ, ◌<◌}
use Rattle.std.specs.Prelude.{Ok}
use Rattle.block.specs.Bytes.{Bytes}
use Rattle.slots.specs.Slots.{slots}
use Rattle.plans.specs.Plans.{bad_keys, step_plan}
use Rattle.claims.specs.View.{plain}
use Rattle.claims.specs.Machine.{Event, revising, AllAllowed, of_stored, State, store_step, answers, final, list_answers, list_final}
use Rattle.claims.specs.Claims.{Key, Passes, LastSlotClaim, KeepsOthers, only_the_first, every_slot, event_at, answer_at, RemovedAt}
use Rattle.claims.proofs.Simulation.{SoundStore}
use Rattle.claims.proofs.KeyLengths.{keys_taken}
use Rattle.claims.proofs.Traces.{same_answers, same_list, slots_stay}
use Rattle.claims.proofs.Checking.{passes_sound, passes_apart, good_passes}
use Rattle.claims.proofs.StaysChecked.{stays_apart}
use Rattle.claims.proofs.LastSlot.{step_taken, last_slot}
use Rattle.claims.proofs.OneOfTwo.{one_of_two}
use Rattle.claims.proofs.StepRule.{keeps_others}
use Rattle.claims.proofs.Idle.{first_only_fails, every_slot_fails}

module _ (o w : List ℕ) (ko : Key o) (kw : Key w) where
  keys : bad_keys o w ≡ false
  keys = keys_taken o w ko kw

  module _ (st : State) (bs : Bytes st.store) (ok : Passes st.store) (es : List Event) (h : AllAllowed es) where
    whole : SoundStore st.store
    whole = passes_sound st.store bs ok

    -- every answer, refusals included, is that of the plain list, on which a step does nothing
    pub answers_as_a_list : answers o w es st ≡ list_answers es (plain o w st.store)
    answers_as_a_list = same_answers o w keys ko.0 kw.0 es st h whole

    -- afterwards what the store's texts decipher to is that list
    pub holds_the_list : plain o w (final o w es st).store ≡ list_final es (plain o w st.store)
    holds_the_list = (same_list o w keys ko.0 kw.0 es st h whole).0

    -- the store still passes the check, has as many slots as before, and is still bytes
    pub still_passes : Passes (final o w es st).store
    still_passes =
        good_passes (final o w es st).store (same_list o w keys ko.0 kw.0 es st h whole).1
        (stays_apart o w keys ko.0 kw.0 es st h whole (passes_apart st.store bs ok))

    pub as_many_slots : slots (final o w es st).store ≡ slots st.store
    as_many_slots = slots_stay o w keys ko.0 kw.0 es st h whole

    pub still_bytes : Bytes (final o w es st).store
    still_bytes = (same_list o w keys ko.0 kw.0 es st h whole).1.bytes

    -- of two revisions, at positions i and j, that name sheet n at revision v, not both are accepted if no accepted removal of the sheet stands
    -- between them, whatever else does
    pub at_most_one : (n v i j : ℕ) → i < j → (t t' : List ℕ) → event_at es i ≡ revising n v t → event_at es j ≡ revising n v t'
        → ((k : ℕ) → i < k → k < j → RemovedAt o w es st n k → ⊥)
        → (r r' : ℕ) → answer_at (answers o w es st) i ≡ of_stored (Ok r) → answer_at (answers o w es st) j ≡ of_stored (Ok r') → ⊥
    at_most_one n v i j = one_of_two o w keys ko.0 kw.0 n v es st h whole i j

  -- once a copy begun at slot 0 has made as many steps as there are slots, no sheet is marked clear or old key, and none ever is again
  pub no_sheet_left : LastSlotClaim o w (store_step o w)
  no_sheet_left = last_slot o w keys ko.0 kw.0

  -- from a store that passes the check no step is refused, wherever it stands
  pub no_step_refused : (s : List ℕ) → Bytes s → Passes s → (k : ℕ) → step_plan o w s k ≡ Ok k
  no_step_refused s bs ok k = step_taken o w s k keys (passes_sound s bs ok).size

  -- a step keeps every byte of the other slots
  pub others_kept : KeepsOthers (store_step o w)
  others_kept = keeps_others o w ko.0 kw.0

  -- ---- the idle steps are shut out: the one that converts in the first step and then only moves the place, by the last-slot claim; the one that
  -- converts every slot at once, by the step's own rule. Each is shown on a store of two slots (TwoClear: two_clear)

  pub only_the_first_shut_out : LastSlotClaim o w (only_the_first o w) → ⊥
  only_the_first_shut_out = first_only_fails o w keys ko.0 kw.0

  pub every_slot_shut_out : KeepsOthers (every_slot o w) → ⊥
  every_slot_shut_out = every_slot_fails o w keys ko.0 kw.0
