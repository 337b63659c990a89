-- What each call leaves in a sound store is, seen as a plain list, what the list's call leaves; a step leaves the list as it was; and the
-- store stays sound.
-- Assumes nothing.
use mathlib.Core.Path.{◌≡◌, refl, sym, ap, ◌∙◌}
use mathlib.Core.Bool.{Bool, true, false, cond, not}
use mathlib.Core.List.{List, [], ◌∷◌}
use Prim.Native.Nat.{ℕ, zero, suc, ◌+◌, ◌≤◌, ◌<◌}
use native.Mathlib.Nat.{not-suc-le-zero, le_of_suc-le-suc}
use native.Mathlib.Omega.{arith}
use borrow.Author.Tests.{eqb-false, leb-false}
use lib.Dec.{eqb, leb}
use lib.ListN.{length, set}
use Rattle.std.specs.Prelude.{Ok, Err}
use Rattle.block.specs.Bytes.{Bytes}
use Rattle.block.proofs.BytesLaws.{bytes_zeros}
use Rattle.block.proofs.RowLaws.{bytes-row}
use Rattle.records.specs.Record.{record_size, text_most, greatest_revision, num, rev, mark, len, sound}
use Rattle.records.proofs.FieldLaws.{sound_len, sound_fields, num_bound, rev_bound}
use Rattle.slots.specs.Slots.{slots, slot, put, emptied}
use Rattle.slots.proofs.SlotLaws.{length-slot}
use Rattle.slots.proofs.PutLaws.{sound_emptied, length-emptied}
use Rattle.sheets.specs.Text.{text_of, sheet}
use Rattle.sheets.proofs.SheetLaws.{num_sheet, rev_sheet, length-sheet, sound_sheet, bytes-sheet}
use Rattle.sheets.proofs.TextLaws.{length-text_of, bytes-text_of}
use Rattle.plans.specs.Plans.{bad_keys, add_plan, revise_plan, remove_plan, Plan}
use Rattle.plans.proofs.PlanLaws.{used, add_says, revise_says, remove_says}
use Rattle.store.specs.declared.Outcome.{Outcome}
use Rattle.store.specs.declared.Outcome.TheVariants.{Done, Free, Damaged, Already, Converted}
use Rattle.store.specs.Calls.{add_store, revise_store, remove_store, record_outcome, outcome_at, converted_at, step_store}
use Rattle.claims.specs.Plain.{Place, holding, revision_of, at, after_add, after_revise, after_remove}
use Rattle.claims.specs.View.{plain}
use Rattle.claims.proofs.ViewLaws.{length-plain, put_plain}
use Rattle.claims.proofs.Simulation.{SoundStore, held}
use Rattle.claims.proofs.Keeping.{place_emptied, place_sheet, sound_put}

-- a place that is set to what it holds
set_same : (l : List Place) (k : ℕ) → k < length l → set l k (at l k) ≡ l
set_same [] k h = absurd (not-suc-le-zero h)
set_same (x ∷ l) zero h = refl
set_same (x ∷ l) (suc k) h = ap (λ (m : List Place). x ∷ m) (set_same l k (le_of_suc-le-suc h))

-- a slot that a step converts is used and sound
converts : (s : List ℕ) (k : ℕ) → outcome_at s k ≡ Converted → (k < slots s) × (num (slot s k) ≡ 0 → ⊥) × (sound (slot s k) ≡ true)
unfolding outcome_at record_outcome
converts s k e = by_tests (leb (slots s) k) (eqb (num (slot s k)) 0) (sound (slot s k)) (eqb (mark (slot s k)) 2) refl refl refl e
  where
    which : Outcome → ℕ
    which Done = 0
    which Free = 1
    which Damaged = 2
    which Already = 3
    which Converted = 4

    by_tests : (a b c d : Bool) → leb (slots s) k ≡ a → eqb (num (slot s k)) 0 ≡ b → sound (slot s k) ≡ c
        → cond a Done (cond b Free (cond (not c) Damaged (cond d Already Converted))) ≡ Converted
        → (k < slots s) × (num (slot s k) ≡ 0 → ⊥) × (sound (slot s k) ≡ true)
    by_tests true b c d p q r x = let z : ◌≡◌ {A = ℕ} 0 4 = ap which x in let y : ⊥ = omega arith in absurd y
    by_tests false true c d p q r x = let z : ◌≡◌ {A = ℕ} 1 4 = ap which x in let y : ⊥ = omega arith in absurd y
    by_tests false false false d p q r x = let z : ◌≡◌ {A = ℕ} 2 4 = ap which x in let y : ⊥ = omega arith in absurd y
    by_tests false false true d p q r x = (leb-false (slots s) k p, eqb-false (num (slot s k)) 0 q, r)

-- the sheet that it becomes
abbrev pub rekeyed : List ℕ → List ℕ → List ℕ → ℕ → List ℕ
rekeyed o w s k = sheet w (num (slot s k)) (rev (slot s k)) (text_of o w (slot s k))

pub record Rekeyed (o w s : List ℕ) (k : ℕ) : Type 0 where
  pub within : k < slots s
  pub used : num (slot s k) ≡ 0 → ⊥
  pub bytes : Bytes (text_of o w (slot s k))
  pub long : 16 ≤ length (text_of o w (slot s k))
  pub fits : length (text_of o w (slot s k)) ≤ text_most
  pub whole : length (rekeyed o w s k) ≡ record_size
  pub number : num (rekeyed o w s k) ≡ num (slot s k)
  pub revision : rev (rekeyed o w s k) ≡ rev (slot s k)

pub convert_says : (o w s : List ℕ) (k : ℕ) → Bytes o → Bytes w → Bytes s → outcome_at s k ≡ Converted → Rekeyed o w s k
convert_says o w s k bo bw bs e =
    let c = converts s k e in
    let r : List ℕ = slot s k in
    let br : Bytes r = bytes-row record_size s k bs in
    let b = sound_len r c.2 c.1 in
    let t : List ℕ = text_of o w r in
    let bt : Bytes t = bytes-text_of o w r bo bw br in
    let lt : length t ≡ len r = length-text_of r o w bo bw br (omega (arith, b, length-slot s k c.0)) in
    let ht : length t ≤ text_most = omega (arith, b) in
    record {
      within = c.0;
      used = c.1;
      bytes = bt;
      long = omega (arith, b);
      fits = ht;
      whole = length-sheet w (num r) (rev r) t bw bt ht;
      number = num_sheet w (num r) (rev r) t (num_bound r br);
      revision = rev_sheet w (num r) (rev r) t (rev_bound r br);
    }

-- what holds of the store as it is, and of it with the slot rekeyed where the slot is converted, holds of the store that a step leaves
pub left_by_step : (o w s : List ℕ) (k : ℕ) (P : List ℕ → Type 0) → P s → (outcome_at s k ≡ Converted → P (put s k (rekeyed o w s k)))
    → P (converted_at o w s k (outcome_at s k))
left_by_step o w s k P kept converted = by_outcome (outcome_at s k) refl
  where
    by_outcome : (x : Outcome) → outcome_at s k ≡ x → P (converted_at o w s k x)
    by_outcome Done e = kept
    by_outcome Free e = kept
    by_outcome Damaged e = kept
    by_outcome Already e = kept
    by_outcome Converted e = converted e

-- ---- the effects

module _ (o w s : List ℕ) (keys : bad_keys o w ≡ false) (bo : Bytes o) (bw : Bytes w) (g : SoundStore s) where
  pub effect_remove : (n : ℕ) (p : Plan) → remove_plan s n ≡ p → (plain o w (remove_store s p) ≡ after_remove (plain o w s) p) × SoundStore (remove_store s p)
  effect_remove n (Err x) e = (refl, g)
  effect_remove n (Ok k) e =
      let h : k < slots s = (remove_says s n k e).1.within in (
        put_plain o w s k emptied h length-emptied ∙ ap (set (plain o w s) k) (place_emptied o w),
        sound_put s k h emptied length-emptied g (bytes_zeros record_size) sound_emptied,
      )

  pub effect_add : (n : ℕ) (t : List ℕ) → n < 4294967296 → Bytes t → (p : Plan) → add_plan o w s n t ≡ p
      → (plain o w (add_store w s n t p) ≡ after_add (plain o w s) n t p) × SoundStore (add_store w s n t p)
  effect_add n t hn bt (Err x) e = (refl, g)
  effect_add n t hn bt (Ok k) e =
      let a = add_says o w s n t k e in
      let x : List ℕ = sheet w n 1 t in
      let lx : length x ≡ record_size = length-sheet w n 1 t bw bt a.fits in (
        put_plain o w s k x a.within lx ∙ ap (set (plain o w s) k) (place_sheet w n 1 t bw bt a.fits hn (omega arith) o a.some),
        sound_put s k a.within x lx g (bytes-sheet w n 1 t bw bt) (sound_sheet w n 1 t bw bt a.fits a.some hn (omega arith) (omega arith) a.long),
      )

  pub effect_revise : (n v : ℕ) (t : List ℕ) → n < 4294967296 → Bytes t → (p : Plan) → revise_plan o w s n v t ≡ p
      → (plain o w (revise_store w s n t p) ≡ after_revise (plain o w s) n t p) × SoundStore (revise_store w s n t p)
  effect_revise n v t hn bt (Err x) e = (refl, g)
  effect_revise n v t hn bt (Ok k) e =
      let a = revise_says o w s n v t k e in
      let r : List ℕ = slot s k in
      let hv : rev r + 1 ≤ greatest_revision = omega (arith, rev_bound r (bytes-row record_size s k g.bytes), a.below) in
      let x : List ℕ = sheet w n (rev r + 1) t in
      let lx : length x ≡ record_size = length-sheet w n (rev r + 1) t bw bt a.fits in
      let u : num r ≡ 0 → ⊥ = used a.at in
      let q : revision_of (at (plain o w s) k) ≡ rev r = ap revision_of (held o w s keys bo bw g k a.at.within u) in (
        put_plain o w s k x a.at.within lx
            ∙ ap (set (plain o w s) k) (place_sheet w n (rev r + 1) t bw bt a.fits hn hv o a.at.some)
            ∙ ap (λ (j : ℕ). set (plain o w s) k (holding n (j + 1) t)) (sym q),
        sound_put s k a.at.within x lx g (bytes-sheet w n (rev r + 1) t bw bt)
            (sound_sheet w n (rev r + 1) t bw bt a.fits a.at.some hn (omega arith) hv a.long),
      )

  -- a slot that is converted leaves the list as it was
  converted : (k : ℕ) → outcome_at s k ≡ Converted
      → (plain o w (put s k (rekeyed o w s k)) ≡ plain o w s) × SoundStore (put s k (rekeyed o w s k))
  converted k e =
      let c = convert_says o w s k bo bw g.bytes e in
      let r : List ℕ = slot s k in
      let br : Bytes r = bytes-row record_size s k g.bytes in
      let f = sound_fields r (g.each k c.within) c.used in
      let t : List ℕ = text_of o w r in
      let hn : num r < 4294967296 = num_bound r br in
      let hv : rev r ≤ greatest_revision = rev_bound r br in (
        put_plain o w s k (rekeyed o w s k) c.within c.whole
            ∙ ap (set (plain o w s) k) (place_sheet w (num r) (rev r) t bw c.bytes c.fits hn hv o c.used)
            ∙ ap (set (plain o w s) k) (sym (held o w s keys bo bw g k c.within c.used))
            ∙ set_same (plain o w s) k (omega (arith, length-plain o w s, c.within)),
        sound_put s k c.within (rekeyed o w s k) c.whole g (bytes-sheet w (num r) (rev r) t bw c.bytes)
            (sound_sheet w (num r) (rev r) t bw c.bytes c.fits c.used hn (omega (arith, f)) hv c.long),
      )

  pub effect_step : (p : Plan) → (plain o w (step_store o w s p) ≡ plain o w s) × SoundStore (step_store o w s p)
  effect_step (Err x) = (refl, g)
  effect_step (Ok k) = left_by_step o w s k (λ x. (plain o w x ≡ plain o w s) × SoundStore x) (refl, g) (converted k)
