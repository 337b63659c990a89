-- No call makes a sheet number stand twice.
-- Assumes nothing.
use mathlib.Core.Path.{◌≡◌, refl, sym, ◌∙◌}
use mathlib.Core.Bool.{false}
use mathlib.Core.List.{List, [], ◌∷◌}
use Prim.Native.Nat.{ℕ, ◌+◌, ◌<◌}
use native.Mathlib.Omega.{arith}
use Rattle.std.specs.Prelude.{Ok, Err}
use Rattle.block.specs.Bytes.{Bytes}
use Rattle.records.specs.Record.{num, rev}
use Rattle.slots.specs.Slots.{slots, slot, put, emptied}
use Rattle.slots.proofs.FindLaws.{find_lowest}
use Rattle.slots.proofs.PutLaws.{num_emptied, length-emptied}
use Rattle.sheets.specs.Text.{sheet}
use Rattle.sheets.proofs.SheetLaws.{num_sheet, length-sheet}
use Rattle.plans.specs.Plans.{bad_keys, add_plan, revise_plan, remove_plan, step_plan, Plan}
use Rattle.plans.proofs.PlanLaws.{remove_says, add_says, revise_says}
use Rattle.store.specs.declared.Outcome.TheVariants.{Converted}
use Rattle.store.specs.Calls.{add_store, revise_store, remove_store, outcome_at, step_store}
use Rattle.store.specs.Conversions.{refuses, gives}
use Rattle.claims.specs.Machine.{Event, reading, adding, converting, revising, removing, stepping, Allowed, AllAllowed, State, next, final}
use Rattle.claims.proofs.Simulation.{SoundStore}
use Rattle.claims.proofs.Effects.{rekeyed, convert_says, left_by_step}
use Rattle.claims.proofs.Traces.{one_next}
use Rattle.claims.proofs.Checking.{Apart, apart_put}

module _ (o w : List ℕ) (bo : Bytes o) (bw : Bytes w) (s : List ℕ) (g : SoundStore s) (a : Apart s) where
  removed_apart : (n : ℕ) (p : Plan) → remove_plan s n ≡ p → Apart (remove_store s p)
  removed_apart n (Err x) e = a
  removed_apart n (Ok k) e = apart_put s k (remove_says s n k e).1.within emptied length-emptied a (λ j hj nj z q. z num_emptied)

  added_apart : (n : ℕ) (t : List ℕ) → n < 4294967296 → Bytes t → (p : Plan) → add_plan o w s n t ≡ p → Apart (add_store w s n t p)
  added_apart n t hn bt (Err x) e = a
  added_apart n t hn bt (Ok k) e =
      let c = add_says o w s n t k e in
      apart_put s k c.within (sheet w n 1 t) (length-sheet w n 1 t bw bt c.fits) a
      (λ j hj nj z q. find_lowest (slots s) (slot s) n j (omega (arith, c.new)) (q ∙ num_sheet w n 1 t hn))

  revised_apart : (n v : ℕ) (t : List ℕ) → n < 4294967296 → Bytes t → (p : Plan) → revise_plan o w s n v t ≡ p → Apart (revise_store w s n t p)
  revised_apart n v t hn bt (Err x) e = a
  revised_apart n v t hn bt (Ok k) e =
      let c = revise_says o w s n v t k e in
      let x : List ℕ = sheet w n (rev (slot s k) + 1) t in
      let m : num x ≡ n = num_sheet w n (rev (slot s k) + 1) t hn in
      apart_put s k c.at.within x (length-sheet w n (rev (slot s k) + 1) t bw bt c.fits) a
      (λ j hj nj z q. nj (a j k hj c.at.within (λ y. z (sym q ∙ y)) (q ∙ m ∙ sym c.at.number)))

  converted_apart : (k : ℕ) → outcome_at s k ≡ Converted → Apart (put s k (rekeyed o w s k))
  converted_apart k e =
      let c = convert_says o w s k bo bw g.bytes e in
      apart_put s k c.within (rekeyed o w s k) c.whole a (λ j hj nj z q. nj (a j k hj c.within (λ y. z (sym q ∙ y)) (q ∙ c.number)))

  stepped_apart : (p : Plan) → Apart (step_store o w s p)
  stepped_apart (Err x) = a
  stepped_apart (Ok k) = left_by_step o w s k Apart a (converted_apart k)

next_apart : (o w : List ℕ) → Bytes o → Bytes w → (e : Event) (st : State) → Allowed e → SoundStore st.store → Apart st.store
    → Apart (next o w e st).store
next_apart o w bo bw (reading n b) st h g a = a
next_apart o w bo bw (adding n t) st h g a = added_apart o w bo bw st.store g a n t h.0 h.1 (add_plan o w st.store n t) refl
next_apart o w bo bw (converting n (refuses x)) st h g a = a
next_apart o w bo bw (converting n (gives t)) st h g a =
    added_apart o w bo bw st.store g a n t h.0 h.1 (add_plan o w st.store n t) refl
next_apart o w bo bw (revising n v t) st h g a = revised_apart o w bo bw st.store g a n v t h.0 h.2 (revise_plan o w st.store n v t) refl
next_apart o w bo bw (removing n) st h g a = removed_apart o w bo bw st.store g a n (remove_plan st.store n) refl
next_apart o w bo bw (stepping c) st h g a = stepped_apart o w bo bw st.store g a (step_plan o w st.store (st.place c))

pub stays_apart : (o w : List ℕ) → bad_keys o w ≡ false → Bytes o → Bytes w → (es : List Event) (st : State) → AllAllowed es → SoundStore st.store
    → Apart st.store → Apart (final o w es st).store
stays_apart o w keys bo bw [] st h g a = a
stays_apart o w keys bo bw (e ∷ es) st h g a =
    stays_apart o w keys bo bw es (next o w e st) h.1 (one_next o w keys bo bw e st h.0 g).1 (next_apart o w bo bw e st h.0 g a)
