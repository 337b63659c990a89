-- Demand 3, first part: from a sound store, with two keys of an allowed length, the answers along any list of events are the plain list's, and
-- afterwards what the store's texts decipher to is the plain list.
-- Assumes nothing.
use mathlib.Core.Path.{◌≡◌, refl, sym, ap, ap₂, ◌∙◌}
use mathlib.Core.Bool.{false}
use mathlib.Core.List.{List, [], ◌∷◌, ◌++◌}
use Prim.Native.Nat.{ℕ, ◌+◌, ◌<◌}
use lib.ListN.{length, drop, length-set}
use Rattle.std.specs.Prelude.{Ok, Err}
use Rattle.block.specs.Bytes.{Bytes}
use Rattle.records.specs.Record.{num, rev, len}
use Rattle.slots.specs.Slots.{slots, slot}
use Rattle.sheets.specs.Text.{text_of}
use Rattle.plans.specs.Plans.{bad_keys, read_plan, add_plan, revise_plan, remove_plan, step_plan, Plan}
use Rattle.plans.proofs.PlanLaws.{used, read_says, revise_says}
use Rattle.store.specs.Calls.{read_answer, read_buffer, add_answer, add_store, revise_answer, remove_answer}
use Rattle.claims.specs.Plain.{Place, nothing, holding, revision_of, text_in, at, add_in, revise_in, remove_in, a_text}
use Rattle.claims.specs.Plain.{read_text, read_into, added, after_add, revised, after_revise, gone, after_remove}
use Rattle.claims.specs.View.{plain}
use Rattle.store.specs.Conversions.{refuses, gives}
use Rattle.claims.specs.Machine.{Event, reading, adding, converting, revising, removing, stepping, Allowed, AllAllowed}
use Rattle.claims.specs.Machine.{Answer, of_read, of_stored, of_removed, State, answer, next, answers, final}
use Rattle.claims.specs.Machine.{list_answer, list_next, list_answers, list_final}
use Rattle.claims.proofs.ViewLaws.{length-plain}
use Rattle.claims.proofs.Simulation.{SoundStore, held, read_plain, add_plain, revise_plain, remove_plain, long}
use Rattle.claims.proofs.Effects.{effect_remove, effect_add, effect_revise, effect_step}

-- ---- the list keeps its length

length_add : (l : List Place) (n : ℕ) (t : List ℕ) (p : Plan) → length (after_add l n t p) ≡ length l
length_add l n t (Err x) = refl
length_add l n t (Ok k) = length-set l k (holding n 1 t)

length_revise : (l : List Place) (n : ℕ) (t : List ℕ) (p : Plan) → length (after_revise l n t p) ≡ length l
length_revise l n t (Err x) = refl
length_revise l n t (Ok k) = length-set l k (holding n (revision_of (at l k) + 1) t)

length_remove : (l : List Place) (p : Plan) → length (after_remove l p) ≡ length l
length_remove l (Err x) = refl
length_remove l (Ok k) = length-set l k nothing

length-list_final : (es : List Event) (l : List Place) → length (list_final es l) ≡ length l
length-list_final [] l = refl
length-list_final (reading n b ∷ es) l = length-list_final es l
length-list_final (adding n t ∷ es) l = length-list_final es (list_next (adding n t) l) ∙ length_add l n t (add_in l n t)
length-list_final (converting n (refuses x) ∷ es) l = length-list_final es l
length-list_final (converting n (gives t) ∷ es) l = length-list_final es (list_next (adding n t) l) ∙ length_add l n t (add_in l n t)
length-list_final (revising n v t ∷ es) l = length-list_final es (list_next (revising n v t) l) ∙ length_revise l n t (revise_in l n v t)
length-list_final (removing n ∷ es) l = length-list_final es (list_next (removing n) l) ∙ length_remove l (remove_in l n)
length-list_final (stepping c ∷ es) l = length-list_final es l

module _ (o w : List ℕ) (keys : bad_keys o w ≡ false) (bo : Bytes o) (bw : Bytes w) where
  module _ (s : List ℕ) (g : SoundStore s) where
    -- the text and the revision of the slot found are those of its place
    read_same : (n : ℕ) (b : List ℕ) (p : Plan) → read_plan o w s n (length b) ≡ p
        → (read_answer s p ≡ read_text (plain o w s) p) × (read_buffer o w s b p ≡ read_into (plain o w s) b p)
    read_same n b (Err x) e = (refl, refl)
    read_same n b (Ok k) e =
        let c = read_says o w s n (length b) k e in
        let r : List ℕ = slot s k in
        let q : at (plain o w s) k ≡ holding (num r) (rev r) (text_of o w r) = held o w s keys bo bw g k c.at.within (used c.at) in
        let m : length (text_of o w r) ≡ len r = long o w s keys bo bw g k c.at.within (used c.at) in (
          ap (λ (j : ℕ). a_text j (rev r)) (sym m) ∙ ap (λ (x : Place). a_text (length (text_in x)) (revision_of x)) (sym q),
          ap (λ (j : ℕ). text_of o w r ++ drop j b) (sym m) ∙ ap (λ (x : Place). text_in x ++ drop (length (text_in x)) b) (sym q),
        )

    add_same : (p : Plan) → add_answer p ≡ added p
    add_same (Err x) = refl
    add_same (Ok k) = refl

    remove_same : (p : Plan) → remove_answer p ≡ gone p
    remove_same (Err x) = refl
    remove_same (Ok k) = refl

    revise_same : (n v : ℕ) (t : List ℕ) (p : Plan) → revise_plan o w s n v t ≡ p → revise_answer s p ≡ revised (plain o w s) p
    revise_same n v t (Err x) e = refl
    revise_same n v t (Ok k) e =
        let a = revise_says o w s n v t k e in
        let q : rev (slot s k) ≡ revision_of (at (plain o w s) k) = sym (ap revision_of (held o w s keys bo bw g k a.at.within (used a.at))) in
        λ i. Ok (q i + 1)

  -- an add, by itself or as a conversion
  answered_add : (n : ℕ) (t s : List ℕ) → SoundStore s → of_stored (add_answer (add_plan o w s n t)) ≡ of_stored (added (add_in (plain o w s) n t))
  answered_add n t s g = ap of_stored (add_same s g (add_plan o w s n t) ∙ ap added (add_plain o w s keys bo bw g n t))

  left_by_add : (n : ℕ) (t s : List ℕ) → n < 4294967296 → Bytes t → SoundStore s
      → (plain o w (add_store w s n t (add_plan o w s n t)) ≡ after_add (plain o w s) n t (add_in (plain o w s) n t))
      × SoundStore (add_store w s n t (add_plan o w s n t))
  left_by_add n t s hn bt g =
      let c = effect_add o w s keys bo bw g n t hn bt (add_plan o w s n t) refl in
      (c.0 ∙ ap (after_add (plain o w s) n t) (add_plain o w s keys bo bw g n t), c.1)

  -- one event
  one_answer : (e : Event) (st : State) → SoundStore st.store → answer o w e st ≡ list_answer e (plain o w st.store)
  one_answer (reading n b) st g =
      let s : List ℕ = st.store in
      let c = read_same s g n b (read_plan o w s n (length b)) refl in
      ap₂ of_read c.0 c.1
      ∙ ap (λ (p : Plan). of_read (read_text (plain o w s) p) (read_into (plain o w s) b p)) (read_plain o w s keys bo bw g n (length b))
  one_answer (adding n t) st g = answered_add n t st.store g
  one_answer (converting n (refuses x)) st g = refl
  one_answer (converting n (gives t)) st g = answered_add n t st.store g
  one_answer (revising n v t) st g =
      let s : List ℕ = st.store in
      ap of_stored (revise_same s g n v t (revise_plan o w s n v t) refl ∙ ap (revised (plain o w s)) (revise_plain o w s keys bo bw g n v t))
  one_answer (removing n) st g =
      let s : List ℕ = st.store in
      ap of_removed (remove_same s g (remove_plan s n) ∙ ap gone (remove_plain o w s keys bo bw g n))
  one_answer (stepping c) st g = refl

  pub one_next : (e : Event) (st : State) → Allowed e → SoundStore st.store
      → (plain o w (next o w e st).store ≡ list_next e (plain o w st.store)) × SoundStore (next o w e st).store
  one_next (reading n b) st a g = (refl, g)
  one_next (adding n t) st a g = left_by_add n t st.store a.0 a.1 g
  one_next (converting n (refuses x)) st a g = (refl, g)
  one_next (converting n (gives t)) st a g = left_by_add n t st.store a.0 a.1 g
  one_next (revising n v t) st a g =
      let s : List ℕ = st.store in
      let c = effect_revise o w s keys bo bw g n v t a.0 a.2 (revise_plan o w s n v t) refl in
      (c.0 ∙ ap (after_revise (plain o w s) n t) (revise_plain o w s keys bo bw g n v t), c.1)
  one_next (removing n) st a g =
      let s : List ℕ = st.store in
      let c = effect_remove o w s keys bo bw g n (remove_plan s n) refl in
      (c.0 ∙ ap (after_remove (plain o w s)) (remove_plain o w s keys bo bw g n), c.1)
  one_next (stepping c) st a g = effect_step o w s keys bo bw g (step_plan o w s (st.place c))
    where
      s : List ℕ
      s = st.store

  -- along the whole trace
  pub same_answers : (es : List Event) (st : State) → AllAllowed es → SoundStore st.store → answers o w es st ≡ list_answers es (plain o w st.store)
  same_answers [] st a g = refl
  same_answers (e ∷ es) st a g =
      let c = one_next e st a.0 g in
      ap₂ (λ (x : Answer) (xs : List Answer). x ∷ xs) (one_answer e st g) (same_answers es (next o w e st) a.1 c.1 ∙ ap (list_answers es) c.0)

  pub same_list : (es : List Event) (st : State) → AllAllowed es → SoundStore st.store
      → (plain o w (final o w es st).store ≡ list_final es (plain o w st.store)) × SoundStore (final o w es st).store
  same_list [] st a g = (refl, g)
  same_list (e ∷ es) st a g =
      let c = one_next e st a.0 g in
      let d = same_list es (next o w e st) a.1 c.1 in
      (d.0 ∙ ap (list_final es) c.0, d.1)

  -- the list keeps its length, and so does the store
  pub slots_stay : (es : List Event) (st : State) → AllAllowed es → SoundStore st.store → slots (final o w es st).store ≡ slots st.store
  slots_stay es st a g =
      sym (length-plain o w (final o w es st).store)
      ∙ ap length (same_list es st a g).0
      ∙ length-list_final es (plain o w st.store)
      ∙ length-plain o w st.store
