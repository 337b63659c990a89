-- Demand 3, for operators: two questions answered on the plain list. A step does nothing to it; and a sheet that the list holds stays as it is
-- through every event but an accepted revision or removal of it.
-- Assumes nothing.
use mathlib.Core.Path.{◌≡◌, refl, sym, ap, ◌∙◌, subst}
use mathlib.Core.Bool.{false}
use mathlib.Core.List.{List, [], ◌∷◌, ◌++◌}
use Prim.Native.Nat.{ℕ, zero, suc, ◌+◌, ◌≤◌, ◌<◌}
use native.Mathlib.Omega.{arith}
use borrow.Author.Tests.{ne_eqb, le-ltb}
use lib.Dec.{eqb, ltb}
use lib.ListN.{length, drop, set, length-set}
use Rattle.std.specs.Prelude.{Ok, Err}
use Rattle.block.specs.Bytes.{Bytes}
use Rattle.numbers.specs.declared.Refusal.{Refusal}
use Rattle.plans.proofs.PlanLaws.{no}
use Rattle.plans.specs.Plans.{Plan}
use Rattle.claims.specs.Plain.{Place, nothing, holding, number_of, revision_of, text_in, at, find_in, read_in, add_in, revise_in, remove_in, a_text}
use Rattle.claims.specs.Plain.{read_text, read_into, added, after_add, revised, after_revise, gone, after_remove}
use Rattle.claims.specs.View.{plain}
use Rattle.store.specs.Conversions.{refuses, gives}
use Rattle.store.specs.Calls.{Stored, Removed}
use Rattle.claims.specs.Machine.{Event, reading, adding, converting, revising, removing, stepping, AllAllowed, Answer, of_read, of_stored, of_removed}
use Rattle.claims.specs.Machine.{State, answers, final, list_answer, list_next, list_answers, list_final}
use Rattle.claims.specs.Claims.{Key, Passes, event_at, answer_at}
use Rattle.claims.specs.Operators.{asked, told, Written, by_add, by_conversion, by_revision, Changed, revised_anew, taken_out, Unchanged}
use Rattle.claims.proofs.PlainLaws.{adds_at, revises_at, removes_at, in_has, in_lowest, at_set, at_other, found_as_before, found_there}
use Rattle.claims.proofs.Demand3.{answers_as_a_list, holds_the_list}

-- ---- steps change nothing

told_asked : (es : List Event) (l : List Place) → told (list_answers es l) ≡ list_answers (asked es) l
told_asked [] l = refl
told_asked (reading n b ∷ es) l = ap (λ (a : List Answer). list_answer (reading n b) l ∷ a) (told_asked es l)
told_asked (adding n t ∷ es) l = ap (λ (a : List Answer). list_answer (adding n t) l ∷ a) (told_asked es (list_next (adding n t) l))
told_asked (converting n (refuses x) ∷ es) l = ap (λ (a : List Answer). list_answer (converting n (refuses x)) l ∷ a) (told_asked es l)
told_asked (converting n (gives t) ∷ es) l = ap (λ (a : List Answer). list_answer (adding n t) l ∷ a) (told_asked es (list_next (adding n t) l))
told_asked (revising n v t ∷ es) l = ap (λ (a : List Answer). list_answer (revising n v t) l ∷ a) (told_asked es (list_next (revising n v t) l))
told_asked (removing n ∷ es) l = ap (λ (a : List Answer). list_answer (removing n) l ∷ a) (told_asked es (list_next (removing n) l))
told_asked (stepping c ∷ es) l = told_asked es l

final_asked : (es : List Event) (l : List Place) → list_final es l ≡ list_final (asked es) l
final_asked [] l = refl
final_asked (reading n b ∷ es) l = final_asked es l
final_asked (adding n t ∷ es) l = final_asked es (list_next (adding n t) l)
final_asked (converting n (refuses x) ∷ es) l = final_asked es l
final_asked (converting n (gives t) ∷ es) l = final_asked es (list_next (adding n t) l)
final_asked (revising n v t ∷ es) l = final_asked es (list_next (revising n v t) l)
final_asked (removing n ∷ es) l = final_asked es (list_next (removing n) l)
final_asked (stepping c ∷ es) l = final_asked es l

-- two lists of events that differ only in steps, of any copies, any number, anywhere, from one store that passes the check, wherever the copies
-- stand before: every read, add, revision and removal is answered alike, and the two stores left hold the same list
pub steps_change_nothing : (o w : List ℕ) → Key o → Key w → (st st' : State) → st.store ≡ st'.store → Bytes st.store → Passes st.store
    → (es es' : List Event) → AllAllowed es → AllAllowed es' → asked es ≡ asked es'
    → (told (answers o w es st) ≡ told (answers o w es' st')) × (plain o w (final o w es st).store ≡ plain o w (final o w es' st').store)
steps_change_nothing o w ko kw st st' q bs ok es es' h h' e =
    let bs' : Bytes st'.store = subst Bytes q bs in
    let ok' : Passes st'.store = subst Passes q ok in
    let l : List Place = plain o w st.store in
    let same : plain o w st'.store ≡ l = sym (ap (plain o w) q) in (
      ap told (answers_as_a_list o w ko kw st bs ok es h)
          ∙ told_asked es l
          ∙ ap (λ (x : List Event). list_answers x l) e
          ∙ sym (told_asked es' l)
          ∙ sym (ap told (answers_as_a_list o w ko kw st' bs' ok' es' h' ∙ ap (list_answers es') same)),
      holds_the_list o w ko kw st bs ok es h
          ∙ final_asked es l
          ∙ ap (λ (x : List Event). list_final x l) e
          ∙ sym (final_asked es' l)
          ∙ sym (holds_the_list o w ko kw st' bs' ok' es' h' ∙ ap (list_final es') same),
    )

-- ---- what is read back

no_read : (n : ℕ) (b : List ℕ) → stepping 0 ≡ reading n b → ⊥
no_read n b e = let q : ◌≡◌ {A = ℕ} 0 1 = cc in let y : ⊥ = omega arith in y

-- the list holds sheet n at revision r with text t, where it finds it
abbrev Holds : ℕ → ℕ → List ℕ → List Place → Type 0
Holds n r t l = (find_in l n < length l) × (at l (find_in l n) ≡ holding n r t)

module _ (n r : ℕ) (t : List ℕ) (z : n ≡ 0 → ⊥) where
  -- a place without the number that is written anew without it
  holds_set : (l : List Place) (k : ℕ) → k < length l → (x : Place) → (number_of (at l k) ≡ n → ⊥) → (number_of x ≡ n → ⊥) → Holds n r t l
      → Holds n r t (set l k x)
  holds_set l k h x a b c =
      let f : find_in (set l k x) n ≡ find_in l n = found_as_before l k h x n (ne_eqb (number_of x) n b ∙ sym (ne_eqb (number_of (at l k)) n a)) in
      let away : find_in l n ≡ k → ⊥ = λ q. a (sym (ap (λ (j : ℕ). number_of (at l j)) q) ∙ in_has l n c.0) in
      (omega (arith, length-set l k x, c.0), ap (at (set l k x)) f ∙ at_other l k h x (find_in l n) away ∙ c.1)

  holds_add : (l : List Place) → Holds n r t l → (m : ℕ) (u : List ℕ) (p : Plan) → add_in l m u ≡ p → Holds n r t (after_add l m u p)
  holds_add l c m u (Err x) e = c
  holds_add l c m u (Ok k) e =
      let a = adds_at l m u k e in
      holds_set l k a.within (holding m 1 u) (λ q. z (sym q ∙ a.free))
      (λ q. let y : find_in l m ≡ find_in l n = ap (find_in l) q in let v : ⊥ = omega (arith, a.new, c.0) in v) c

  holds_revise : (l : List Place) → Holds n r t l → (m v : ℕ) (u : List ℕ) (p : Plan) → revise_in l m v u ≡ p
      → ((i : ℕ) → m ≡ n → revised l p ≡ Ok i → ⊥) → Holds n r t (after_revise l m u p)
  holds_revise l c m v u (Err x) e d = c
  holds_revise l c m v u (Ok k) e d =
      let a = revises_at l m v u k e in
      let y : m ≡ n → ⊥ = λ q. d (revision_of (at l k) + 1) q refl in
      holds_set l k a.within (holding m (revision_of (at l k) + 1) u) (λ q. y (sym a.number ∙ q)) y c

  holds_remove : (l : List Place) → Holds n r t l
      → (m : ℕ) (p : Plan) → remove_in l m ≡ p → (m ≡ n → gone p ≡ Ok tt → ⊥) → Holds n r t (after_remove l p)
  holds_remove l c m (Err x) e d = c
  holds_remove l c m (Ok k) e d =
      let a = removes_at l m k e in
      let y : m ≡ n → ⊥ = λ q. d q refl in
      holds_set l k a.within nothing (λ q. y (sym a.number ∙ q)) (λ q. z (sym q)) c

  is_revised : (m v : ℕ) (u : List ℕ) (i : ℕ) (a : Stored) → m ≡ n → a ≡ Ok i → Changed n (revising m v u) (of_stored a)
  is_revised m v u i a q e = rw (q, e) (revised_anew v u i)

  is_removed : (m : ℕ) (a : Removed) → m ≡ n → a ≡ Ok tt → Changed n (removing m) (of_removed a)
  is_removed m a q e = rw (q, e) taken_out

  -- whatever comes next, but for an accepted revision or removal of the sheet
  holds_next : (e : Event) (l : List Place) → (Changed n e (list_answer e l) → ⊥) → Holds n r t l → Holds n r t (list_next e l)
  holds_next (reading m b) l d c = c
  holds_next (adding m u) l d c = holds_add l c m u (add_in l m u) refl
  holds_next (converting m (refuses x)) l d c = c
  holds_next (converting m (gives u)) l d c = holds_add l c m u (add_in l m u) refl
  holds_next (revising m v u) l d c =
      holds_revise l c m v u (revise_in l m v u) refl (λ i q a. d (is_revised m v u i (revised l (revise_in l m v u)) q a))
  holds_next (removing m) l d c = holds_remove l c m (remove_in l m) refl (λ q a. d (is_removed m (gone (remove_in l m)) q a))
  holds_next (stepping m) l d c = c

  -- a read into a buffer that is long enough
  read_held : (l : List Place) → Holds n r t l → (b : List ℕ) → length t ≤ length b
      → list_answer (reading n b) l ≡ of_read (a_text (length t) r) (t ++ drop (length t) b)
  unfolding read_in
  read_held l c b h =
      let k : ℕ = find_in l n in
      let x : Place = at l k in
      let fits : ltb (length b) (length (text_in x)) ≡ false = ap (λ (y : Place). ltb (length b) (length (text_in y))) c.1 ∙ le-ltb (length b) (length t) h in
      let p : read_in l n (length b) ≡ Ok k =
      no _ _ _ (ne_eqb n 0 z) ∙ no _ _ _ (ne_eqb k (length l) (λ q. let y : ⊥ = omega (arith, c.0) in y)) ∙ no _ _ _ fits in
      ap (λ (q : Plan). of_read (read_text l q) (read_into l b q)) p
      ∙ ap (λ (y : Place). of_read (a_text (length (text_in y)) (revision_of y)) (text_in y ++ drop (length (text_in y)) b)) c.1

  -- along the events
  stays : (es : List Event) (l : List Place) → Holds n r t l → (j : ℕ)
      → ((k : ℕ) → k < j → Changed n (event_at es k) (answer_at (list_answers es l) k) → ⊥)
      → (b : List ℕ) → event_at es j ≡ reading n b → length t ≤ length b
      → answer_at (list_answers es l) j ≡ of_read (a_text (length t) r) (t ++ drop (length t) b)
  stays [] l c j d b e h = absurd (no_read n b e)
  stays (x ∷ es) l c zero d b e h = ap (λ (y : Event). list_answer y l) e ∙ read_held l c b h
  stays (x ∷ es) l c (suc j) d b e h =
      stays es (list_next x l) (holds_next x l (d 0 (omega arith)) c) j (λ k hk. d (suc k) (omega arith)) b e h

-- ---- from the accepted add or revision on

module _ (n : ℕ) (t : List ℕ) (r : ℕ) where
  refused_not : (x : Refusal) → of_stored (Err x) ≡ of_stored (Ok r) → ⊥
  refused_not x e = let q : ◌≡◌ {A = ℕ} 0 1 = cc in let y : ⊥ = omega arith in y

  same_revision : (i : ℕ) → of_stored (Ok i) ≡ of_stored (Ok r) → i ≡ r
  same_revision i e = cc

  holds_added : (l : List Place) (p : Plan) → add_in l n t ≡ p → of_stored (added p) ≡ of_stored (Ok r) → (n ≡ 0 → ⊥) × Holds n r t (after_add l n t p)
  holds_added l (Err x) e q = absurd (refused_not x q)
  holds_added l (Ok k) e q =
      let a = adds_at l n t k e in
      let x : Place = holding n 1 t in
      let f : find_in (set l k x) n ≡ k =
      found_there l k a.within x n refl (λ j g. ne_eqb (number_of (at l j)) n (in_lowest l n j (omega (arith, a.new, a.within)))) in (
        a.some,
        (omega (arith, a.within, length-set l k x), ap (at (set l k x)) f ∙ at_set l k a.within x ∙ ap (λ (i : ℕ). holding n i t) (same_revision 1 q)),
      )

  holds_revised : (l : List Place) (v : ℕ) (p : Plan) → revise_in l n v t ≡ p → of_stored (revised l p) ≡ of_stored (Ok r)
      → (n ≡ 0 → ⊥) × Holds n r t (after_revise l n t p)
  holds_revised l v (Err x) e q = absurd (refused_not x q)
  holds_revised l v (Ok k) e q =
      let a = revises_at l n v t k e in
      let i : ℕ = revision_of (at l k) + 1 in
      let x : Place = holding n i t in
      let f : find_in (set l k x) n ≡ k = found_as_before l k a.within x n (ap (λ (m : ℕ). eqb m n) (sym a.number)) ∙ a.place in (
        a.some,
        (omega (arith, a.within, length-set l k x), ap (at (set l k x)) f ∙ at_set l k a.within x ∙ ap (λ (j : ℕ). holding n j t) (same_revision i q)),
      )

  holds_written : (e : Event) (a : Answer) → Written n t r e a → (l : List Place) → list_answer e l ≡ a → (n ≡ 0 → ⊥) × Holds n r t (list_next e l)
  holds_written e a by_add l q = holds_added l (add_in l n t) refl q
  holds_written e a by_conversion l q = holds_added l (add_in l n t) refl q
  holds_written e a (by_revision v) l q = holds_revised l v (revise_in l n v t) refl q

  list_back : (es : List Event) (l : List Place) (i j : ℕ) → i < j → Written n t r (event_at es i) (answer_at (list_answers es l) i)
      → Unchanged n es (list_answers es l) i j → (b : List ℕ) → event_at es j ≡ reading n b → length t ≤ length b
      → answer_at (list_answers es l) j ≡ of_read (a_text (length t) r) (t ++ drop (length t) b)
  list_back [] l i j h a u b e f = absurd (no_read n b e)
  list_back (x ∷ es) l zero zero h a u b e f = let y : ⊥ = omega arith in absurd y
  list_back (x ∷ es) l (suc i) zero h a u b e f = let y : ⊥ = omega arith in absurd y
  list_back (x ∷ es) l zero (suc j) h a u b e f =
      let c = holds_written x (list_answer x l) a l refl in
      stays n r t c.0 es (list_next x l) c.1 j (λ k hk. u (suc k) (omega arith) (omega arith)) b e f
  list_back (x ∷ es) l (suc i) (suc j) h a u b e f =
      list_back es (list_next x l) i j (omega arith) a (λ k hi hj. u (suc k) (omega arith) (omega arith)) b e f

-- a read at position j, into a buffer that is long enough, after an add, a conversion or a revision of the sheet that was accepted at position i, with
-- anything between but an accepted revision or removal of the sheet: the text, its length, and the revision that was answered
pub read_back : (o w : List ℕ) → Key o → Key w → (st : State) → Bytes st.store → Passes st.store → (es : List Event) → AllAllowed es
    → (n : ℕ) (t : List ℕ) (r i j : ℕ) → i < j → Written n t r (event_at es i) (answer_at (answers o w es st) i)
    → Unchanged n es (answers o w es st) i j
    → (b : List ℕ) → event_at es j ≡ reading n b → length t ≤ length b
    → answer_at (answers o w es st) j ≡ of_read (a_text (length t) r) (t ++ drop (length t) b)
read_back o w ko kw st bs ok es h n t r i j g a u b e f =
    let p : answers o w es st ≡ list_answers es (plain o w st.store) = answers_as_a_list o w ko kw st bs ok es h in
    ap (λ (x : List Answer). answer_at x j) p
    ∙ list_back n t r es (plain o w st.store) i j g (subst (λ (x : List Answer). Written n t r (event_at es i) (answer_at x i)) p a)
    (subst (λ (x : List Answer). Unchanged n es x i j) p u) b e f
