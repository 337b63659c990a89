-- The operators' two questions, of the calls for C: steps change nothing, and an accepted text is read back. Both are those of `claims`,
-- proofs/Operators, read off as numbers.
-- Assumes nothing.
use mathlib.Core.Path.{◌≡◌, refl, sym, ap, ap₂, ◌∙◌, subst}
use mathlib.Core.List.{List, [], ◌∷◌, ◌++◌, map}
use Prim.Native.Nat.{ℕ, ◌≤◌, ◌<◌}
use native.Mathlib.Omega.{arith}
use lib.ListN.{length, drop}
use Rattle.std.specs.Prelude.{Ok}
use Rattle.block.specs.Bytes.{Bytes}
use Rattle.claims.specs.Plain.{Place, a_text}
use Rattle.claims.specs.View.{plain}
use Rattle.takeover.specs.Sources.{xts_source}
use Rattle.claims.specs.Machine.{Event, adding, converting, revising, removing, AllAllowed, Answer, of_read, of_stored}
use Rattle.claims.specs.Machine.{State, answers, list_answer, list_next, list_answers, list_final}
use Rattle.claims.specs.Claims.{Key, event_at, answer_at}
use Rattle.claims.specs.Operators as list
use Rattle.claims.proofs.Operators as claims
use Rattle.runs.specs.Calls.{Call, reads, adds, adds_xts, revises, removes, steps, job_steps, Returned, text, revision, freed, outcome}
use Rattle.runs.specs.Calls.{call_at, returned_at, event, events, told, read_off, read_all}
use Rattle.runs.specs.Runs.{Run, ChecksOut}
use Rattle.runs.specs.Operators.{asked, gotten, Written, by_add, by_conversion, by_revision, Changed, revised_anew, taken_out}
use Rattle.runs.proofs.TheCheck.{checks_pass}
use Rattle.runs.proofs.ForC.{is_accepted, told_freed, is_removal, returned_at_lem, event_at_lem, returns_as_a_list, holds_the_list}

-- ---- steps change nothing

gotten_told : (rs : List Returned) → gotten (map told rs) ≡ gotten rs
gotten_told [] = refl
gotten_told (text n b l v ∷ rs) = ap (λ (x : List Returned). text n b l v ∷ x) (gotten_told rs)
gotten_told (revision n v ∷ rs) = ap (λ (x : List Returned). revision n v ∷ x) (gotten_told rs)
gotten_told (freed n ∷ rs) = ap (λ (x : List Returned). freed n ∷ x) (gotten_told rs)
gotten_told (outcome n x ∷ rs) = gotten_told rs

-- what the list gives back
abbrev listed : List Call → List Place → List Returned
listed cs l = read_all cs (list_answers (events cs) l)

after : Call → List Place → List Returned → List Returned
after c l x = read_off c (list_answer (event c) l) ∷ x

gotten_listed : (cs : List Call) (l : List Place) → gotten (listed cs l) ≡ listed (asked cs) l
unfolding after
gotten_listed [] l = refl
gotten_listed (reads i b n v ∷ cs) l = ap (after (reads i b n v) l) (gotten_listed cs l)
gotten_listed (adds i t v ∷ cs) l = ap (after (adds i t v) l) (gotten_listed cs (list_next (adding i t) l))
gotten_listed (adds_xts k d u i v ∷ cs) l = ap (after (adds_xts k d u i v) l) (gotten_listed cs (list_next (converting i (xts_source k d u)) l))
gotten_listed (revises i s t v ∷ cs) l = ap (after (revises i s t v) l) (gotten_listed cs (list_next (revising i s t) l))
gotten_listed (removes i ∷ cs) l = ap (after (removes i) l) (gotten_listed cs (list_next (removing i) l))
gotten_listed (steps c x ∷ cs) l = gotten_listed cs l
gotten_listed (job_steps c x ∷ cs) l = gotten_listed cs l

final_asked : (cs : List Call) (l : List Place) → list_final (events cs) l ≡ list_final (events (asked cs)) l
final_asked [] l = refl
final_asked (reads i b n v ∷ cs) l = final_asked cs l
final_asked (adds i t v ∷ cs) l = final_asked cs (list_next (adding i t) l)
final_asked (adds_xts k d u i v ∷ cs) l = final_asked cs (list_next (converting i (xts_source k d u)) l)
final_asked (revises i s t v ∷ cs) l = final_asked cs (list_next (revising i s t) l)
final_asked (removes i ∷ cs) l = final_asked cs (list_next (removing i) l)
final_asked (steps c x ∷ cs) l = final_asked cs l
final_asked (job_steps c x ∷ cs) l = final_asked cs l

module _ (o w : List ℕ) (ko : Key o) (kw : Key w) (st : State) (bs : Bytes st.store) (ok : ChecksOut st.store) where
  module _ (cs : List Call) (h : AllAllowed (events cs)) (rs : List Returned) (st' : State) (run : Run o w st cs rs st') where
    gotten_is : gotten rs ≡ listed (asked cs) (plain o w st.store)
    gotten_is =
        sym (gotten_told rs)
        ∙ ap gotten (returns_as_a_list o w ko kw st bs ok cs h rs st' run)
        ∙ gotten_listed cs (plain o w st.store)

    left_is : plain o w st'.store ≡ list_final (events (asked cs)) (plain o w st.store)
    left_is = holds_the_list o w ko kw st bs ok cs h rs st' run ∙ final_asked cs (plain o w st.store)

-- two runs whose calls differ only in steps, by either call, of any copies, any number, anywhere, from one store, wherever the copies stand before: every
-- read, add, revision and removal gives back the same, and the two stores left hold the same list
pub steps_change_nothing : (o w : List ℕ) → Key o → Key w → (st st' : State) → st.store ≡ st'.store → Bytes st.store → ChecksOut st.store
    → (cs cs' : List Call) → AllAllowed (events cs) → AllAllowed (events cs') → asked cs ≡ asked cs'
    → (rs rs' : List Returned) (st'' st''' : State) → Run o w st cs rs st'' → Run o w st' cs' rs' st'''
    → (gotten rs ≡ gotten rs') × (plain o w st''.store ≡ plain o w st'''.store)
steps_change_nothing o w ko kw st st' q bs ok cs cs' h h' e rs rs' st'' st''' run run' =
    let bs' : Bytes st'.store = subst Bytes q bs in
    let ok' : ChecksOut st'.store = subst ChecksOut q ok in (
      gotten_is o w ko kw st bs ok cs h rs st'' run
          ∙ ap₂ (λ (x : List Call) (s : List ℕ). listed x (plain o w s)) e q
          ∙ sym (gotten_is o w ko kw st' bs' ok' cs' h' rs' st''' run'),
      left_is o w ko kw st bs ok cs h rs st'' run
          ∙ ap₂ (λ (x : List Call) (s : List ℕ). list_final (events x) (plain o w s)) e q
          ∙ sym (left_is o w ko kw st' bs' ok' cs' h' rs' st''' run'),
    )

-- ---- what is read back

told_text : (x : Returned) (n : ℕ) (b : List ℕ) (l v : ℕ) → told x ≡ text n b l v → x ≡ text n b l v
told_text (text m a i j) n b l v e = e
told_text (revision m j) n b l v e = e
told_text (freed m) n b l v e = e
told_text (outcome m y) n b l v e = let z : ◌≡◌ {A = ℕ} 0 1 = cc in let u : ⊥ = omega arith in absurd u

told_revision : (x : Returned) (n v : ℕ) → told x ≡ revision n v → x ≡ revision n v
told_revision (text m a i j) n v e = e
told_revision (revision m j) n v e = e
told_revision (freed m) n v e = e
told_revision (outcome m y) n v e = let z : ◌≡◌ {A = ℕ} 0 1 = cc in let u : ⊥ = omega arith in absurd u

is_revision : (c : Call) (n v : ℕ) (t : List ℕ) → event c ≡ revising n v t → (x : ℕ) × (c ≡ revises n v t x)
is_revision (reads i b l u) n v t e = let z : ◌≡◌ {A = ℕ} 0 1 = cc in let y : ⊥ = omega arith in absurd y
is_revision (adds i s u) n v t e = let z : ◌≡◌ {A = ℕ} 0 1 = cc in let y : ⊥ = omega arith in absurd y
is_revision (adds_xts k d x i u) n v t e = let z : ◌≡◌ {A = ℕ} 0 1 = cc in let y : ⊥ = omega arith in absurd y
is_revision (revises i k s u) n v t e = (u, cc)
is_revision (removes i) n v t e = let z : ◌≡◌ {A = ℕ} 0 1 = cc in let y : ⊥ = omega arith in absurd y
is_revision (steps c x) n v t e = let z : ◌≡◌ {A = ℕ} 0 1 = cc in let y : ⊥ = omega arith in absurd y
is_revision (job_steps c x) n v t e = let z : ◌≡◌ {A = ℕ} 0 1 = cc in let y : ⊥ = omega arith in absurd y

-- from what a call gave back to the answer that it is of, and back
written_so : (n : ℕ) (t : List ℕ) (r : ℕ) (c : Call) (x : Returned) (a : Answer) → told x ≡ read_off c a → Written n t r c x → list.Written n t r (event c) a
written_so n t r c x a q (by_add y) = rw (is_accepted a y r q) list.by_add
written_so n t r c x a q (by_conversion k d u y e) = rw (e, is_accepted a y r q) list.by_conversion
written_so n t r c x a q (by_revision v y) = rw (is_accepted a y r q) (list.by_revision v)

changed_so : (n : ℕ) (c : Call) (x : Returned) (e : Event) (a : Answer) → e ≡ event c → told x ≡ read_off c a → list.Changed n e a → Changed n c x
changed_so n c x e a p q (list.revised_anew v t r) =
    let k = is_revision c n v t (sym p) in
    let y : x ≡ revision 0 r = told_revision x 0 r (q ∙ ap (λ (d : Call). read_off d (of_stored (Ok r))) k.1) in
    rw (k.1, y) (revised_anew v t k.0 r)
changed_so n c x e a p q list.taken_out =
    let k : c ≡ removes n = is_removal c n (sym p) in
    let y : x ≡ freed 0 = told_freed x 0 (q ∙ ap (λ (d : Call). read_off d a) k) in
    rw (k, y) taken_out

-- a read at position j, into a buffer that is long enough, after an add, a conversion or a revision of the sheet that was answered with 0 at position i,
-- with anything between but a revision or a removal of the sheet that was: 0, the text, its length, and the revision that was answered
module _ (o w : List ℕ) (ko : Key o) (kw : Key w) (st : State) (bs : Bytes st.store) (ok : ChecksOut st.store) where
  pub read_back : (cs : List Call) → AllAllowed (events cs) → (rs : List Returned) (st' : State) → Run o w st cs rs st'
      → (n : ℕ) (t : List ℕ) (r i j : ℕ) → i < j → Written n t r (call_at cs i) (returned_at rs i)
      → ((k : ℕ) → i < k → k < j → Changed n (call_at cs k) (returned_at rs k) → ⊥)
      → (b : List ℕ) (l v : ℕ) → call_at cs j ≡ reads n b l v → length t ≤ length b
      → returned_at rs j ≡ text 0 (t ++ drop (length t) b) (length t) r
  read_back cs h rs st' run n t r i j g y u b l v c f =
      told_text (returned_at rs j) 0 (t ++ drop (length t) b) (length t) r (at j ∙ ap₂ read_off c answered)
    where
      at : (k : ℕ) → told (returned_at rs k) ≡ read_off (call_at cs k) (answer_at (answers o w (events cs) st) k)
      at k = returned_at_lem o w ko kw st bs ok cs h rs st' run k

      written : list.Written n t r (event_at (events cs) i) (answer_at (answers o w (events cs) st) i)
      written =
          subst (λ (e : Event). list.Written n t r e (answer_at (answers o w (events cs) st) i)) (sym (event_at_lem cs i))
          (written_so n t r (call_at cs i) (returned_at rs i) (answer_at (answers o w (events cs) st) i) (at i) y)

      unchanged : list.Unchanged n (events cs) (answers o w (events cs) st) i j
      unchanged k hi hj d =
          u k hi hj
          (changed_so n (call_at cs k) (returned_at rs k) (event_at (events cs) k) (answer_at (answers o w (events cs) st) k) (event_at_lem cs k) (at k) d)

      answered : answer_at (answers o w (events cs) st) j ≡ of_read (a_text (length t) r) (t ++ drop (length t) b)
      answered =
          claims.read_back o w ko kw st bs (checks_pass st.store ok) (events cs) h n t r i j g written unchanged b (event_at_lem cs j ∙ ap event c) f
