-- What a conversion comes to, by the answer of its tests; and that a text that is too long is refused by its length alone.
-- Assumes nothing.
use Rattle.std.specs.Prelude.{Ok, Err, Result, ⊤}
use mathlib.Core.Path.{◌≡◌, refl, sym, ap, ap₂, ◌∙◌, subst}
use mathlib.Core.Bool.{Bool, true, false, cond, not}
use mathlib.Core.List.{List, []}
use Prim.Native.Nat.{ℕ, ◌-◌, ◌<◌}
use native.Mathlib.Omega.{arith}
use lib.Dec.{eqb}
use lib.ListN.{length, take}
use lib.Seq.{take_at}
use borrow.Rule.Slice.PartMut.{post_of, put_mid}
use Rattle.block.specs.Bytes.{Bytes}
use Rattle.numbers.specs.declared.Refusal.{Refusal}
use Rattle.numbers.specs.declared.Refusal.TheVariants.{XtsKeyLength, UnitLength}
use Rattle.numbers.specs.Numbers.{paper, answer_paper}
use Rattle.numbers.proofs.NumberLaws.{paper_apart}
use Rattle.records.specs.Record.{text_most}
use Rattle.plans.specs.Plans.{Plan, add_plan}
use Rattle.plans.proofs.PlanLaws.{add_says, add_by_length}
use Rattle.store.specs.Calls.{Stored, add_answer, add_store, AddCalled}
use Rattle.store.specs.Conversions.{Source, refuses, gives, convert_answer, convert_store, ConvertCalled}
use Rattle.xts.specs.Xts.{key_taken, bad_unit, number, xts, afterwards}
use Rattle.xts.proofs.Promise.{length_kept, bytes_kept}
use Rattle.takeover.specs.Sources.{Taken, xts_source}

-- ---- by the answer of the tests

-- what a conversion comes to, with the text t if its tests refuse nothing
abbrev pub comes_to : Result ⊤ Refusal → List ℕ → Source
comes_to (Ok _) t = gives t
comes_to (Err x) t = refuses x

abbrev answered : Bool → Bool → Result ⊤ Refusal
answered t b = cond (not t) (Err XtsKeyLength) (cond b (Err UnitLength) (Ok tt))

abbrev kind : Source → ℕ
kind (refuses x) = 0
kind (gives t) = 1

abbrev text_of : Source → List ℕ
text_of (refuses x) = []
text_of (gives t) = t

by_tests : (t b : Bool) (x : List ℕ) → cond (not t) (refuses XtsKeyLength) (cond b (refuses UnitLength) (gives x)) ≡ comes_to (answered t b) x
by_tests true true x = refl
by_tests true false x = refl
by_tests false b x = refl

paper_answered : (t b : Bool) → cond (not t) (paper XtsKeyLength) (cond b (paper UnitLength) 0) ≡ answer_paper (answered t b)
paper_answered true true = refl
paper_answered true false = refl
paper_answered false b = refl

module _ (k : List ℕ) (i : ℕ) (u : List ℕ) where
  pub source_answer : (a : Result ⊤ Refusal) → answer_paper a ≡ number (length k) (length u) → xts_source k i u ≡ comes_to a (xts true k i u)
  unfolding xts_source number
  source_answer a e =
      let t : Bool = key_taken (length k) in
      let b : Bool = bad_unit (length u) in
      by_tests t b (xts true k i u)
      ∙ ap (λ (y : Result ⊤ Refusal). comes_to y (xts true k i u)) (sym (paper_apart a (answered t b) (e ∙ paper_answered t b)))

  pub source_taken : Taken k u → xts_source k i u ≡ gives (xts true k i u)
  source_taken e = source_answer (Ok tt) (sym e)

  -- and then the call that deciphers leaves the text
  pub deciphered : Taken k u → afterwards true k i u ≡ xts true k i u
  unfolding afterwards
  deciphered e = ap (λ (n : ℕ). cond (eqb n 0) (xts true k i u) u) e

  -- what is to be added are bytes
  pub source_bytes : Bytes k → Bytes u → (t : List ℕ) → xts_source k i u ≡ gives t → Bytes t
  unfolding xts_source number
  source_bytes bk bu t e = with_tests (key_taken (length k)) (bad_unit (length u)) refl refl e
    where
      with_tests : (x y : Bool) → key_taken (length k) ≡ x → bad_unit (length u) ≡ y
          → cond (not x) (refuses XtsKeyLength) (cond y (refuses UnitLength) (gives (xts true k i u))) ≡ gives t → Bytes t
      with_tests true true p q g = let z : ◌≡◌ {A = ℕ} 0 1 = ap kind g in let v : ⊥ = omega arith in absurd v
      with_tests false y p q g = let z : ◌≡◌ {A = ℕ} 0 1 = ap kind g in let v : ⊥ = omega arith in absurd v
      with_tests true false p q g =
          let n : Taken k u = ap₂ (λ (a b : Bool). cond (not a) (paper XtsKeyLength) (cond b (paper UnitLength) 0)) p q in
          let h : xts true k i u ≡ t = ap text_of g in
          subst Bytes (deciphered n ∙ h) (bytes_kept true k i u bk bu)

-- ---- a text that is too long

module _ (o w s : List ℕ) (n : ℕ) (t : List ℕ) (long : text_most < length t) where
  plan_refused : (p : Plan) → add_plan o w s n t ≡ p → (t' : List ℕ) → add_store w s n t p ≡ add_store w s n t' p
  plan_refused (Err x) e t' = refl
  plan_refused (Ok k) e t' = let z : ⊥ = omega (arith, (add_says o w s n t k e).fits) in absurd z

  -- what add answers and leaves is that of any other text of the length
  pub too_long : (t' : List ℕ) → length t' ≡ length t
      → (add_answer (add_plan o w s n t) ≡ add_answer (add_plan o w s n t'))
      × (add_store w s n t (add_plan o w s n t) ≡ add_store w s n t' (add_plan o w s n t'))
  too_long t' e =
      let same : add_plan o w s n t ≡ add_plan o w s n t' = add_by_length o w s n t t' (sym e) in
      (ap add_answer same, plan_refused (add_plan o w s n t) refl t' ∙ ap (add_store w s n t') same)

-- ---- the call, from what those that it makes ensure

module _ (o w s : List ℕ) (n : ℕ) (k : List ℕ) (i : ℕ) (u : List ℕ) where
  pub refused_so : (r : Result ⊤ Refusal) (x : Refusal) → answer_paper r ≡ number (length k) (length u) → r ≡ Err x
      → ConvertCalled o w s n (xts_source k i u) (Err x) s
  refused_so r x e q =
      let c : xts_source k i u ≡ refuses x = source_answer k i u r e ∙ ap (λ (y : Result ⊤ Refusal). comes_to y (xts true k i u)) q in
      (sym (ap (convert_answer o w s n) c), sym (ap (convert_store o w s n) c))

  module _ (e : Taken k u) (a : Stored) (s' : List ℕ) where
    pub added_so : (t : List ℕ) → t ≡ xts true k i u → AddCalled o w s n t a s' → ConvertCalled o w s n (xts_source k i u) a s'
    added_so t q c =
        let d : xts_source k i u ≡ gives t = source_taken k i u e ∙ ap gives (sym q) in
        (c.0 ∙ sym (ap (convert_answer o w s n) d), c.1 ∙ sym (ap (convert_store o w s n) d))

    pub too_long_so : Bytes k → Bytes u → text_most < length u → AddCalled o w s n u a s' → ConvertCalled o w s n (xts_source k i u) a s'
    too_long_so bk bu h c =
        let t : List ℕ = xts true k i u in
        let l : length t ≡ length u = ap length (sym (deciphered k i u e)) ∙ length_kept true k i u bk bu in
        let d = too_long o w s n u h t l in
        added_so t refl (c.0 ∙ d.0, c.1 ∙ d.1)

-- the unit copied to the front of the room, and deciphered there
pub laid : (k : List ℕ) (i : ℕ) (u room y x : List ℕ) → Bytes k → Bytes u → Taken k u → y ≡ u
    → x ≡ afterwards true k i (take (length u - 0) (put_mid 0 (length u - 0) room y))
    → take (length u) (put_mid 0 (length u - 0) (put_mid 0 (length u - 0) room y) x) ≡ xts true k i u
laid k i u room y x bk bu e s z =
    let n : ℕ = length u - 0 in
    let j : length y ≡ n = omega (arith, ap length s) in
    let left : x ≡ afterwards true k i u = z ∙ ap (afterwards true k i) (take_at y (post_of 0 n room) n j ∙ s) in
    let long : length x ≡ length u = ap length left ∙ length_kept true k i u bk bu in
    take_at x (post_of 0 n (put_mid 0 n room y)) (length u) long ∙ left ∙ deciphered k i u e
