-- The ladders of refusals: what a plan that ends at a slot says of it, one law a ladder; when a ladder refuses with 7, 8 and 11; and each ladder on
-- places whose records are all sound. The rooms above go by these and open no ladder.
-- Assumes nothing.
use mathlib.Core.Path.{◌≡◌, refl, sym, ap, ◌∙◌}
use mathlib.Core.Bool.{Bool, true, false, not}
use mathlib.Core.List.{List}
use Prim.Native.Nat.{ℕ, ◌≤◌, ◌<◌}
use native.Mathlib.Omega.{arith}
use borrow.Author.Tests.{ltb-true, ltb-false, eqb-true, eqb-false, eq-eqb, ne_eqb, not-false}
use lib.Dec.{eqb, ltb}
use lib.ListN.{length}
use Rattle.std.specs.Prelude.{Ok, Err, Some, None, ok_or, is_some, cond}
use Rattle.block.specs.Bytes.{Bytes}
use Rattle.block.proofs.BoolLaws.{neither}
use Rattle.numbers.specs.declared.Refusal.{Refusal}
use Rattle.numbers.specs.declared.Refusal.TheVariants.{SheetZero, TextLength, NoSheet, OtherRevision, LastRevision, NoFreeSlot, SheetPresent, BufferLength}
use Rattle.records.specs.Record.{record_size, text_most, greatest_revision, num, rev, len, sound}
use Rattle.records.proofs.FieldLaws.{sound_len}
use Rattle.slots.specs.Slots.{slots, slot, find_by, find, found, bad_size}
use Rattle.slots.proofs.FindLaws.{find_le, find_has}
use Rattle.sheets.specs.Text.{text_of}
use Rattle.sheets.proofs.TextLaws.{length-text_of}
use Rattle.plans.specs.Plans.{Plan, guard, bad_keys, bad_length, bad_text, absent, read_at_plan, read_from, add_from, revise_at_plan, revise_from, remove_from}
use Rattle.plans.specs.Plans.{opened, read_plan, add_plan, revise_plan, remove_plan, step_plan}

-- ---- one rung

pub yes : (b : Bool) (x : Refusal) (p : Plan) → b ≡ true → guard b x p ≡ Err x
unfolding guard
yes b x p e = ap (λ (t : Bool). guard t x p) e

pub no : (b : Bool) (x : Refusal) (p : Plan) → b ≡ false → guard b x p ≡ p
unfolding guard
no b x p e = ap (λ (t : Bool). guard t x p) e

-- what follows a test needs to agree only if the test lets through
pub past : (b : Bool) (x : Refusal) (p q : Plan) → (b ≡ false → p ≡ q) → guard b x p ≡ guard b x q
unfolding guard
past true x p q h = refl
past false x p q h = h refl

never : (x : Refusal) (k : ℕ) → ◌≡◌ {A = Plan} (Err x) (Ok k) → ⊥
never x k e = cc

pub same_slot : (j k : ℕ) → ◌≡◌ {A = Plan} (Ok j) (Ok k) → j ≡ k
same_slot j k e = cc

pub passed : (b : Bool) (x : Refusal) (p : Plan) (k : ℕ) → guard b x p ≡ Ok k → (b ≡ false) × (p ≡ Ok k)
unfolding guard
passed true x p k e = absurd (never x k e)
passed false x p k e = (refl, e)

two : (a b : Bool) (y z x : Refusal) (p : Plan) (j : ℕ) → guard a y (guard b z (Ok j)) ≡ Err x → guard a y (guard b z p) ≡ Err x
unfolding guard
two true b y z x p j e = e
two false true y z x p j e = e
two false false y z x p j e = absurd (never x j (sym e))

-- ---- 1 and 4

module _ (o w s : List ℕ) where
  pub opened_no : bad_keys o w ≡ false → bad_size s ≡ false → (p : Plan) → opened o w s p ≡ p
  unfolding opened
  opened_no a b p = no _ _ _ a ∙ no _ _ _ b

  pub opened_at : (p : Plan) (k : ℕ) → opened o w s p ≡ Ok k → (bad_keys o w ≡ false) × (bad_size s ≡ false) × (p ≡ Ok k)
  unfolding opened
  opened_at p k e =
      let a = passed _ _ _ k e in
      let b = passed _ _ _ k a.1 in
      (a.0, b.0, b.1)

  -- whatever follows them, they let through or refuse
  pub opened_through : (p : Plan) (j k : ℕ) → opened o w s (Ok j) ≡ Ok k → opened o w s p ≡ p
  opened_through p j k e = let a = opened_at (Ok j) k e in opened_no a.0 a.1 p

  pub opened_refused : (p : Plan) (j : ℕ) (x : Refusal) → opened o w s (Ok j) ≡ Err x → opened o w s p ≡ Err x
  unfolding opened
  opened_refused p j x e = two (bad_keys o w) (bad_size s) _ _ x p j e

-- ---- a place that was found

module _ (c : ℕ) (r : ℕ → List ℕ) (n : ℕ) where
  pub there : absent c r n ≡ false → find_by c r n < c
  there e =
      let h : find_by c r n ≡ c → ⊥ = eqb-false (find_by c r n) c e in
      omega (arith, find_le c r n, h)

  pub present : find_by c r n < c → absent c r n ≡ false
  present h = ne_eqb (find_by c r n) c (λ q. let z : ⊥ = omega arith in z)

-- a search that refuses with x where it finds no slot, and one whose answer is a test
module _ (s : List ℕ) (n : ℕ) where
  by_search : (x : Refusal) (t : Bool) → ltb (find s n) (slots s) ≡ t
      → (ok_or (found s n) x ≡ cond (absent (slots s) (slot s) n) (Err x) (Ok (find s n))) × (is_some (found s n) ≡ not (absent (slots s) (slot s) n))
  by_search x true e =
      let a : absent (slots s) (slot s) n ≡ false = present (slots s) (slot s) n (ltb-true (find s n) (slots s) e) in (
        ap (λ (t : Bool). ok_or (cond t (Some (find s n)) None) x) e ∙ sym (ap (λ (t : Bool). cond t (Err x) (Ok (find s n))) a),
        ap (λ (t : Bool). is_some (cond t (Some (find s n)) None)) e ∙ sym (ap not a),
      )
  by_search x false e =
      let h : slots s ≤ find s n = ltb-false (find s n) (slots s) e in
      let a : absent (slots s) (slot s) n ≡ true = eq-eqb (find s n) (slots s) (omega (arith, find_le (slots s) (slot s) n)) in (
        ap (λ (t : Bool). ok_or (cond t (Some (find s n)) None) x) e ∙ sym (ap (λ (t : Bool). cond t (Err x) (Ok (find s n))) a),
        ap (λ (t : Bool). is_some (cond t (Some (find s n)) None)) e ∙ sym (ap not a),
      )

  pub found_or : (x : Refusal) → ok_or (found s n) x ≡ cond (absent (slots s) (slot s) n) (Err x) (Ok (find s n))
  found_or x = (by_search x (ltb (find s n) (slots s)) refl).0

  pub found_any : is_some (found s n) ≡ not (absent (slots s) (slot s) n)
  found_any = (by_search NoSheet (ltb (find s n) (slots s)) refl).1

-- what the ladders' proofs need of a search
pub ruleset searched = (found_or, found_any, there, find_has)

-- place k holds sheet n, which is not 0, and no lower one does
pub record Found (c : ℕ) (r : ℕ → List ℕ) (n k : ℕ) : Type 0 where
  pub some : n ≡ 0 → ⊥
  pub place : find_by c r n ≡ k
  pub within : k < c
  pub number : num (r k) ≡ n

found_at : (c : ℕ) (r : ℕ → List ℕ) (n k : ℕ) → eqb n 0 ≡ false → absent c r n ≡ false → find_by c r n ≡ k → Found c r n k
found_at c r n k z a f =
    record {
      some = eqb-false n 0 z;
      place = f;
      within = omega (arith, there c r n a);
      number = sym (ap (λ (j : ℕ). num (r j)) f) ∙ find_has c r n (there c r n a);
    }

-- the sheet that was found is used
pub used : {c : ℕ} {r : ℕ → List ℕ} {n k : ℕ} → Found c r n k → num (r k) ≡ 0 → ⊥
used f q = f.some (sym f.number ∙ q)

-- ---- texts

pub text_long : (l : ℕ) → bad_length l ≡ false → (16 ≤ l) × (l ≤ text_most)
unfolding bad_length
text_long l e =
    let t = neither (ltb l 16) (ltb text_most l) e in
    (ltb-false l 16 t.0, ltb-false text_most l t.1)

-- 01's 14: no record that is sound under a number gives it
pub not_changed : (o w r : List ℕ) → Bytes o → Bytes w → Bytes r → length r ≡ record_size → (num r ≡ 0 → ⊥) → sound r ≡ true
    → not (eqb (length (text_of o w r)) (len r)) ≡ false
not_changed o w r bo bw br n g e =
    let l = sound_len r e g in
    ap not (eq-eqb (length (text_of o w r)) (len r) (length-text_of r o w bo bw br (omega (arith, l))))

-- ---- where a ladder stands once its first tests are known

module _ (c : ℕ) (r : ℕ → List ℕ) (n : ℕ) (some : n ≡ 0 → ⊥) where
  missing : find_by c r n ≡ c → absent c r n ≡ true
  missing h = eq-eqb (find_by c r n) c h

  pub read_none : (o w : List ℕ) (b : ℕ) → find_by c r n ≡ c → read_from c r o w n b ≡ Err NoSheet
  unfolding read_from
  read_none o w b h = no _ _ _ (ne_eqb n 0 some) ∙ yes _ _ _ (missing h)

  pub read_found : (o w : List ℕ) (b : ℕ) → find_by c r n < c → read_from c r o w n b ≡ read_at_plan o w (r (find_by c r n)) b (find_by c r n)
  unfolding read_from
  read_found o w b h = no _ _ _ (ne_eqb n 0 some) ∙ no _ _ _ (present c r n h)

  pub remove_none : find_by c r n ≡ c → remove_from c r n ≡ Err NoSheet
  unfolding remove_from
  remove_none h = no _ _ _ (ne_eqb n 0 some) ∙ yes _ _ _ (missing h)

  pub remove_found : find_by c r n < c → remove_from c r n ≡ Ok (find_by c r n)
  unfolding remove_from
  remove_found h = no _ _ _ (ne_eqb n 0 some) ∙ no _ _ _ (present c r n h)

  module _ (l : ℕ) (long : bad_length l ≡ false) where
    pub add_taken : find_by c r n < c → add_from c r n l ≡ Err SheetPresent
    unfolding add_from
    add_taken h = no _ _ _ (ne_eqb n 0 some) ∙ no _ _ _ long ∙ yes _ _ _ (ap not (present c r n h))

    pub add_new : find_by c r n ≡ c → add_from c r n l ≡ guard (absent c r 0) NoFreeSlot (Ok (find_by c r 0))
    unfolding add_from
    add_new h = no _ _ _ (ne_eqb n 0 some) ∙ no _ _ _ long ∙ no _ _ _ (ap not (missing h))

    pub revise_none : (v : ℕ) → find_by c r n ≡ c → revise_from c r n v l ≡ Err NoSheet
    unfolding revise_from
    revise_none v h = no _ _ _ (ne_eqb n 0 some) ∙ no _ _ _ long ∙ yes _ _ _ (missing h)

    pub revise_found : (v : ℕ) → find_by c r n < c → revise_from c r n v l ≡ revise_at_plan (r (find_by c r n)) v (find_by c r n)
    unfolding revise_from
    revise_found v h = no _ _ _ (ne_eqb n 0 some) ∙ no _ _ _ long ∙ no _ _ _ (present c r n h)

-- ---- what a plan that ends at slot k of the store s says

pub record Reads (o w s : List ℕ) (n b k : ℕ) : Type 0 where
  pub keys : bad_keys o w ≡ false
  pub size : bad_size s ≡ false
  pub at : Found (slots s) (slot s) n k
  pub whole : sound (slot s k) ≡ true
  pub room : len (slot s k) ≤ b

pub read_says : (o w s : List ℕ) (n b k : ℕ) → read_plan o w s n b ≡ Ok k → Reads o w s n b k
unfolding read_from read_at_plan
read_says o w s n b k e =
    let p = opened_at o w s (read_from (slots s) (slot s) o w n b) k e in
    let p1 = passed _ _ _ k p.2 in
    let p2 = passed _ _ _ k p1.1 in
    let p3 = passed _ _ _ k p2.1 in
    let p4 = passed _ _ _ k p3.1 in
    let p5 = passed _ _ _ k p4.1 in
    let f : find s n ≡ k = same_slot (find s n) k p5.1 in
    record {
      keys = p.0;
      size = p.1;
      at = found_at (slots s) (slot s) n k p1.0 p2.0 f;
      whole = sym (ap (λ (j : ℕ). sound (slot s j)) f) ∙ not-false (sound (slot s (find s n))) p3.0;
      room = omega (arith, ap (λ (j : ℕ). len (slot s j)) f, ltb-false b (len (slot s (find s n))) p4.0);
    }

pub record Adds (o w s : List ℕ) (n : ℕ) (t : List ℕ) (k : ℕ) : Type 0 where
  pub keys : bad_keys o w ≡ false
  pub size : bad_size s ≡ false
  pub some : n ≡ 0 → ⊥
  pub long : 16 ≤ length t
  pub fits : length t ≤ text_most
  pub new : find s n ≡ slots s
  pub place : find s 0 ≡ k
  pub within : k < slots s
  pub free : num (slot s k) ≡ 0

pub add_says : (o w s : List ℕ) (n : ℕ) (t : List ℕ) (k : ℕ) → add_plan o w s n t ≡ Ok k → Adds o w s n t k
unfolding add_from
add_says o w s n t k e =
    let p = opened_at o w s (add_from (slots s) (slot s) n (length t)) k e in
    let p1 = passed _ _ _ k p.2 in
    let p2 = passed _ _ _ k p1.1 in
    let p3 = passed _ _ _ k p2.1 in
    let p4 = passed _ _ _ k p3.1 in
    let f : find s 0 ≡ k = same_slot (find s 0) k p4.1 in
    let h : find s 0 < slots s = there (slots s) (slot s) 0 p4.0 in
    record {
      keys = p.0;
      size = p.1;
      some = eqb-false n 0 p1.0;
      long = (text_long (length t) p2.0).0;
      fits = (text_long (length t) p2.0).1;
      new = eqb-true (find s n) (slots s) (not-false (absent (slots s) (slot s) n) p3.0);
      place = f;
      within = omega arith;
      free = sym (ap (λ (j : ℕ). num (slot s j)) f) ∙ find_has (slots s) (slot s) 0 h;
    }

-- of a text, add's ladder looks at the length alone
pub add_by_length : (o w s : List ℕ) (n : ℕ) (t t' : List ℕ) → length t ≡ length t' → add_plan o w s n t ≡ add_plan o w s n t'
add_by_length o w s n t t' e = ap (λ (l : ℕ). opened o w s (add_from (slots s) (slot s) n l)) e

pub record Revises (o w s : List ℕ) (n v : ℕ) (t : List ℕ) (k : ℕ) : Type 0 where
  pub keys : bad_keys o w ≡ false
  pub size : bad_size s ≡ false
  pub long : 16 ≤ length t
  pub fits : length t ≤ text_most
  pub at : Found (slots s) (slot s) n k
  pub whole : sound (slot s k) ≡ true
  pub seen : v ≡ rev (slot s k)
  pub below : rev (slot s k) ≡ greatest_revision → ⊥

pub revise_says : (o w s : List ℕ) (n v : ℕ) (t : List ℕ) (k : ℕ) → revise_plan o w s n v t ≡ Ok k → Revises o w s n v t k
unfolding revise_from revise_at_plan
revise_says o w s n v t k e =
    let p = opened_at o w s (revise_from (slots s) (slot s) n v (length t)) k e in
    let p1 = passed _ _ _ k p.2 in
    let p2 = passed _ _ _ k p1.1 in
    let p3 = passed _ _ _ k p2.1 in
    let p4 = passed _ _ _ k p3.1 in
    let p5 = passed _ _ _ k p4.1 in
    let p6 = passed _ _ _ k p5.1 in
    let f : find s n ≡ k = same_slot (find s n) k p6.1 in
    let r : rev (slot s (find s n)) ≡ rev (slot s k) = ap (λ (j : ℕ). rev (slot s j)) f in
    record {
      keys = p.0;
      size = p.1;
      long = (text_long (length t) p2.0).0;
      fits = (text_long (length t) p2.0).1;
      at = found_at (slots s) (slot s) n k p1.0 p3.0 f;
      whole = sym (ap (λ (j : ℕ). sound (slot s j)) f) ∙ not-false (sound (slot s (find s n))) p4.0;
      seen = eqb-true v (rev (slot s (find s n))) (not-false (eqb v (rev (slot s (find s n)))) p5.0) ∙ r;
      below = λ q. eqb-false (rev (slot s (find s n))) greatest_revision p6.0 (r ∙ q);
    }

pub remove_says : (s : List ℕ) (n k : ℕ) → remove_plan s n ≡ Ok k → (bad_size s ≡ false) × Found (slots s) (slot s) n k
unfolding remove_plan remove_from
remove_says s n k e =
    let p = passed _ _ _ k e in
    let p1 = passed _ _ _ k p.1 in
    let p2 = passed _ _ _ k p1.1 in
    (p.0, found_at (slots s) (slot s) n k p1.0 p2.0 (same_slot (find s n) k p2.1))

pub step_says : (o w s : List ℕ) (k j : ℕ) → step_plan o w s k ≡ Ok j → k ≡ j
step_says o w s k j e = same_slot k j (opened_at o w s (Ok k) j e).2

-- ---- refusals: 7, 11 and 8

module _ (s : List ℕ) (size : bad_size s ≡ false) (n : ℕ) (some : n ≡ 0 → ⊥) where
  pub remove_absent : find s n ≡ slots s → remove_plan s n ≡ Err NoSheet
  unfolding remove_plan
  remove_absent h = no _ _ _ size ∙ remove_none (slots s) (slot s) n some h

  module _ (o w : List ℕ) (keys : bad_keys o w ≡ false) (t : List ℕ) (long : bad_text t ≡ false) (h : find s n < slots s) where
    pub add_present : add_plan o w s n t ≡ Err SheetPresent
    add_present = opened_no o w s keys size (add_from (slots s) (slot s) n (length t)) ∙ add_taken (slots s) (slot s) n some (length t) long h

    pub revise_other : (v : ℕ) → sound (slot s (find s n)) ≡ true → (v ≡ rev (slot s (find s n)) → ⊥)
        → revise_plan o w s n v t ≡ Err OtherRevision
    unfolding revise_at_plan
    revise_other v e z =
        opened_no o w s keys size (revise_from (slots s) (slot s) n v (length t))
        ∙ revise_found (slots s) (slot s) n some (length t) long v h
        ∙ no _ _ _ (ap not e)
        ∙ yes _ _ _ (ap not (ne_eqb v (rev (slot s (find s n))) z))

-- ---- places whose records are all sound: 12 and 14 are never given

module _ (c : ℕ) (r : ℕ → List ℕ) (each : (k : ℕ) → k < c → sound (r k) ≡ true) where
  pub read_sound : (o w : List ℕ) → ((k : ℕ) → k < c → (num (r k) ≡ 0 → ⊥) → length (text_of o w (r k)) ≡ len (r k)) → (n b : ℕ)
      → read_from c r o w n b
      ≡ guard (eqb n 0) SheetZero (guard (absent c r n) NoSheet (guard (ltb b (len (r (find_by c r n)))) BufferLength (Ok (find_by c r n))))
  unfolding read_from read_at_plan
  read_sound o w kept n b =
      past (eqb n 0) SheetZero _ _
      (λ z. past (absent c r n) NoSheet _ _
      (λ a.
      let f = found_at c r n (find_by c r n) z a refl in
      no _ _ _ (ap not (each (find_by c r n) f.within))
      ∙ ap (guard (ltb b (len (r (find_by c r n)))) BufferLength)
      (no _ _ _ (ap not (eq-eqb (length (text_of o w (r (find_by c r n)))) (len (r (find_by c r n))) (kept (find_by c r n) f.within (used f)))))))

  pub revise_sound : (n v l : ℕ)
      → revise_from c r n v l
      ≡ guard (eqb n 0) SheetZero
      (guard (bad_length l) TextLength
      (guard (absent c r n) NoSheet
      (guard (not (eqb v (rev (r (find_by c r n))))) OtherRevision
      (guard (eqb (rev (r (find_by c r n))) greatest_revision) LastRevision (Ok (find_by c r n))))))
  unfolding revise_from revise_at_plan
  revise_sound n v l =
      past (eqb n 0) SheetZero _ _
      (λ z. past (bad_length l) TextLength _ _
      (λ y. past (absent c r n) NoSheet _ _ (λ a. no _ _ _ (ap not (each (find_by c r n) (there c r n a))))))

-- the other two look at no record
module _ (c : ℕ) (r : ℕ → List ℕ) where
  pub add_rungs : (n l : ℕ)
      → add_from c r n l
      ≡ guard (eqb n 0) SheetZero
      (guard (bad_length l) TextLength (guard (not (absent c r n)) SheetPresent (guard (absent c r 0) NoFreeSlot (Ok (find_by c r 0)))))
  unfolding add_from
  add_rungs n l = refl

  pub remove_rungs : (n : ℕ) → remove_from c r n ≡ guard (eqb n 0) SheetZero (guard (absent c r n) NoSheet (Ok (find_by c r n)))
  unfolding remove_from
  remove_rungs n = refl

-- 4, of a removal
pub remove_sized : (s : List ℕ) (n : ℕ) → bad_size s ≡ false → remove_plan s n ≡ remove_from (slots s) (slot s) n
unfolding remove_plan
remove_sized s n e = no _ _ _ e
