-- A store passes the check exactly if its slots are all sound and no sheet number other than 0 stands twice; and a slot written anew keeps it so,
-- if no other slot has its number.
-- Assumes nothing.
use mathlib.Core.Path.{◌≡◌, refl, sym, ap, ap₂, ◌∙◌}
use mathlib.Core.Bool.{Bool, true, false, cond, not, ◌&&◌, ◌||◌}
use mathlib.Core.List.{List}
use Prim.Native.Nat.{ℕ, ◌≤◌, ◌<◌}
use native.Mathlib.Omega.{arith}
use borrow.Author.Tests.{eqb-true, eqb-false, ltb-false, le-ltb}
use lib.Dec.{eqb, ltb}
use lib.ListN.{length}
use Rattle.std.specs.Prelude.{Ok, Err, Result}
use Rattle.block.specs.Bytes.{Bytes}
use Rattle.block.proofs.BoolLaws.{clash}
use Rattle.numbers.specs.declared.Refusal.{Refusal}
use Rattle.numbers.specs.declared.Refusal.TheVariants.{StoreLength}
use Rattle.records.specs.Record.{record_size, num, sound}
use Rattle.slots.specs.Slots.{slots, slot, put, lowest, find, bad_size}
use Rattle.slots.proofs.FindLaws.{find_has, find_lowest, lowest_has, lowest_below}
use Rattle.slots.proofs.PutLaws.{slot_other, slots_put, slot_put}
use Rattle.checking.specs.declared.Checked.{Checked}
use Rattle.checking.specs.declared.Checked.TheVariants.{Counts, Fault}
use Rattle.checking.specs.Check.{faulty, first_fault, counts, check_answer}
use Rattle.claims.specs.Claims.{Passes}
use Rattle.claims.proofs.Simulation.{SoundStore}

-- no sheet number other than 0 stands twice
abbrev pub Apart : List ℕ → Type 0
Apart s = (j k : ℕ) → j < slots s → k < slots s → (num (slot s j) ≡ 0 → ⊥) → num (slot s j) ≡ num (slot s k) → j ≡ k

abbrev kind : Result Checked Refusal → ℕ
kind (Ok (Counts c)) = 0
kind (Ok (Fault k)) = 1
kind (Err x) = 2

-- ---- from the check

-- no test of the check has found anything
nothing_found : (s : List ℕ) → Passes s → (bad_size s ≡ false) × (slots s ≤ first_fault s)
unfolding check_answer
nothing_found s e = by_tests (bad_size s) (ltb (first_fault s) (slots s)) refl refl e
  where
    by_tests : (a b : Bool) → bad_size s ≡ a → ltb (first_fault s) (slots s) ≡ b
        → cond a (Err StoreLength) (cond b (Ok (Fault (first_fault s))) (counts s)) ≡ counts s
        → (bad_size s ≡ false) × (slots s ≤ first_fault s)
    by_tests true b p q x = let z : ◌≡◌ {A = ℕ} 2 0 = ap kind x in let y : ⊥ = omega arith in absurd y
    by_tests false true p q x = let z : ◌≡◌ {A = ℕ} 1 0 = ap kind x in let y : ⊥ = omega arith in absurd y
    by_tests false false p q x = (p, ltb-false (first_fault s) (slots s) q)

-- a slot that is not faulty
not_faulty : (s : List ℕ) (k : ℕ) → faulty s k ≡ false → (sound (slot s k) ≡ true) × ((num (slot s k) ≡ 0 → ⊥) → k ≤ find s (num (slot s k)))
unfolding faulty
not_faulty s k e = by_tests (sound (slot s k)) (eqb (num (slot s k)) 0) (ltb (find s (num (slot s k))) k) refl refl refl e
  where
    by_tests : (a b c : Bool) → sound (slot s k) ≡ a → eqb (num (slot s k)) 0 ≡ b → ltb (find s (num (slot s k))) k ≡ c
        → not a || (not b && c) ≡ false
        → (sound (slot s k) ≡ true) × ((num (slot s k) ≡ 0 → ⊥) → k ≤ find s (num (slot s k)))
    by_tests true true c p q r x = (p, λ z. absurd (z (eqb-true (num (slot s k)) 0 q)))
    by_tests true false false p q r x = (p, λ z. ltb-false (find s (num (slot s k))) k r)
    by_tests true false true p q r x = let y : ◌≡◌ {A = ℕ} 1 0 = ap (λ (t : Bool). cond t 1 0) x in let v : ⊥ = omega arith in absurd v
    by_tests false b c p q r x = let y : ◌≡◌ {A = ℕ} 1 0 = ap (λ (t : Bool). cond t 1 0) x in let v : ⊥ = omega arith in absurd v

pub never_faulty : (s : List ℕ) → Passes s → (k : ℕ) → k < slots s → faulty s k ≡ false
unfolding first_fault
never_faulty s e k h = lowest_below (faulty s) (slots s) k (omega (arith, (nothing_found s e).1))

module _ (s : List ℕ) (b : Bytes s) (e : Passes s) where
  each_slot : (k : ℕ) → k < slots s → (sound (slot s k) ≡ true) × ((num (slot s k) ≡ 0 → ⊥) → k ≤ find s (num (slot s k)))
  each_slot k h = not_faulty s k (never_faulty s e k h)

  pub passes_sound : SoundStore s
  passes_sound = record { size = (nothing_found s e).0; bytes = b; each = λ k h. (each_slot k h).0 }

  -- the lowest slot with the number is the slot itself
  pub lowest_itself : (k : ℕ) → k < slots s → (num (slot s k) ≡ 0 → ⊥) → find s (num (slot s k)) ≡ k
  lowest_itself k h z =
      let a : k ≤ find s (num (slot s k)) = (each_slot k h).1 z in
      let c : k < find s (num (slot s k)) → ⊥ = λ q. find_lowest (slots s) (slot s) (num (slot s k)) k q refl in
      omega (arith, c)

  pub passes_apart : Apart s
  passes_apart j k hj hk z q =
      let y : num (slot s k) ≡ 0 → ⊥ = λ r. z (q ∙ r) in
      sym (lowest_itself j hj z) ∙ ap (find s) q ∙ lowest_itself k hk y

-- ---- to the check

-- a store of the right size without a faulty slot
pub none_faulty : (s : List ℕ) → bad_size s ≡ false → ((k : ℕ) → k < slots s → faulty s k ≡ false) → Passes s
unfolding check_answer first_fault
none_faulty s b f =
    let p : ℕ → Bool = faulty s in
    let h : lowest p (slots s) < slots s → ⊥ = λ q. clash (p (lowest p (slots s))) (lowest_has p (slots s) q) (f (lowest p (slots s)) q) in
    ap₂ (λ (x y : Bool). cond x (Err StoreLength) (cond y (Ok (Fault (lowest p (slots s)))) (counts s))) b
    (le-ltb (lowest p (slots s)) (slots s) (omega (arith, h)))

pub good_passes : (s : List ℕ) → SoundStore s → Apart s → Passes s
unfolding faulty
good_passes s g a = none_faulty s g.size fine
  where
    by_number : (k : ℕ) (t : Bool) → k < slots s → eqb (num (slot s k)) 0 ≡ t → not t && ltb (find s (num (slot s k))) k ≡ false
    by_number k true h e = refl
    by_number k false h e =
        let n : ℕ = num (slot s k) in
        let z : n ≡ 0 → ⊥ = eqb-false n 0 e in
        let c : k < find s n → ⊥ = λ q. find_lowest (slots s) (slot s) n k q refl in
        let f : find s n < slots s = omega (arith, c) in
        let d : num (slot s (find s n)) ≡ n = find_has (slots s) (slot s) n f in
        let i : find s n ≡ k = a (find s n) k f h (λ q. z (sym d ∙ q)) d in
        le-ltb (find s n) k (omega arith)

    fine : (k : ℕ) → k < slots s → not (sound (slot s k)) || (not (eqb (num (slot s k)) 0) && ltb (find s (num (slot s k))) k) ≡ false
    fine k h =
        ap (λ (t : Bool). not t || (not (eqb (num (slot s k)) 0) && ltb (find s (num (slot s k))) k)) (g.each k h)
        ∙ by_number k (eqb (num (slot s k)) 0) h refl

-- ---- kept by a slot written anew, where no other slot has its number

pub apart_put : (s : List ℕ) (k : ℕ) (h : k < slots s) (x : List ℕ) (l : length x ≡ record_size) → Apart s
    → ((j : ℕ) → j < slots s → (j ≡ k → ⊥) → (num x ≡ 0 → ⊥) → num (slot s j) ≡ num x → ⊥) → Apart (put s k x)
apart_put s k h x l a f i j hi hj z q = by_slots (eqb i k) (eqb j k) refl refl
  where
    s' : List ℕ
    s' = put s k x

    ki : i < slots s
    ki = omega (arith, slots_put s k h x l)

    kj : j < slots s
    kj = omega (arith, slots_put s k h x l)

    here : (m : ℕ) → m ≡ k → num (slot s' m) ≡ num x
    here m e = ap (λ (c : ℕ). num (slot s' c)) e ∙ ap num (slot_put s k h x l)

    away : (m : ℕ) → (m ≡ k → ⊥) → num (slot s' m) ≡ num (slot s m)
    away m e = ap num (slot_other s k h x l m e)

    by_slots : (t u : Bool) → eqb i k ≡ t → eqb j k ≡ u → i ≡ j
    by_slots true true c d = eqb-true i k c ∙ sym (eqb-true j k d)
    by_slots true false c d =
        let ei : i ≡ k = eqb-true i k c in
        let nj : j ≡ k → ⊥ = eqb-false j k d in
        absurd (f j kj nj (λ y. z (here i ei ∙ y)) (sym (away j nj) ∙ sym q ∙ here i ei))
    by_slots false true c d =
        let ni : i ≡ k → ⊥ = eqb-false i k c in
        let ej : j ≡ k = eqb-true j k d in
        absurd (f i ki ni (λ y. z (q ∙ here j ej ∙ y)) (sym (away i ni) ∙ q ∙ here j ej))
    by_slots false false c d =
        let ni : i ≡ k → ⊥ = eqb-false i k c in
        let nj : j ≡ k → ⊥ = eqb-false j k d in
        a i j ki kj (λ y. z (away i ni ∙ y)) (sym (away i ni) ∙ q ∙ away j nj)
