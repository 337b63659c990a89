-- Laws of looking for a slot and of counting slots.
-- Assumes nothing.
use mathlib.Core.Path.{◌≡◌, refl, sym, ap, ap₂, ◌∙◌}
use mathlib.Core.Logic.{⊎_elim}
use mathlib.Core.Bool.{Bool, true, false, cond, not}
use mathlib.Core.List.{List, []}
use Prim.Native.Nat.{ℕ, zero, suc, ◌+◌, ◌≤◌, ◌<◌}
use Rattle.std.proofs.Common.{Some, None, ltb-true, ltb-false, lt-ltb, le-ltb}
use Rattle.std.specs.List.{position_or_len, position, count_by}
use Rattle.std.proofs.lemmas.List.Sums.{position_or_len_is, sum_by-cons}
use native.Mathlib.Nat.{eq-or-lt_of_le}
use native.Mathlib.Omega.{arith}
use borrow.Author.Tests.{eqb-true, eqb-false, eq-eqb, ne_eqb}
use lib.Dec.{eqb, ltb}
use lib.ListN.{length, get_or}
use Rattle.block.specs.Tab.{tab}
use Rattle.block.proofs.BoolLaws.{clash}
use Rattle.block.proofs.TabLaws.{get_or-tab}
use Rattle.records.specs.Record.{num}
use Rattle.slots.specs.Slots.{slots, slot, scan, lowest, tally, find_by, find, found}

-- ---- the first that passes a test

of_le : (b : Bool) (x y m : ℕ) → x ≤ m → y ≤ m → cond b x y ≤ m
of_le true x y m h k = h
of_le false x y m h k = k

of_has : (p : ℕ → Bool) (b : Bool) (x y m : ℕ) → p x ≡ b → (y < m → p y ≡ true) → cond b x y < m → p (cond b x y) ≡ true
of_has p true x y m e k h = e
of_has p false x y m e k h = k h

of_below : (p : ℕ → Bool) (b : Bool) (x y j : ℕ) → p x ≡ b → x ≤ j → (x < j → j < y → p j ≡ false) → j < cond b x y → p j ≡ false
of_below p true x y j e l k h = let z : ⊥ = omega arith in absurd z
of_below p false x y j e l k h =
    ⊎_elim (λ (q : x ≡ j). ap p (sym q) ∙ e) (λ (q : x < j). k q h) (eq-or-lt_of_le l)

module _ (p : ℕ → Bool) where
  pub scan_le : (i n : ℕ) → scan p i n ≤ i + n
  unfolding scan
  scan_le i zero = omega arith
  scan_le i (suc n) = of_le (p i) i (scan p (suc i) n) (i + suc n) (omega arith) (omega (arith, scan_le (suc i) n))

  pub scan_has : (i n : ℕ) → scan p i n < i + n → p (scan p i n) ≡ true
  unfolding scan
  scan_has i zero h = let z : ⊥ = omega arith in absurd z
  scan_has i (suc n) h =
      of_has p (p i) i (scan p (suc i) n) (i + suc n) refl (λ (k : scan p (suc i) n < i + suc n). scan_has (suc i) n (omega arith)) h

  pub scan_below : (i n j : ℕ) → i ≤ j → j < scan p i n → p j ≡ false
  unfolding scan
  scan_below i zero j l h = let z : ⊥ = omega arith in absurd z
  scan_below i (suc n) j l h =
      of_below p (p i) i (scan p (suc i) n) j refl l (λ (k : i < j) (m : j < scan p (suc i) n). scan_below (suc i) n j k m) h

  pub lowest_le : (n : ℕ) → lowest p n ≤ n
  lowest_le n = omega (arith, scan_le 0 n)

  pub lowest_has : (n : ℕ) → lowest p n < n → p (lowest p n) ≡ true
  lowest_has n h = scan_has 0 n (omega arith)

  pub lowest_below : (n j : ℕ) → j < lowest p n → p j ≡ false
  lowest_below n j h = scan_below 0 n j (omega arith) h

  -- the one that passes where none below does
  pub lowest_is : (n k : ℕ) → k < n → p k ≡ true → ((j : ℕ) → j < k → p j ≡ false) → lowest p n ≡ k
  lowest_is n k h e f =
      let m : ℕ = lowest p n in
      let a : m < k → ⊥ = λ q. clash (p m) (lowest_has n (omega arith)) (f m q) in
      let b : k < m → ⊥ = λ q. clash (p k) e (lowest_below n k q) in
      omega (arith, a, b)

-- two tests that agree find the same
pub scan_same : (p q : ℕ → Bool) (i n : ℕ) → ((j : ℕ) → i ≤ j → j < i + n → p j ≡ q j) → scan p i n ≡ scan q i n
unfolding scan
scan_same p q i zero h = refl
scan_same p q i (suc n) h =
    ap₂ (λ (t : Bool) (m : ℕ). cond t i m) (h i (omega arith) (omega arith)) (scan_same p q (suc i) n (λ j a b. h j (omega arith) (omega arith)))

-- ---- counts

of_one : (b : Bool) → cond b 1 0 ≤ 1
of_one true = omega arith
of_one false = omega arith

of_both : (b : Bool) → cond b 1 0 + cond (not b) 1 0 ≡ 1
of_both true = refl
of_both false = refl

module _ (p : ℕ → Bool) where
  pub tally_le : (n : ℕ) → tally p n ≤ n
  unfolding tally
  tally_le zero = omega arith
  tally_le (suc n) = omega (arith, tally_le n, of_one (p n))

  pub tally_not : (n : ℕ) → tally p n + tally (λ k. not (p k)) n ≡ n
  unfolding tally
  tally_not zero = refl
  tally_not (suc n) = omega (arith, tally_not n, of_both (p n))

-- ---- places by their sheet number

-- whether place k has sheet number n
abbrev pub has_num : (ℕ → List ℕ) → ℕ → ℕ → Bool
has_num r n k = eqb (num (r k)) n

module _ (c : ℕ) (r : ℕ → List ℕ) (n : ℕ) where
  pub find_by_lem : find_by c r n ≡ lowest (has_num r n) c
  unfolding find_by
  find_by_lem = refl

  pub find_le : find_by c r n ≤ c
  unfolding find_by
  find_le = lowest_le (has_num r n) c

  pub find_has : find_by c r n < c → num (r (find_by c r n)) ≡ n
  unfolding find_by
  find_has h = eqb-true (num (r (find_by c r n))) n (lowest_has (has_num r n) c h)

  pub find_lowest : (j : ℕ) → j < find_by c r n → num (r j) ≡ n → ⊥
  unfolding find_by
  find_lowest j h = eqb-false (num (r j)) n (lowest_below (has_num r n) c j h)

  -- the place found, if it has the number and none below does
  pub find_is : (k : ℕ) → k < c → num (r k) ≡ n → ((j : ℕ) → j < k → num (r j) ≡ n → ⊥) → find_by c r n ≡ k
  unfolding find_by
  find_is k h e f = lowest_is (has_num r n) c k h (eq-eqb (num (r k)) n e) (λ j l. ne_eqb (num (r j)) n (f j l))

-- two rows of places with the same numbers
pub find_same : (c d : ℕ) (r q : ℕ → List ℕ) (n : ℕ) → c ≡ d → ((j : ℕ) → j < d → eqb (num (r j)) n ≡ eqb (num (q j)) n)
    → find_by c r n ≡ find_by d q n
unfolding find_by
find_same c d r q n e h = ap (lowest (has_num r n)) e ∙ scan_same (has_num r n) (has_num q n) 0 d (λ j a b. h j (omega arith))

-- ---- a slot found, or none

pub length-tab : (n : ℕ) (f : ℕ → List ℕ) → length (tab n f) ≡ n
length-tab zero f = refl
length-tab (suc n) f = ap (λ (k : ℕ). suc k) (length-tab n (λ i. f (suc i)))

-- the place of the first record that passes the test p
pub position_tab : (p : List ℕ → Bool) (c : ℕ) (r : ℕ → List ℕ)
    → position p (tab c r) ≡ (let k : ℕ = lowest (λ j. p (r j)) c in cond (ltb k c) (Some k) None)
position_tab p c r =
    let t : ℕ → Bool = λ j. p (r j) in
    let l : length (tab c r) ≡ c = length-tab c r in
    let at : (j : ℕ) → j < c → p (get_or (tab c r) j []) ≡ t j = λ j h. ap p (get_or-tab c r j [] h) in
    let below : (j : ℕ) → j < lowest t c → p (get_or (tab c r) j []) ≡ false =
    λ j h. at j (omega (arith, lowest_le t c)) ∙ lowest_below t c j h in
    let here : lowest t c < length (tab c r) → p (get_or (tab c r) (lowest t c) []) ≡ true =
    λ h. at (lowest t c) (omega arith) ∙ lowest_has t c (omega arith) in
    let m : position_or_len p (tab c r) ≡ lowest t c = position_or_len_is p (tab c r) (lowest t c) [] (omega (arith, lowest_le t c)) below here in
    ap₂ (λ (k n : ℕ). cond (ltb k n) (Some k) None) m l

-- the place m as an answer, and none where it is not below n
module _ (m n : ℕ) where
  pub place_some : m < n → cond (ltb m n) (Some m) None ≡ Some m
  place_some h = ap (λ (t : Bool). cond t (Some m) None) (lt-ltb m n h)

  pub place_none : n ≤ m → cond (ltb m n) (Some m) None ≡ None
  place_none h = ap (λ (t : Bool). cond t (Some m) None) (le-ltb m n h)

  -- what the answer says
  pub some_place : (k : ℕ) → cond (ltb m n) (Some m) None ≡ Some k → (k ≡ m) × (k < n)
  some_place k e = by_test (ltb m n) refl
    where
      by_test : (t : Bool) → ltb m n ≡ t → (k ≡ m) × (k < n)
      by_test true q =
          let l : m < n = ltb-true m n q in
          let f : Some m ≡ Some k = sym (place_some l) ∙ e in
          let g : m ≡ k = cc in
          (sym g, omega arith)
      by_test false q =
          let l : n ≤ m = ltb-false m n q in
          let f : None ≡ Some k = sym (place_none l) ∙ e in
          cc

  pub none_place : cond (ltb m n) (Some m) None ≡ None → n ≤ m
  none_place e = by_test (ltb m n) refl
    where
      by_test : (t : Bool) → ltb m n ≡ t → n ≤ m
      by_test true q =
          let l : m < n = ltb-true m n q in
          let f : Some m ≡ None = sym (place_some l) ∙ e in
          cc
      by_test false q = ltb-false m n q

module _ (s : List ℕ) (n : ℕ) where
  -- what a search that found slot k, and one that found none, say
  pub found_some : (k : ℕ) → found s n ≡ Some k → (k ≡ find s n) × (k < slots s)
  found_some k e = some_place (find s n) (slots s) k e

  pub found_none : found s n ≡ None → find s n ≡ slots s
  found_none e = omega (arith, none_place (find s n) (slots s) e, find_le (slots s) (slot s) n)

-- the records that pass the test p, counted
pub count_tab : (p : List ℕ → Bool) (c : ℕ) (r : ℕ → List ℕ) → count_by p (tab c r) ≡ tally (λ k. p (r k)) c
unfolding tally
count_tab p zero r = refl
count_tab p (suc c) r =
    sum_by-cons (λ (x : List ℕ). cond (p x) 1 0) (r 0) (tab c (λ k. r (suc k)))
    ∙ ap (λ (n : ℕ). cond (p (r 0)) 1 0 + n) (count_tab p c (λ k. r (suc k)))
    ∙ tally_first (λ k. p (r k)) c
  where
    tally_first : (q : ℕ → Bool) (n : ℕ) → cond (q 0) 1 0 + tally (λ k. q (suc k)) n ≡ tally q (suc n)
    tally_first q zero = omega arith
    tally_first q (suc n) = omega (arith, tally_first q n)
