-- Laws of decimal: its two cases, that it is what the library writes, that the digits read back give the number, that no zero stands in front, and how
-- many digits there are.
-- Assumes nothing.
use mathlib.Core.Path.{◌≡◌, refl, sym, ap, ◌∙◌}
use mathlib.Core.Bool.{Bool, true, false}
use mathlib.Core.Logic.{◌⊎◌, inl, inr, ⊎_elim}
use mathlib.Core.List.{List, [], ◌∷◌, ◌++◌}
use Prim.Native.Nat.{ℕ, zero, suc, ◌+◌, ◌-◌, ◌*◌, ◌/◌, ◌%◌, ◌^◌, ◌≤◌, ◌<◌}
use native.Mathlib.Nat.{pow-succ'}
use native.Mathlib.Omega.{arith}
use borrow.Author.Tests.{ltb-true, ltb-false, lt-ltb, le-ltb}
use lib.Dec.{ltb}
use lib.ListN.{length, get_or, length-append}
use Rattle.std.specs.Fmt.{decimal as written}
use Rattle.std.proofs.lemmas.Fmt.{decimal_by_steps}
use Rattle.lines.specs.Decimal.{digit, digits, decimal, read_from}

below_ten : (n : ℕ) → (n < 10) ⊎ (10 ≤ n)
below_ten n = go (ltb n 10) refl
  where
    go : (t : Bool) → ltb n 10 ≡ t → (n < 10) ⊎ (10 ≤ n)
    go true e = inl (ltb-true n 10 e)
    go false e = inr (ltb-false n 10 e)

-- ---- the two cases

digits_small : (f n : ℕ) → n < 10 → digits f n ≡ digit n ∷ []
unfolding digits
digits_small zero n h = refl
digits_small (suc f) n h = rw (lt-ltb n 10 h)

digits_large : (f n : ℕ) → 10 ≤ n → digits (suc f) n ≡ digits f (n / 10) ++ (digit (n % 10) ∷ [])
unfolding digits
digits_large f n h = rw (le-ltb n 10 h)

-- how often a digit may be cut off does not matter, if it is often enough
enough : (f g n : ℕ) → n ≤ f → n ≤ g → digits f n ≡ digits g n
enough zero g n h k = digits_small zero n (omega arith) ∙ sym (digits_small g n (omega arith))
enough (suc f) zero n h k = digits_small (suc f) n (omega arith) ∙ sym (digits_small zero n (omega arith))
enough (suc f) (suc g) n h k =
    ⊎_elim
    (λ (l : n < 10). digits_small (suc f) n l ∙ sym (digits_small (suc g) n l))
    (λ (l : 10 ≤ n). digits_large f n l
    ∙ ap (λ (x : List ℕ). x ++ (digit (n % 10) ∷ [])) (enough f g (n / 10) (omega arith) (omega arith))
    ∙ sym (digits_large g n l))
    (below_ten n)

pub decimal_small : (n : ℕ) → n < 10 → decimal n ≡ digit n ∷ []
unfolding decimal
decimal_small n h = digits_small n n h

pub decimal_large : (n : ℕ) → 10 ≤ n → decimal n ≡ decimal (n / 10) ++ (digit (n % 10) ∷ [])
unfolding decimal
decimal_large zero h = absurd (omega arith)
decimal_large (suc f) h =
    digits_large f (suc f) h
    ∙ ap (λ (x : List ℕ). x ++ (digit (suc f % 10) ∷ [])) (enough f (suc f / 10) (suc f / 10) (omega arith) (omega arith))

-- what the library writes of a number that fits into 64 bits
pub decimal_written : (n : ℕ) → n < 2 ^ 64 → decimal n ≡ written n
decimal_written n h =
    decimal_by_steps (λ m ds. decimal m ≡ ds) decimal_small
    (λ m ds l e. decimal_large m l ∙ ap (λ (x : List ℕ). x ++ (digit (m % 10) ∷ [])) e) n h

-- ---- read back

read_append : (v : ℕ) (a b : List ℕ) → read_from v (a ++ b) ≡ read_from (read_from v a) b
unfolding read_from
read_append v [] b = refl
read_append v (d ∷ a) b = read_append (10 * v + (d - 48)) a b

digits_read : (f n : ℕ) → n ≤ f → read_from 0 (digits f n) ≡ n
unfolding read_from
digits_read zero n h = ap (read_from 0) (digits_small zero n (omega arith)) ∙ omega arith
digits_read (suc f) n h =
    ⊎_elim
    (λ (l : n < 10). ap (read_from 0) (digits_small (suc f) n l) ∙ omega arith)
    (λ (l : 10 ≤ n). ap (read_from 0) (digits_large f n l)
    ∙ read_append 0 (digits f (n / 10)) (digit (n % 10) ∷ [])
    ∙ ap (λ (v : ℕ). 10 * v + (digit (n % 10) - 48)) (digits_read f (n / 10) (omega arith))
    ∙ omega arith)
    (below_ten n)

-- the digits of a number stand for it
pub decimal_read : (n : ℕ) → read_from 0 (decimal n) ≡ n
unfolding decimal
decimal_read n = digits_read n n (omega arith)

-- ---- no zero in front

first_append : (x y : List ℕ) → 48 < get_or x 0 0 → 48 < get_or (x ++ y) 0 0
first_append [] y h = absurd (omega arith)
first_append (a ∷ x) y h = h

digits_first : (f n : ℕ) → n ≤ f → 0 < n → 48 < get_or (digits f n) 0 0
digits_first zero n h k = absurd (omega arith)
digits_first (suc f) n h k =
    ⊎_elim
    (λ (l : n < 10). let e : get_or (digits (suc f) n) 0 0 ≡ 48 + n = ap (λ (x : List ℕ). get_or x 0 0) (digits_small (suc f) n l) in omega arith)
    (λ (l : 10 ≤ n). rw (digits_large f n l) (first_append (digits f (n / 10)) (digit (n % 10) ∷ []) (digits_first f (n / 10) (omega arith) (omega arith))))
    (below_ten n)

-- 48 is the digit zero
pub decimal_first : (n : ℕ) → 0 < n → 48 < get_or (decimal n) 0 0
unfolding decimal
decimal_first n h = digits_first n n (omega arith) h

-- ---- how many digits

pub length_large : (n : ℕ) → 10 ≤ n → length (decimal n) ≡ length (decimal (n / 10)) + 1
length_large n h = ap length (decimal_large n h) ∙ length-append (decimal (n / 10)) (digit (n % 10) ∷ [])

length-decimal : (d n : ℕ) → n < 10 ^ suc d → length (decimal n) ≤ suc d
length-decimal zero n h = let e : length (decimal n) ≡ 1 = ap length (decimal_small n h) in omega arith
length-decimal (suc d) n h =
    let p : 10 ^ suc (suc d) ≡ 10 * 10 ^ suc d = pow-succ' 10 (suc d) in
    ⊎_elim
    (λ (l : n < 10). let e : length (decimal n) ≡ 1 = ap length (decimal_small n l) in omega arith)
    (λ (l : 10 ≤ n). omega (arith, length_large n l, length-decimal d (n / 10) (omega arith)))
    (below_ten n)

-- of a number that fits into 64 bits
pub length-word : (n : ℕ) → n < 2 ^ 64 → length (decimal n) ≤ 20
length-word n h = length-decimal 19 n (omega arith)
