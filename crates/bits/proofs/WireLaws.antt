-- Each bit of a wire is the sum of the bits that `sources` lists. What `flipped` and `merged` leave is then one computed test each.
-- Assumes nothing.
use mathlib.Core.Path.{◌≡◌, refl, sym, ap, ap₂, ◌∙◌}
use mathlib.Core.Bool.{Bool, true, false, cond, ◌&&◌}
use mathlib.Core.List.{List, [], ◌∷◌, map}
use Prim.Native.Nat.{ℕ, zero, suc, ◌+◌, ◌*◌, ◌/◌, ◌%◌, ◌^◌, ◌<◌}
use native.Mathlib.Nat.{mod-one, not-suc-le-zero, le_of_suc-le-suc}
use native.Mathlib.Omega.{arith}
use lib.Bits.{bit_xor, bit_and, and_zero_r, xor_self, xor_comm, xor_zero_r, shifted_half, shifted_even}
use borrow.Author.Tests.{eqb-true}
use lib.Dec.{T, eqb, eqb→eq}
use lib.ListN.{length, get_or}
use Rattle.block.proofs.XorLaws.{xor_assoc}
use Rattle.block.proofs.Table.{each}
use Rattle.bits.specs.Planes.{bit, Flipped}
use Rattle.bits.specs.Wires.{Wire, input, xor, mask, right, left, value, wired, flip_ones, flip_twos, flip_fours, merge}
use Rattle.bits.proofs.BitLaws.{bit_zero, bit_lt, bit_xor_lem, bit_and_lem, bit_right, mod_half, mod_last}

-- ---- sums of bits

-- bit n of word i
data Source : Type 0 where
  source : ℕ → ℕ → Source

-- one more in a sum: two of it are none
abbrev toggle : Source → List Source → List Source
toggle s [] = s ∷ []
toggle (source i n) (source j m ∷ l) = cond (eqb i j && eqb n m) l (source j m ∷ toggle (source i n) l)

abbrev joined : List Source → List Source → List Source
joined [] l = l
joined (s ∷ k) l = toggle s (joined k l)

-- l where the digit is not 0
abbrev kept : ℕ → List Source → List Source
kept zero l = []
kept (suc d) l = l

-- l where n is below m
abbrev below : ℕ → ℕ → List Source → List Source
below zero n l = []
below (suc m) zero l = l
below (suc m) (suc n) l = below m n l

-- what f has at n - s, where that is a place
abbrev from : ℕ → ℕ → (ℕ → List Source) → List Source
from zero n f = f n
from (suc s) zero f = []
from (suc s) (suc n) f = from s n f

-- which bits bit n of the wire is the sum of
abbrev sources : Wire → ℕ → List Source
sources (input i) n = source i n ∷ []
sources (xor a b) n = joined (sources a n) (sources b n)
sources (mask a m) n = kept (bit m n) (sources a n)
sources (right a s) n = sources a (s + n)
sources (left a s) n = below 32 n (from s n (λ k. sources a k))

-- ---- the sum that they are

module _ (ws : List ℕ) where
  abbrev named : Source → ℕ
  named (source i n) = bit (get_or ws i 0) n

  abbrev total : List Source → ℕ
  total [] = 0
  total (s ∷ l) = bit_xor (named s) (total l)

  -- x, y and what is left, the first two exchanged
  exchanged : (x y z : ℕ) → bit_xor x (bit_xor y z) ≡ bit_xor y (bit_xor x z)
  exchanged x y z = sym (xor_assoc x y z) ∙ ap (λ (s : ℕ). bit_xor s z) (xor_comm x y) ∙ xor_assoc y x z

  twice : (x z : ℕ) → bit_xor x (bit_xor x z) ≡ z
  twice x z = sym (xor_assoc x x z) ∙ ap (λ (s : ℕ). bit_xor s z) (xor_self x)

  module _ (i n j m : ℕ) (l r : List Source) where
    -- a first source that is another, before a rest r that has the one more
    other : total r ≡ bit_xor (named (source i n)) (total l)
        → total (source j m ∷ r) ≡ bit_xor (named (source i n)) (bit_xor (named (source j m)) (total l))
    other e = ap (λ (x : ℕ). bit_xor (named (source j m)) x) e ∙ exchanged (named (source j m)) (named (source i n)) (total l)

    either : (b c : Bool) → eqb i j ≡ b → eqb n m ≡ c → total r ≡ bit_xor (named (source i n)) (total l)
        → total (cond (eqb i j && eqb n m) l (source j m ∷ r)) ≡ bit_xor (named (source i n)) (bit_xor (named (source j m)) (total l))
    either true true e e' h =
        ap₂ (λ (b c : Bool). total (cond (b && c) l (source j m ∷ r))) e e'
        ∙ sym
        (ap₂ (λ (x y : ℕ). bit_xor (named (source x y)) (bit_xor (named (source j m)) (total l))) (eqb-true i j e) (eqb-true n m e')
        ∙ twice (named (source j m)) (total l))
    either true false e e' h = ap₂ (λ (b c : Bool). total (cond (b && c) l (source j m ∷ r))) e e' ∙ other h
    either false c e e' h = ap (λ (b : Bool). total (cond (b && eqb n m) l (source j m ∷ r))) e ∙ other h

  total_toggle : (s : Source) (l : List Source) → total (toggle s l) ≡ bit_xor (named s) (total l)
  total_toggle s [] = refl
  total_toggle (source i n) (source j m ∷ l) =
      either i n j m l (toggle (source i n) l) (eqb i j) (eqb n m) refl refl (total_toggle (source i n) l)

  total_joined : (k l : List Source) → total (joined k l) ≡ bit_xor (total k) (total l)
  total_joined [] l = refl
  total_joined (s ∷ k) l =
      total_toggle s (joined k l)
      ∙ ap (λ (x : ℕ). bit_xor (named s) x) (total_joined k l)
      ∙ sym (xor_assoc (named s) (total k) (total l))

  total_kept : (d b : ℕ) (l : List Source) → d < 2 → b < 2 → total l ≡ b → total (kept d l) ≡ bit_and b d
  total_kept zero b l h k e = sym (and_zero_r b)
  total_kept (suc zero) b l h k e = e ∙ sym (one b k)
    where
      one : (b : ℕ) → b < 2 → bit_and b 1 ≡ b
      one zero k = refl
      one (suc zero) k = refl
      one (suc (suc b)) k = omega arith
  total_kept (suc (suc d)) b l h k e = omega arith

  total_below : (m n x : ℕ) (l : List Source) → total l ≡ bit x n → total (below m n l) ≡ bit (x % 2 ^ m) n
  unfolding bit
  total_below zero n x l e = sym (ap (λ (y : ℕ). bit y n) (mod-one x) ∙ bit_zero n)
  total_below (suc m) zero x l e = e ∙ sym (mod_last x m)
  total_below (suc m) (suc n) x l e = total_below m n (x / 2) l e ∙ ap (λ (y : ℕ). bit y n) (sym (mod_half x m))

  total_from : (s n a : ℕ) (f : ℕ → List Source) → ((k : ℕ) → total (f k) ≡ bit a k) → total (from s n f) ≡ bit (a * 2 ^ s) n
  unfolding bit
  total_from zero n a f e = let o : a * 1 ≡ a = omega arith in e n ∙ sym (ap (λ (y : ℕ). bit y n) o)
  total_from (suc s) zero a f e = sym (shifted_even a s)
  total_from (suc s) (suc n) a f e = total_from s n a f e ∙ ap (λ (y : ℕ). bit y n) (sym (shifted_half a s))

  sound : (w : Wire) (n : ℕ) → total (sources w n) ≡ bit (value ws w) n
  sound (input i) n = xor_zero_r (bit (get_or ws i 0) n)
  sound (xor a b) n =
      total_joined (sources a n) (sources b n)
      ∙ ap₂ (λ (x y : ℕ). bit_xor x y) (sound a n) (sound b n)
      ∙ sym (bit_xor_lem (value ws a) (value ws b) n)
  sound (mask a m) n =
      total_kept (bit m n) (bit (value ws a) n) (sources a n) (bit_lt m n) (bit_lt (value ws a) n) (sound a n)
      ∙ sym (bit_and_lem (value ws a) m n)
  sound (right a s) n = sound a (s + n) ∙ sym (bit_right (value ws a) s n)
  sound (left a s) n =
      total_below 32 n (value ws a * 2 ^ s) (from s n (λ k. sources a k)) (total_from s n (value ws a) (λ k. sources a k) (λ k. sound a k))

  -- a bit that has one source is that
  one_source : (w : Wire) (n i m : ℕ) → sources w n ≡ source i m ∷ [] → bit (value ws w) n ≡ bit (get_or ws i 0) m
  one_source w n i m e = sym (sound w n) ∙ ap total e ∙ xor_zero_r (bit (get_or ws i 0) m)

-- ---- the two tests

abbrev is : List Source → ℕ → ℕ → Bool
is [] i m = false
is (source j n ∷ []) i m = eqb j i && eqb n m
is (s ∷ t ∷ l) i m = false

and_left : (a b : Bool) → T (a && b) → T a
and_left true b t = tt
and_left false b t = t

and_right : (a b : Bool) → T (a && b) → T b
and_right true b t = t
and_right false b t = absurd t

is_one : (l : List Source) (i m : ℕ) → T (is l i m) → l ≡ source i m ∷ []
is_one [] i m t = absurd t
is_one (source j n ∷ []) i m t =
    ap₂ (λ (x y : ℕ). source x y ∷ []) (eqb→eq j i (and_left (eqb j i) (eqb n m) t)) (eqb→eq n m (and_right (eqb j i) (eqb n m) t))
is_one (s ∷ t ∷ l) i m x = absurd x

get_or-value : (ws : List ℕ) (l : List Wire) (i : ℕ) → i < length l → get_or (wired l ws) i 0 ≡ value ws (get_or l i (input 0))
get_or-value ws [] i h = absurd (not-suc-le-zero h)
get_or-value ws (w ∷ l) zero h = refl
get_or-value ws (w ∷ l) (suc i) h = get_or-value ws l i (le_of_suc-le-suc h)

-- eight words through the three layers
abbrev plugged : List Wire → Wire → Wire
plugged l (input i) = get_or l i (input i)
plugged l (xor a b) = xor (plugged l a) (plugged l b)
plugged l (mask a m) = mask (plugged l a) m
plugged l (right a s) = right (plugged l a) s
plugged l (left a s) = left (plugged l a) s

abbrev flips : List Wire
flips = map (plugged (map (plugged flip_ones) flip_twos)) flip_fours

-- word i of them, at bit n
flip_source : (x : ℕ) → x < 256 → T (is (sources (get_or flips (x / 32) (input 0)) (x % 32)) (x % 8) (x % 32 / 8 * 8 + x / 32))
unfolding bit
flip_source = each (λ x. is (sources (get_or flips (x / 32) (input 0)) (x % 32)) (x % 8) (x % 32 / 8 * 8 + x / 32)) 256 tt

merge_source : (x : ℕ) → x < 32 → T (is (sources merge x) (x % 8) (x / 8 * 8))
unfolding bit
merge_source = each (λ x. is (sources merge x) (x % 8) (x / 8 * 8)) 32 tt

pub merged_bit : (ws : List ℕ) (i c : ℕ) → i < 8 → c < 4 → bit (value ws merge) (8 * c + i) ≡ bit (get_or ws i 0) (8 * c)
merged_bit ws i c h k =
    let e : (8 * c + i) % 8 ≡ i = omega arith in
    let d : (8 * c + i) / 8 * 8 ≡ 8 * c = omega arith in
    one_source ws merge (8 * c + i) ((8 * c + i) % 8) ((8 * c + i) / 8 * 8)
    (is_one (sources merge (8 * c + i)) ((8 * c + i) % 8) ((8 * c + i) / 8 * 8) (merge_source (8 * c + i) (omega arith)))
    ∙ ap₂ (λ (x y : ℕ). bit (get_or ws x 0) y) e d

pub flipped_bits : (ws : List ℕ) → Flipped ws (wired flip_fours (wired flip_twos (wired flip_ones ws)))
flipped_bits ws = record { at = go }
  where
    through : wired flip_fours (wired flip_twos (wired flip_ones ws)) ≡ wired flips ws
    through = refl

    go : (i j c : ℕ) → i < 8 → j < 8 → c < 4
        → bit (get_or (wired flip_fours (wired flip_twos (wired flip_ones ws))) i 0) (8 * c + j) ≡ bit (get_or ws j 0) (8 * c + i)
    go i j c hi hj hc =
        let x : ℕ = 32 * i + (8 * c + j) in
        let xi : x / 32 ≡ i = omega arith in
        let xn : x % 32 ≡ 8 * c + j = omega arith in
        let xj : x % 8 ≡ j = omega arith in
        let xm : x % 32 / 8 * 8 + x / 32 ≡ 8 * c + i = omega arith in
        ap (λ (l : List ℕ). bit (get_or l i 0) (8 * c + j)) through
        ∙ ap (λ (v : ℕ). bit v (8 * c + j)) (get_or-value ws flips i hi)
        ∙ sym (ap₂ (λ (k n : ℕ). bit (value ws (get_or flips k (input 0))) n) xi xn)
        ∙ one_source ws (get_or flips (x / 32) (input 0)) (x % 32) (x % 8) (x % 32 / 8 * 8 + x / 32)
        (is_one (sources (get_or flips (x / 32) (input 0)) (x % 32)) (x % 8) (x % 32 / 8 * 8 + x / 32) (flip_source x (omega arith)))
        ∙ ap₂ (λ (k n : ℕ). bit (get_or ws k 0) n) xj xm
