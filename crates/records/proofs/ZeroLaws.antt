-- Zeros taken eight at a time: a number of eight bytes is 0 where each of them is.
-- Assumes nothing.
use mathlib.Core.Path.{◌≡◌, refl, sym, ap, ◌∙◌}
use mathlib.Core.Bool.{Bool, true, false, ◌&&◌}
use mathlib.Core.List.{List, [], ◌∷◌}
use Prim.Native.Nat.{ℕ, zero, suc, ◌+◌, ◌-◌, ◌*◌, ◌≤◌}
use native.Mathlib.Omega.{arith}
use borrow.Author.Tests.{eqb-true, eq-eqb}
use lib.Dec.{eqb}
use Rattle.std.proofs.Common.{length, take, drop, length-drop, drop-drop, length-take-le}
use Rattle.std.specs.Int.{w64, from_le_bytes}
use Rattle.std.specs.List.{list_all}
use Rattle.std.specs.Simd.{first_chunks}
use Rattle.block.proofs.BoolLaws.{both}
use Rattle.records.specs.Record.{all_zero}

-- whether a number of eight bytes is 0
abbrev pub none_set : List ℕ → Bool
none_set e = eqb (from_le_bytes w64 e) 0

-- two tests that each follow from the other
one_test : (a b : Bool) → (a ≡ true → b ≡ true) → (b ≡ true → a ≡ true) → a ≡ b
one_test true true f g = refl
one_test false false f g = refl
one_test true false f g = sym (f refl)
one_test false true f g = g refl

joined : (a b : Bool) → a ≡ true → b ≡ true → a && b ≡ true
joined true true p q = refl
joined true false p q = q
joined false b p q = p

pub eight : (e : List ℕ) → length e ≡ 8 → none_set e ≡ all_zero e
unfolding all_zero
eight [] h = absurd (omega arith)
eight (a ∷ []) h = absurd (omega arith)
eight (a ∷ b ∷ []) h = absurd (omega arith)
eight (a ∷ b ∷ c ∷ []) h = absurd (omega arith)
eight (a ∷ b ∷ c ∷ d ∷ []) h = absurd (omega arith)
eight (a ∷ b ∷ c ∷ d ∷ x ∷ []) h = absurd (omega arith)
eight (a ∷ b ∷ c ∷ d ∷ x ∷ y ∷ []) h = absurd (omega arith)
eight (a ∷ b ∷ c ∷ d ∷ x ∷ y ∷ z ∷ []) h = absurd (omega arith)
eight (a ∷ b ∷ c ∷ d ∷ x ∷ y ∷ z ∷ w ∷ v ∷ s) h = absurd (omega arith)
eight (a ∷ b ∷ c ∷ d ∷ x ∷ y ∷ z ∷ w ∷ []) h =
    let es : List ℕ = a ∷ b ∷ c ∷ d ∷ x ∷ y ∷ z ∷ w ∷ [] in
    let t : ℕ → Bool = λ n. eqb n 0 in
    one_test (none_set es) (all_zero es)
    (λ p.
    let s : from_le_bytes w64 es ≡ 0 = eqb-true (from_le_bytes w64 es) 0 p in
    let at : (n : ℕ) → n ≡ 0 → t n ≡ true = λ n e. eq-eqb n 0 e in
    joined (t a) _ (at a (omega (arith, s)))
    (joined (t b) _ (at b (omega (arith, s)))
    (joined (t c) _ (at c (omega (arith, s)))
    (joined (t d) _ (at d (omega (arith, s)))
    (joined (t x) _ (at x (omega (arith, s)))
    (joined (t y) _ (at y (omega (arith, s)))
    (joined (t z) _ (at z (omega (arith, s))) (joined (t w) true (at w (omega (arith, s))) refl))))))))
    (λ p.
    let is : (n : ℕ) → t n ≡ true → n ≡ 0 = λ n e. eqb-true n 0 e in
    let pa = both (t a) _ p in
    let pb = both (t b) _ pa.1 in
    let pc = both (t c) _ pb.1 in
    let pd = both (t d) _ pc.1 in
    let px = both (t x) _ pd.1 in
    let py = both (t y) _ px.1 in
    let pz = both (t z) _ py.1 in
    let pw = both (t w) true pz.1 in
    eq-eqb (from_le_bytes w64 es) 0 (omega (arith, is a pa.0, is b pb.0, is c pc.0, is d pd.0, is x px.0, is y py.0, is z pz.0, is w pw.0)))

and_assoc : (a b c : Bool) → a && (b && c) ≡ a && b && c
and_assoc true b c = refl
and_assoc false b c = refl

parted : (n : ℕ) (s : List ℕ) → all_zero (take n s) && all_zero (drop n s) ≡ all_zero s
unfolding all_zero
parted zero s = refl
parted (suc n) [] = refl
parted (suc n) (x ∷ s) = sym (and_assoc (eqb x 0) (all_zero (take n s)) (all_zero (drop n s))) ∙ ap (λ (t : Bool). eqb x 0 && t) (parted n s)

-- zeros in the first n eights and in what is left
pub eights : (n : ℕ) (s : List ℕ) → n * 8 ≤ length s → list_all none_set (first_chunks 8 n s) && all_zero (drop (n * 8) s) ≡ all_zero s
eights zero s h = refl
eights (suc n) s h =
    let d : List ℕ = drop 8 s in
    let l : length d ≡ length s - 8 = length-drop 8 s in
    let r : Bool = all_zero (drop (n * 8) d) in
    let m : Bool = list_all none_set (first_chunks 8 n d) in
    let k : 8 + n * 8 ≡ suc n * 8 = omega arith in
    let past : all_zero (drop (suc n * 8) s) ≡ r = ap all_zero (ap (λ (j : ℕ). drop j s) (sym k) ∙ sym (drop-drop (n * 8) 8 s)) in
    let whole : length (take 8 s) ≡ 8 = length-take-le 8 s (omega arith) in
    ap (λ (t : Bool). none_set (take 8 s) && m && t) past
    ∙ sym (and_assoc (none_set (take 8 s)) m r)
    ∙ ap (λ (t : Bool). none_set (take 8 s) && t) (eights n d (omega arith))
    ∙ ap (λ (t : Bool). t && all_zero d) (eight (take 8 s) whole)
    ∙ parted 8 s

-- and one by one
pub each : (s : List ℕ) → list_all (λ x. eqb x 0) s ≡ all_zero s
unfolding all_zero
each [] = refl
each (x ∷ s) = ap (λ (t : Bool). eqb x 0 && t) (each s)
