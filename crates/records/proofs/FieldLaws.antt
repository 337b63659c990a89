-- Laws of a record's fields, of the zeros in it, and of what soundness says of a record.
-- Assumes nothing.
use mathlib.Core.Path.{◌≡◌, refl, sym, ap, ◌∙◌}
use mathlib.Core.Bool.{Bool, true, false, cond, ◌&&◌, false≢true}
use mathlib.Core.List.{List}
use Prim.Native.Nat.{ℕ, ◌+◌, ◌-◌, ◌≤◌, ◌<◌}
use native.Mathlib.Nat.{le_of_eq}
use native.Mathlib.Omega.{arith}
use borrow.Author.Tests.{ltb-true, leb-true, eqb-true, lt-ltb, le-leb, eq-eqb, ne_eqb}
use lib.Dec.{eqb, ltb, leb}
use lib.ListN.{length, take, drop, length-drop}
use lib.Seq.{take_all}
use Rattle.block.specs.Tab.{byte}
use Rattle.block.specs.Bytes.{Bytes}
use Rattle.block.proofs.BoolLaws.{refuted}
use Rattle.records.specs.Record.{record_size, text_most, greatest_revision, num, rev, mark, len, all_zero, sound_used, sound}

-- ---- tests joined by `&&`

pub all : (a b c d e f g : Bool) → a && (b && (c && (d && (e && (f && g))))) ≡ true
    → (a ≡ true) × (b ≡ true) × (c ≡ true) × (d ≡ true) × (e ≡ true) × (f ≡ true) × (g ≡ true)
all false b c d e f g h = absurd (false≢true h)
all true false c d e f g h = absurd (false≢true h)
all true true false d e f g h = absurd (false≢true h)
all true true true false e f g h = absurd (false≢true h)
all true true true true false f g h = absurd (false≢true h)
all true true true true true false g h = absurd (false≢true h)
all true true true true true true false h = absurd (false≢true h)
all true true true true true true true h = (refl, refl, refl, refl, refl, refl, refl)

-- ---- soundness

-- what the fields of a used record are
pub record Used (r : List ℕ) : Type 0 where
  pub revised : 1 ≤ rev r
  pub marked : mark r ≤ 2
  pub spare : byte r 7 ≡ 0
  pub at_least : 16 ≤ len r
  pub at_most : len r ≤ text_most
  pub spares : all_zero (take 4 (drop 12 r)) ≡ true
  pub after : all_zero (drop (16 + len r) r) ≡ true

module _ (r : List ℕ) where
  pub used : sound_used r ≡ true → Used r
  unfolding sound_used
  used s =
      let h = all (ltb 0 (rev r)) (leb (mark r) 2) (eqb (byte r 7) 0) (leb 16 (len r)) (leb (len r) text_most)
      (all_zero (take 4 (drop 12 r))) (all_zero (drop (16 + len r) r)) s in
      record {
        revised = ltb-true 0 (rev r) h.0;
        marked = leb-true (mark r) 2 h.1;
        spare = eqb-true (byte r 7) 0 h.2;
        at_least = leb-true 16 (len r) h.3;
        at_most = leb-true (len r) text_most h.4;
        spares = h.5;
        after = h.6;
      }

  pub unsound : (Used r → ⊥) → sound_used r ≡ false
  unsound h = refuted (sound_used r) (λ (s : sound_used r ≡ true). h (used s))

  pub unsound_spares : all_zero (take 4 (drop 12 r)) ≡ false → sound_used r ≡ false
  unsound_spares e = unsound (λ (u : Used r). false≢true (sym e ∙ u.spares))

  -- where all tests but the last pass, the last decides
  pub used_last : 1 ≤ rev r → mark r ≤ 2 → byte r 7 ≡ 0 → 16 ≤ len r → len r ≤ text_most → all_zero (take 4 (drop 12 r)) ≡ true
      → sound_used r ≡ all_zero (drop (16 + len r) r)
  unfolding sound_used
  used_last a b c d e f =
      λ i. lt-ltb 0 (rev r) a i
      && (le-leb (mark r) 2 b i
      && (eq-eqb (byte r 7) 0 c i && (le-leb 16 (len r) d i && (le-leb (len r) text_most e i && (f i && all_zero (drop (16 + len r) r))))))

  -- the bytes after the text, as the code takes them
  pub rest_part : (l : ℕ) → l ≡ len r → take (length r - (16 + l)) (drop (16 + l) r) ≡ drop (16 + len r) r
  rest_part l e =
      take_all (length r - (16 + l)) (drop (16 + l) r) (le_of_eq (length-drop (16 + l) r)) ∙ ap (λ (k : ℕ). drop (16 + k) r) e

  -- and of a whole record
  pub record_rest : length r ≡ record_size → (l : ℕ) → l ≡ len r → take (record_size - (16 + l)) (drop (16 + l) r) ≡ drop (16 + len r) r
  record_rest h l e = ap (λ (n : ℕ). take (n - (16 + l)) (drop (16 + l) r)) (sym h) ∙ rest_part l e

  pub sound_free : num r ≡ 0 → sound r ≡ all_zero r
  unfolding sound
  sound_free h = ap (λ (t : Bool). cond t (all_zero r) (sound_used r)) (eq-eqb (num r) 0 h)

  pub sound_taken : (num r ≡ 0 → ⊥) → sound r ≡ sound_used r
  unfolding sound
  sound_taken h = ap (λ (t : Bool). cond t (all_zero r) (sound_used r)) (ne_eqb (num r) 0 h)

  pub sound_used_lem : sound r ≡ true → (num r ≡ 0 → ⊥) → Used r
  sound_used_lem s h = used (sym (sound_taken h) ∙ s)

  pub sound_len : sound r ≡ true → (num r ≡ 0 → ⊥) → (16 ≤ len r) × (len r ≤ text_most)
  sound_len s h = let u = sound_used_lem s h in (u.at_least, u.at_most)

  pub sound_fields : sound r ≡ true → (num r ≡ 0 → ⊥) → (1 ≤ rev r) × (mark r ≤ 2)
  sound_fields s h = let u = sound_used_lem s h in (u.revised, u.marked)

  -- bounds of the fields
  pub num_bound : Bytes r → num r < 4294967296
  unfolding num
  num_bound b = omega (arith, b.below 0, b.below 1, b.below 2, b.below 3)

  pub rev_bound : Bytes r → rev r ≤ greatest_revision
  unfolding rev
  rev_bound b = omega (arith, b.below 4, b.below 5, b.below 10, b.below 11)
