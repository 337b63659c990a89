-- Laws of the listing: a line from the fields that the code reads, the lines in a loop, and each way out of `list`.
-- Assumes nothing.
use mathlib.Core.Path.{◌≡◌, refl, sym, ap, ◌∙◌}
use mathlib.Core.Bool.{Bool, true, false, cond}
use mathlib.Core.List.{List, [], ◌++◌}
use Prim.Native.Nat.{ℕ, ◌+◌, ◌≤◌, ◌<◌}
use native.Mathlib.Numerals.{add-one}
use borrow.Author.Tests.{lt-ltb, le-ltb}
use lib.Dec.{ltb}
use lib.ListN.{length}
use Rattle.numbers.specs.declared.Refusal.{Refusal}
use Rattle.numbers.specs.declared.Refusal.TheVariants.{StoreLength}
use Rattle.numbers.specs.Numbers.{paper}
use Rattle.std.proofs.Common.{Result, Ok, Err}
use Rattle.records.specs.Record.{num, rev, mark, len}
use Rattle.slots.specs.Slots.{slots, slot, bad_size}
use Rattle.checking.specs.declared.Checked.{Checked}
use Rattle.checking.specs.declared.Checked.TheVariants.{Fault}
use Rattle.checking.specs.Check.{first_fault, counts, check_answer}
use Rattle.checking.proofs.CheckLaws.{used_not, used_so}
use Rattle.lines.specs.Laid.{Laid}
use Rattle.lines.specs.Listing.{most, space, newline, too_long, field, line, record_line, slot_line, lines, report, listing, Listed}
use Rattle.lines.proofs.LaidLaws.{laid_as, laid_front}

-- ---- lines

pub line_of : (k : ℕ) (r : List ℕ) (n v m l : ℕ) → n ≡ num r → v ≡ rev r → m ≡ mark r → l ≡ len r
    → field k space ++ (field n space ++ (field v space ++ (field m space ++ field l newline))) ≡ line k r
unfolding line
line_of k r n v m l a b c d =
    λ i. field k space ++ (field (a i) space ++ (field (b i) space ++ (field (c i) space ++ field (d i) newline)))

module _ (k : ℕ) (r : List ℕ) where
  pub record_free : num r ≡ 0 → record_line k r ≡ []
  record_free h = ap (λ (t : Bool). cond t (line k r) []) (used_not r h)

  pub record_used : (num r ≡ 0 → ⊥) → record_line k r ≡ line k r
  record_used h = ap (λ (t : Bool). cond t (line k r) []) (used_so r h)

pub lines_more : (s : List ℕ) (k : ℕ) → lines s k ++ record_line k (slot s k) ≡ lines s (k + 1)
unfolding lines slot_line
lines_more s k = ap (lines s) (sym (add-one k))

pub lines_none : (s : List ℕ) → lines s 0 ≡ []
unfolding lines
lines_none s = refl

-- ---- the ways out

module _ (s : List ℕ) where
  pub listing_long : most < length s → listing s ≡ too_long
  unfolding listing
  listing_long h = ap (λ (t : Bool). cond t too_long (report s (check_answer s))) (lt-ltb most (length s) h)

  pub listing_checked : (a : Result Checked Refusal) → length s ≤ most → a ≡ check_answer s → listing s ≡ report s a
  unfolding listing
  listing_checked a h e =
      ap (λ (t : Bool). cond t too_long (report s (check_answer s))) (le-ltb most (length s) h) ∙ ap (report s) (sym e)

  -- check refuses nothing but the size
  size_alone : (a b : Bool) (x : Refusal) → Err x ≡ cond a (Err StoreLength) (cond b (Ok (Fault (first_fault s))) (counts s)) → x ≡ StoreLength
  size_alone true b x e = cc
  size_alone false true x e = cc
  size_alone false false x e = cc

  pub refused_4 : (x : Refusal) → Err x ≡ check_answer s → paper x ≡ 4
  unfolding check_answer
  refused_4 x e = ap paper (size_alone (bad_size s) (ltb (first_fault s) (slots s)) x e)

  -- what is laid from the front on is the output
  pub listed : {t b b' : List ℕ} {n : ℕ} → listing s ≡ t → Laid t 0 b n b' → Listed s b n b'
  listed {t} {b} {b'} {n} e p = laid_front (laid_as (sym e) p)

-- ---- the promise of `list` leaves nothing open

pub listed_determined : (s b : List ℕ) (n n' : ℕ) (b' b'' : List ℕ) → Listed s b n b' → Listed s b n' b'' → (n ≡ n') × (b' ≡ b'')
listed_determined s b n n' b' b'' p q = (p.0 ∙ sym q.0, p.1 ∙ sym q.1)
