-- 01, Listing: the whole output of the listing program from the bytes of its input, and what the function that writes it promises.
-- Texts are lists of ASCII.
-- Assumes nothing.
use Rattle.std.specs.Prelude.{cond, ◌≡◌, List, [], ◌∷◌, ◌++◌, Result, Ok, Err, ℕ, zero, suc, ◌*◌, ltb, length}
use Rattle.numbers.specs.declared.Refusal.{Refusal}
use Rattle.numbers.specs.Numbers.{paper}
use Rattle.records.specs.Record.{record_size, num, rev, mark, len}
use Rattle.slots.specs.Slots.{slots, slot}
use Rattle.checking.specs.declared.Checked.{Checked}
use Rattle.checking.specs.declared.Checked.TheVariants.{Counts, Fault}
use Rattle.checking.specs.Check.{used, check_answer}
use Rattle.lines.specs.Decimal.{decimal}
use Rattle.lines.specs.Laid.{overlay}

-- at most 31 slots
abbrev pub most : ℕ
most = 31 * record_size

-- ---- words

abbrev pub space : ℕ
space = 32

abbrev pub newline : ℕ
newline = 10

-- "too long" and a newline
unfoldable pub too_long : List ℕ
too_long = 116 ∷ 111 ∷ 111 ∷ 32 ∷ 108 ∷ 111 ∷ 110 ∷ 103 ∷ newline ∷ []

-- "refused "
unfoldable pub refused : List ℕ
refused = 114 ∷ 101 ∷ 102 ∷ 117 ∷ 115 ∷ 101 ∷ 100 ∷ space ∷ []

-- "fault at "
unfoldable pub fault_at : List ℕ
fault_at = 102 ∷ 97 ∷ 117 ∷ 108 ∷ 116 ∷ 32 ∷ 97 ∷ 116 ∷ space ∷ []

-- "used ", "free ", "clear ", "old ", "new "
unfoldable pub used_word : List ℕ
used_word = 117 ∷ 115 ∷ 101 ∷ 100 ∷ space ∷ []

unfoldable pub free_word : List ℕ
free_word = 102 ∷ 114 ∷ 101 ∷ 101 ∷ space ∷ []

unfoldable pub clear_word : List ℕ
clear_word = 99 ∷ 108 ∷ 101 ∷ 97 ∷ 114 ∷ space ∷ []

unfoldable pub old_word : List ℕ
old_word = 111 ∷ 108 ∷ 100 ∷ space ∷ []

unfoldable pub new_word : List ℕ
new_word = 110 ∷ 101 ∷ 119 ∷ space ∷ []

-- ---- lines

-- a number and the byte after it, and the same with a word before it
unfoldable pub field : ℕ → ℕ → List ℕ
field n end = decimal n ++ (end ∷ [])

unfoldable pub named : List ℕ → ℕ → ℕ → List ℕ
named word n end = word ++ field n end

-- the line of slot k, whose record is r: slot, sheet, revision, mark, length
unfoldable pub line : ℕ → List ℕ → List ℕ
line k r = field k space ++ (field (num r) space ++ (field (rev r) space ++ (field (mark r) space ++ field (len r) newline)))

-- a free slot has none
abbrev pub record_line : ℕ → List ℕ → List ℕ
record_line k r = cond (used r) (line k r) []

unfoldable pub slot_line : List ℕ → ℕ → List ℕ
slot_line s k = record_line k (slot s k)

-- the lines of the slots below n, in their order
unfoldable pub lines : List ℕ → ℕ → List ℕ
lines s zero = []
lines s (suc n) = lines s n ++ slot_line s n

-- the five counts
unfoldable pub counts_line : ℕ → ℕ → ℕ → ℕ → ℕ → List ℕ
counts_line u f c o n =
    named used_word u space ++ (named free_word f space ++ (named clear_word c space ++ (named old_word o space ++ named new_word n newline)))

-- ---- the output

-- what is printed of a store that check answers so
abbrev pub report : List ℕ → Result Checked Refusal → List ℕ
report s (Ok (Counts c)) = lines s (slots s) ++ counts_line c.used c.free c.clear c.old c.new
report s (Ok (Fault k)) = named fault_at k newline
report s (Err x) = named refused (paper x) newline

-- and of any input
unfoldable pub listing : List ℕ → List ℕ
listing s = cond (ltb most (length s)) too_long (report s (check_answer s))

-- what `list` promises of the store s and the lent buffer b: it answers n, the length of the output, and b holds the output, as far as
-- it fits, and else what it held
abbrev pub Listed : List ℕ → List ℕ → ℕ → List ℕ → Type 0
Listed s b n b' = (n ≡ length (listing s)) × (b' ≡ overlay (listing s) b)
