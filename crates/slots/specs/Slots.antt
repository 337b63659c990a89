-- 01, the store: records one after another, one a slot, no header; slots are looked for and counted by a test on their record.
-- Assumes nothing.
use Rattle.std.specs.Prelude.{Bool, cond, not, ◌||◌, List, Option, Some, None, ℕ, zero, suc, ◌+◌, ◌/◌, ◌%◌, eqb, ltb, length, replicate}
use Rattle.block.specs.Rows.{row, put_row}
use Rattle.records.specs.Record.{record_size, num}

-- how many slots s has
abbrev pub slots : List ℕ → ℕ
slots s = length s / record_size

-- slot k, and s with record r in slot k
abbrev pub slot : List ℕ → ℕ → List ℕ
slot s k = row record_size s k

abbrev pub put : List ℕ → ℕ → List ℕ → List ℕ
put s k r = put_row record_size s k r

-- a slot whose bytes are all 0
abbrev pub emptied : List ℕ
emptied = replicate record_size 0

-- 4: not a whole number of records, or over 1,024
unfoldable pub bad_size : List ℕ → Bool
bad_size s = not (eqb (length s % record_size) 0) || ltb 1024 (slots s)

-- ---- looking and counting

-- the first of i, i + 1, .. i + n - 1 that passes the test p, or i + n
unfoldable pub scan : (ℕ → Bool) → ℕ → ℕ → ℕ
scan p i zero = i
scan p i (suc n) = cond (p i) i (scan p (suc i) n)

-- the lowest below n, or n
abbrev pub lowest : (ℕ → Bool) → ℕ → ℕ
lowest p n = scan p 0 n

-- how many below n pass the test
unfoldable pub tally : (ℕ → Bool) → ℕ → ℕ
tally p zero = 0
tally p (suc n) = tally p n + cond (p n) 1 0

-- of c places with the record r k at place k: the lowest whose record has sheet number n, or c
unfoldable pub find_by : (c : ℕ) (r : ℕ → List ℕ) (n : ℕ) → ℕ
find_by c r n = lowest (λ k. eqb (num (r k)) n) c

-- the lowest slot with sheet number n, or the count of slots
abbrev pub find : List ℕ → ℕ → ℕ
find s n = find_by (slots s) (slot s) n

-- the same, and none where no slot has it
abbrev pub found : List ℕ → ℕ → Option ℕ
found s n = let k : ℕ = find s n in cond (ltb k (slots s)) (Some k) None
