-- 01, the store: the three marks, and the byte that stands for each.
-- Assumes nothing.
use Rattle.std.specs.Prelude.{ℕ}
use Rattle.records.specs.declared.marks.Mark.{Mark}
use Rattle.records.specs.declared.marks.Mark.TheVariants.{Clear, Old, New}

abbrev pub mark_byte : Mark → ℕ
mark_byte Clear = 0
mark_byte Old = 1
mark_byte New = 2
