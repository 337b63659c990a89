-- 01, numbers returned in place of a result, and those of 02: the number of each refusal. That no two refusals share one is in proofs/NumberLaws.
-- Assumes nothing.
use Rattle.std.specs.Prelude.{ℕ, ◌≤◌, Result, Ok, Err, ⊤}
use Rattle.std.proofs.Common.{arith}
use Rattle.numbers.specs.declared.Refusal.{Refusal}
use Rattle.numbers.specs.declared.Refusal.TheVariants.{KeyLength, MessageLength, DataLength, StoreLength, SheetZero, TextLength, NoSheet}
use Rattle.numbers.specs.declared.Refusal.TheVariants.{OtherRevision, LastRevision, NoFreeSlot, SheetPresent, SlotUnsound, BufferLength, LengthChanged}
use Rattle.numbers.specs.declared.Refusal.TheVariants.{XtsKeyLength, UnitLength, BlockNotAlone}

-- 01's table, and from 15 on 02's
abbrev pub paper : Refusal → ℕ
paper KeyLength = 1
paper MessageLength = 2
paper DataLength = 3
paper StoreLength = 4
paper SheetZero = 5
paper TextLength = 6
paper NoSheet = 7
paper OtherRevision = 8
paper LastRevision = 9
paper NoFreeSlot = 10
paper SheetPresent = 11
paper SlotUnsound = 12
paper BufferLength = 13
paper LengthChanged = 14
paper XtsKeyLength = 15
paper UnitLength = 16
paper BlockNotAlone = 17

-- 0 if the call was not refused
abbrev pub answer_paper : Result ⊤ Refusal → ℕ
answer_paper (Ok _) = 0
answer_paper (Err x) = paper x

-- no refusal has the number of a call that was not refused
pub some_number : (x : Refusal) → 1 ≤ paper x
some_number KeyLength = omega arith
some_number MessageLength = omega arith
some_number DataLength = omega arith
some_number StoreLength = omega arith
some_number SheetZero = omega arith
some_number TextLength = omega arith
some_number NoSheet = omega arith
some_number OtherRevision = omega arith
some_number LastRevision = omega arith
some_number NoFreeSlot = omega arith
some_number SheetPresent = omega arith
some_number SlotUnsound = omega arith
some_number BufferLength = omega arith
some_number LengthChanged = omega arith
some_number XtsKeyLength = omega arith
some_number UnitLength = omega arith
some_number BlockNotAlone = omega arith
