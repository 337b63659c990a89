-- No two refusals share a number, nor does one share that of a call that was not refused.
-- Assumes nothing.
use Rattle.std.specs.Prelude.{◌≡◌, refl, List, [], ◌∷◌, ℕ, zero, suc, get_or, Result, Ok, Err, ⊤}
use Rattle.std.proofs.Common.{sym, ap, ◌∙◌}
use Rattle.numbers.specs.declared.Refusal.{Refusal}
use Rattle.numbers.specs.declared.Refusal.TheVariants.{KeyLength, MessageLength, DataLength, StoreLength, SheetZero, TextLength, NoSheet}
use Rattle.numbers.specs.declared.Refusal.TheVariants.{OtherRevision, LastRevision, NoFreeSlot, SheetPresent, SlotUnsound, BufferLength, LengthChanged}
use Rattle.numbers.specs.declared.Refusal.TheVariants.{XtsKeyLength, UnitLength, BlockNotAlone}
use Rattle.numbers.specs.Numbers.{answer_paper}

-- every refusal, by its number less 1
refusals : List Refusal
refusals =
    KeyLength
    ∷ MessageLength
    ∷ DataLength
    ∷ StoreLength
    ∷ SheetZero
    ∷ TextLength
    ∷ NoSheet
    ∷ OtherRevision
    ∷ LastRevision
    ∷ NoFreeSlot
    ∷ SheetPresent
    ∷ SlotUnsound
    ∷ BufferLength
    ∷ LengthChanged
    ∷ XtsKeyLength
    ∷ UnitLength
    ∷ BlockNotAlone
    ∷ []

abbrev answer_of : ℕ → Result ⊤ Refusal
answer_of zero = Ok tt
answer_of (suc n) = Err (get_or refusals n LengthChanged)

back : (a : Result ⊤ Refusal) → answer_of (answer_paper a) ≡ a
unfolding refusals
back (Ok _) = refl
back (Err KeyLength) = refl
back (Err MessageLength) = refl
back (Err DataLength) = refl
back (Err StoreLength) = refl
back (Err SheetZero) = refl
back (Err TextLength) = refl
back (Err NoSheet) = refl
back (Err OtherRevision) = refl
back (Err LastRevision) = refl
back (Err NoFreeSlot) = refl
back (Err SheetPresent) = refl
back (Err SlotUnsound) = refl
back (Err BufferLength) = refl
back (Err LengthChanged) = refl
back (Err XtsKeyLength) = refl
back (Err UnitLength) = refl
back (Err BlockNotAlone) = refl

-- two answers with one number are equal
pub paper_apart : (a b : Result ⊤ Refusal) → answer_paper a ≡ answer_paper b → a ≡ b
paper_apart a b e = sym (back a) ∙ ap answer_of e ∙ back b
