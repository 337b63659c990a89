-- 01's example of a listing, and what else 01 prints, over the definition alone.
-- Assumes nothing.
use Rattle.std.specs.Prelude.{◌≡◌, refl, List, [], ◌∷◌, ◌++◌, ℕ, replicate}
use Rattle.block.specs.Rows.{row}
use Rattle.records.specs.Record.{num, rev, mark, len, all_zero, sound_used, sound}
use Rattle.slots.specs.Slots.{scan, tally, find_by, bad_size}
use Rattle.checking.specs.Check.{faulty, first_fault, counted, check_answer}
use Rattle.lines.specs.Decimal.{digits, decimal}
use Rattle.lines.specs.Listing.{too_long, refused, fault_at, used_word, free_word, clear_word, old_word, new_word}
use Rattle.lines.specs.Listing.{field, named, line, slot_line, lines, counts_line, listing}

-- lead 31 01 00 00 02 00 00 00 10 00 and six zeros, the bytes `PRESS 4 HOLD 5AM`, and zeros up to two slots
store : List ℕ
store =
    0x31 ∷ 0x01 ∷ 0x00 ∷ 0x00 ∷ 0x02 ∷ 0x00 ∷ 0x00 ∷ 0x00 ∷ 0x10 ∷ 0x00 ∷ 0 ∷ 0 ∷ 0 ∷ 0 ∷ 0 ∷ 0
    ∷ 80 ∷ 82 ∷ 69 ∷ 83 ∷ 83 ∷ 32 ∷ 52 ∷ 32 ∷ 72 ∷ 79 ∷ 76 ∷ 68 ∷ 32 ∷ 53 ∷ 65 ∷ 77
    ∷ replicate 4192 0

-- "0 305 2 0 16" and "used 1 free 1 clear 1 old 0 new 0", a line each
example : listing store ≡
    48 ∷ 32 ∷ 51 ∷ 48 ∷ 53 ∷ 32 ∷ 50 ∷ 32 ∷ 48 ∷ 32 ∷ 49 ∷ 54 ∷ 10
    ∷ 117 ∷ 115 ∷ 101 ∷ 100 ∷ 32 ∷ 49 ∷ 32 ∷ 102 ∷ 114 ∷ 101 ∷ 101 ∷ 32 ∷ 49 ∷ 32 ∷ 99 ∷ 108 ∷ 101 ∷ 97 ∷ 114 ∷ 32 ∷ 49 ∷ 32
    ∷ 111 ∷ 108 ∷ 100 ∷ 32 ∷ 48 ∷ 32 ∷ 110 ∷ 101 ∷ 119 ∷ 32 ∷ 48 ∷ 10 ∷ []
unfolding store row num rev mark len all_zero sound_used sound scan tally find_by bad_size faulty first_fault counted check_answer digits decimal
    used_word free_word clear_word old_word new_word field named line slot_line lines counts_line listing
example = refl

-- 02, order 1: a revision is printed whole, up to ten digits: "0 305 4294967295 0 16"
greatest : listing
    (0x31 ∷ 0x01 ∷ 0 ∷ 0 ∷ 0xff ∷ 0xff ∷ 0 ∷ 0 ∷ 0x10 ∷ 0 ∷ 0xff ∷ 0xff ∷ replicate 2100 0) ≡
    48 ∷ 32 ∷ 51 ∷ 48 ∷ 53 ∷ 32 ∷ 52 ∷ 50 ∷ 57 ∷ 52 ∷ 57 ∷ 54 ∷ 55 ∷ 50 ∷ 57 ∷ 53 ∷ 32 ∷ 48 ∷ 32 ∷ 49 ∷ 54 ∷ 10
    ∷ 117 ∷ 115 ∷ 101 ∷ 100 ∷ 32 ∷ 49 ∷ 32 ∷ 102 ∷ 114 ∷ 101 ∷ 101 ∷ 32 ∷ 48 ∷ 32 ∷ 99 ∷ 108 ∷ 101 ∷ 97 ∷ 114 ∷ 32 ∷ 49 ∷ 32
    ∷ 111 ∷ 108 ∷ 100 ∷ 32 ∷ 48 ∷ 32 ∷ 110 ∷ 101 ∷ 119 ∷ 32 ∷ 48 ∷ 10 ∷ []
unfolding row num rev mark len all_zero sound_used sound scan tally find_by bad_size faulty first_fault counted check_answer digits decimal
    used_word free_word clear_word old_word new_word field named line slot_line lines counts_line listing
greatest = refl

-- an empty store: "used 0 free 0 clear 0 old 0 new 0"
empty : listing [] ≡
    117 ∷ 115 ∷ 101 ∷ 100 ∷ 32 ∷ 48 ∷ 32 ∷ 102 ∷ 114 ∷ 101 ∷ 101 ∷ 32 ∷ 48 ∷ 32 ∷ 99 ∷ 108 ∷ 101 ∷ 97 ∷ 114 ∷ 32 ∷ 48 ∷ 32
    ∷ 111 ∷ 108 ∷ 100 ∷ 32 ∷ 48 ∷ 32 ∷ 110 ∷ 101 ∷ 119 ∷ 32 ∷ 48 ∷ 10 ∷ []
unfolding row num rev mark len all_zero sound_used sound scan tally find_by bad_size faulty first_fault counted check_answer digits decimal
    used_word free_word clear_word old_word new_word field named line slot_line lines counts_line listing
empty = refl

-- a ragged size: "refused 4"
ragged : listing (0 ∷ store) ≡ 114 ∷ 101 ∷ 102 ∷ 117 ∷ 115 ∷ 101 ∷ 100 ∷ 32 ∷ 52 ∷ 10 ∷ []
unfolding store bad_size check_answer digits decimal refused field named listing
ragged = refl

-- after 01's two slots a free one with its last byte set: "fault at 2", and nothing of the slots before it
fault : listing (store ++ replicate 2111 0 ++ (1 ∷ [])) ≡ 102 ∷ 97 ∷ 117 ∷ 108 ∷ 116 ∷ 32 ∷ 97 ∷ 116 ∷ 32 ∷ 50 ∷ 10 ∷ []
unfolding store row num rev mark len all_zero sound_used sound scan find_by bad_size faulty first_fault check_answer digits decimal fault_at field named listing
fault = refl

-- 31 slots, of which the first is unsound: "fault at 0"; and one byte more: "too long"
most_slots : listing (1 ∷ replicate 65471 0) ≡ 102 ∷ 97 ∷ 117 ∷ 108 ∷ 116 ∷ 32 ∷ 97 ∷ 116 ∷ 32 ∷ 48 ∷ 10 ∷ []
unfolding row num rev mark len all_zero sound_used sound scan find_by bad_size faulty first_fault check_answer digits decimal fault_at field named listing
most_slots = refl

long : listing (replicate 65473 0) ≡ 116 ∷ 111 ∷ 111 ∷ 32 ∷ 108 ∷ 111 ∷ 110 ∷ 103 ∷ 10 ∷ []
unfolding too_long listing
long = refl

-- the largest sheet number: "4294967295"
largest : decimal 4294967295 ≡ 52 ∷ 50 ∷ 57 ∷ 52 ∷ 57 ∷ 54 ∷ 55 ∷ 50 ∷ 57 ∷ 53 ∷ []
unfolding digits decimal
largest = refl
