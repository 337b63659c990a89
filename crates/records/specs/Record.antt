-- 01, the store: one record, field by field. Nothing else knows where a field stands: what is above goes by `num`, `rev`, `mark`, `len`,
-- `lead_of`, `stored`, `sound`, `lead`, `record_of` and the laws about them. The record's size, the text's and the greatest revision have their
-- names here, and no other file has the numbers.
-- Assumes nothing.
use Rattle.std.specs.Prelude.{Bool, true, cond, ◌&&◌, List, [], ◌∷◌, ◌++◌, ℕ, ◌+◌, ◌-◌, ◌*◌, ◌/◌, ◌%◌, eqb, ltb, leb, length, take, drop, replicate}
use Rattle.block.specs.Tab.{byte}
use Rattle.block.specs.LittleEndian.{le16, le32}

-- ---- sizes

-- records of 2,112 bytes
abbrev pub record_size : ℕ
record_size = 2112

-- a text of at most 2,096 bytes: what the lead leaves
abbrev pub text_most : ℕ
text_most = 2096

-- 02, order 1: a revision of at most 4,294,967,295
abbrev pub greatest_revision : ℕ
greatest_revision = 4294967295

-- ---- the fields

-- bytes 0-3: sheet number; 0 means the slot is free
unfoldable pub num : List ℕ → ℕ
num r = le32 r 0

-- bytes 4-5: revision, 1 to the greatest; its high half in bytes 10-11 (02, order 1)
unfoldable pub rev : List ℕ → ℕ
rev r = le16 r 4 + 65536 * le16 r 10

-- byte 6: mark, 0 clear, 1 old key, 2 new key
unfoldable pub mark : List ℕ → ℕ
mark r = byte r 6

-- bytes 8-9: text length, 16 to 2,096
unfoldable pub len : List ℕ → ℕ
len r = le16 r 8

-- bytes 0 to 15 are the lead
unfoldable pub lead_of : List ℕ → List ℕ
lead_of r = take 16 r

-- the stored text, which may be enciphered
unfoldable pub stored : List ℕ → List ℕ
stored r = take (len r) (drop 16 r)

-- ---- soundness

unfoldable pub all_zero : List ℕ → Bool
all_zero [] = true
all_zero (x ∷ xs) = eqb x 0 && all_zero xs

-- every field is as tabled; byte 7 and bytes 12-15 are 0, and so is the text after its length
unfoldable pub sound_used : List ℕ → Bool
sound_used r =
    ltb 0 (rev r)
    && (leb (mark r) 2
    && (eqb (byte r 7) 0
    && (leb 16 (len r) && (leb (len r) text_most && (all_zero (take 4 (drop 12 r)) && all_zero (drop (16 + len r) r))))))

-- a free slot is sound if all its bytes are 0
unfoldable pub sound : List ℕ → Bool
sound r = cond (eqb (num r) 0) (all_zero r) (sound_used r)

-- ---- a record written whole

-- the lead of sheet n at revision v, with mark m and a text of l bytes
unfoldable pub lead : ℕ → ℕ → ℕ → ℕ → List ℕ
lead n v m l =
    n % 256
    ∷ n / 256 % 256
    ∷ n / 256 / 256 % 256
    ∷ n / 256 / 256 / 256 % 256
    ∷ v % 256
    ∷ v / 256 % 256
    ∷ m
    ∷ 0
    ∷ l % 256
    ∷ l / 256 % 256
    ∷ v / 256 / 256 % 256
    ∷ v / 256 / 256 / 256 % 256
    ∷ replicate 4 0

-- the lead, the text as it is to be stored, and zeros after it
unfoldable pub record_of : ℕ → ℕ → ℕ → List ℕ → List ℕ
record_of n v m t = lead n v m (length t) ++ (t ++ replicate (text_most - length t) 0)
