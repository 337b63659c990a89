-- 01 before 02's order 1: the revision in two bytes, soundness with bytes 10-15 zero, and the lead as it was written. Kept word for word for one
-- theorem (`proofs/EarlierLaws`): records already stored keep their bytes and their meaning. No code and no contract cites it, and it cites nothing
-- that the order changed.
-- Assumes nothing.
use Rattle.std.specs.Prelude.{Bool, cond, ◌&&◌, List, ◌∷◌, ℕ, ◌+◌, ◌/◌, ◌%◌, eqb, ltb, leb, take, drop, replicate}
use Rattle.block.specs.Tab.{byte}
use Rattle.block.specs.LittleEndian.{le16}
use Rattle.records.specs.Record.{text_most, num, mark, len, all_zero}

-- bytes 4-5: revision, 1 to 65,535
unfoldable pub rev : List ℕ → ℕ
rev r = le16 r 4

-- every field is as tabled; byte 7 and bytes 10-15 are 0, and so is the text after its length
unfoldable pub sound_used : List ℕ → Bool
sound_used r =
    ltb 0 (rev r)
    && (leb (mark r) 2
    && (eqb (byte r 7) 0
    && (leb 16 (len r) && (leb (len r) text_most && (all_zero (take 6 (drop 10 r)) && all_zero (drop (16 + len r) r))))))

-- a free slot is sound if all its bytes are 0
unfoldable pub sound : List ℕ → Bool
sound r = cond (eqb (num r) 0) (all_zero r) (sound_used r)

-- the lead of sheet n at revision v, with mark m and a text of l bytes
unfoldable pub lead : ℕ → ℕ → ℕ → ℕ → List ℕ
lead n v m l =
    n % 256
    ∷ n / 256 % 256
    ∷ n / 256 / 256 % 256
    ∷ n / 256 / 256 / 256 % 256
    ∷ v % 256
    ∷ v / 256 % 256
    ∷ m
    ∷ 0
    ∷ l % 256
    ∷ l / 256 % 256
    ∷ replicate 6 0
