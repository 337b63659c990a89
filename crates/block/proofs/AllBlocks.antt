-- Lists of blocks: the full blocks of a list of bytes are one, and what such a list is put together to is bytes.
-- Assumes nothing.
use Rattle.std.proofs.Common.{ℕ, zero, suc, ◌*◌, ◌≤◌, List, [], ◌∷◌, ◌++◌, length, take, drop, arith, length-drop, length-take-le}
use Rattle.block.specs.Bytes.{Bytes, Block}
use Rattle.block.specs.Blocks.{blocks, join}
use Rattle.block.proofs.BytesLaws.{bytes_take, bytes_drop, bytes_append, bytes_zeros}
use Rattle.block.proofs.BlockLaws.{Sized}

abbrev pub AllBlocks : List (List ℕ) → Type 0
AllBlocks [] = Unit {0}
AllBlocks (b ∷ bs) = Block b × AllBlocks bs

pub all_append : (xs ys : List (List ℕ)) → AllBlocks xs → AllBlocks ys → AllBlocks (xs ++ ys)
all_append [] ys h k = k
all_append (x ∷ xs) ys h k = (h.0, all_append xs ys h.1 k)

pub all_sized : (bs : List (List ℕ)) → AllBlocks bs → Sized bs
all_sized [] k = tt
all_sized (b ∷ bs) k = (k.0.size, all_sized bs k.1)

pub all_blocks : (n : ℕ) (l : List ℕ) → 16 * n ≤ length l → Bytes l → AllBlocks (blocks n l)
unfolding blocks
all_blocks zero l h b = tt
all_blocks (suc n) l h b =
    let h1 : Block (take 16 l) = record { size = length-take-le 16 l (omega arith); bytes = bytes_take 16 l b } in
    (h1, all_blocks n (drop 16 l) (omega (arith, length-drop 16 l)) (bytes_drop 16 l b))

pub bytes_joined : (bs : List (List ℕ)) → AllBlocks bs → Bytes (join bs)
unfolding join
bytes_joined [] k = bytes_zeros 0
bytes_joined (b ∷ bs) k = bytes_append b (join bs) k.0.bytes (bytes_joined bs k.1)
