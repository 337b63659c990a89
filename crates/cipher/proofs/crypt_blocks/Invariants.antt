-- `cipher::crypt_blocks` meets its contract: what is done, and what the blocks that are left make of the rest, is the whole.
-- Assumes nothing.
use Rattle.std.proofs.Common.{◌≡◌, ◌*◌, ◌++◌, map, take, drop}
use Rattle.block.specs.Blocks.{on_blocks}
use Rattle.cipher.specs.Cipher.{crypted}
use Rattle.cipher.proofs.crypt_blocks.Given as goal

abbrev pub invariant-loop-i : goal.invariant-loop-i
invariant-loop-i l =
    take (256 * l.i) l.s ++ on_blocks (map (crypted l.back l.keys.keys l.keys.rounds)) (drop (256 * l.i) l.s)
    ≡ on_blocks (map (crypted l.back l.keys.keys l.keys.rounds)) l.initial.s
