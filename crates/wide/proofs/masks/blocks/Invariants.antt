-- `wide::masks::blocks` meets its contract: what is done, and what is left from the running mask on, is the whole.
-- Assumes nothing.
use Rattle.std.proofs.Common.{◌≡◌, ◌+◌, ◌*◌, ◌++◌, take, drop}
use Rattle.block.specs.Blocks.{on_blocks}
use Rattle.aes.specs.Aes.{crypted}
use Rattle.mode.specs.Wide.{middle}
use Rattle.wide.proofs.masks.blocks.Given as goal

abbrev pub invariant-loop-k : goal.invariant-loop-k
invariant-loop-k l =
    take (16 * l.k) l.s ++ on_blocks (middle (crypted l.back l.keys.keys l.keys.rounds) l.m1 (l.k + 1) l.m) (drop (16 * l.k) l.s)
    ≡ take 16 l.initial.s ++ on_blocks (middle (crypted l.back l.keys.keys l.keys.rounds) l.m1 2 l.m1) (drop 16 l.initial.s)
