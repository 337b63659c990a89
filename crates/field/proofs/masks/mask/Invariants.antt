-- `field::masks::mask` meets its contract: what is done, and what the masks that are left make of the rest, is the whole.
-- Assumes nothing.
use Rattle.std.proofs.Common.{◌≡◌, ◌*◌, ◌++◌, take, drop}
use Rattle.block.specs.Blocks.{on_blocks}
use Rattle.block.specs.Double.{doubles}
use Rattle.field.specs.Masks.{masked}
use Rattle.field.proofs.masks.mask.Given as goal

abbrev pub invariant-loop-k : goal.invariant-loop-k
invariant-loop-k l = record {
  mask : l.m ≡ doubles l.k l.initial.m;
  whole : take (16 * l.k) l.s ++ on_blocks (masked l.m) (drop (16 * l.k) l.s) ≡ on_blocks (masked l.initial.m) l.initial.s;
}
