-- `sbox::singly` meets its contract: the bytes below the index are done, and the others as they came.
-- Assumes nothing.
use borrow.Author.Rules.{rules}
use Rattle.std.proofs.lemmas.List.Edits.{map_over_more}
use Rattle.sbox.proofs.singly.Goals as goal

pub loop-x-preserved : goal.loop-x-preserved
loop-x-preserved c = search (rules, map_over_more)
