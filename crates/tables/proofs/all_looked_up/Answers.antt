-- `tables::all_looked_up` meets its contract: the bytes below the index are those of the table, and the others as they came.
-- Assumes nothing.
use native.Mathlib.Omega.{arith}
use borrow.Author.Rules.{rules}
use Rattle.block.specs.Tab.{byte}
use Rattle.std.proofs.lemmas.List.Edits.{map_over_more}
use Rattle.tables.proofs.all_looked_up.Goals as goal

pub loop-x-preserved : goal.loop-x-preserved
loop-x-preserved c =
    map_over_more (byte c.args.t.now) c.args.s.now c.loop-x.s c.loop-x.x-index (byte c.loop-x.s c.loop-x.x-index) (omega arith) c.loop-x.invariant
    (search rules)
