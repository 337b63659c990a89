-- `slots::bad_size` meets its contract: where the first test passes the second does not count.
-- Assumes nothing.
use mathlib.Core.Path.{sym, ap, ◌∙◌}
use mathlib.Core.Bool.{Bool, not, ◌||◌}
use Prim.Native.Nat.{◌/◌, ◌%◌}
use borrow.Author.Tests.{eq-eqb, ne_eqb}
use lib.Dec.{ltb}
use lib.ListN.{length}
use Rattle.records.specs.Record.{record_size}
use Rattle.slots.specs.Slots.{bad_size}
use Rattle.slots.proofs.bad_size.Goals as goal

pub returns-then-s-ne0 : goal.returns-then-s-ne0
unfolding bad_size
returns-then-s-ne0 c =
    let s = c.args.s.now in
    let e = ne_eqb (length s % record_size) 0 c.if-s-ne0.true in
    ap not e ∙ sym (ap (λ (t : Bool). not t || ltb 1024 (length s / record_size)) e)

pub returns-else-s-ne0 : goal.returns-else-s-ne0
unfolding bad_size
returns-else-s-ne0 c =
    let s = c.args.s.now in
    sym (ap (λ (t : Bool). not t || ltb 1024 (length s / record_size)) (eq-eqb (length s % record_size) 0 c.if-s-ne0.false))
