-- `xts::tested` meets its contract: each return follows from the tests before it, in their order. The tactics find the refused ones.
-- Assumes nothing.
use mathlib.Core.Path.{sym, ◌∙◌}
use mathlib.Core.Bool.{true, false}
use native.Mathlib.Omega.{arith}
use Rattle.xts.proofs.Bounds.{unit_taken, by_tests}
use Rattle.xts.proofs.tested.Goals as goal

pub returns : goal.returns
returns c =
    let a = c.args in
    sym (by_tests a.key a.unit true false (sym c.key_taken.ensures ∙ c.if-not-key_taken.false) (unit_taken a.unit (omega arith, omega arith)))
