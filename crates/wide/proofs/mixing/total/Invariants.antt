-- `wide::mixing::total` meets its contract: the sum so far and what is left make the whole.
-- Assumes nothing.
use Rattle.std.proofs.Common.{◌≡◌, ◌*◌, drop}
use Rattle.wide.specs.Passes.{total_of}
use Rattle.wide.proofs.mixing.total.Given as goal

abbrev pub invariant-loop-b : goal.invariant-loop-b
invariant-loop-b l = total_of l.sum (drop (16 * l.b-index) (drop 16 l.s)) ≡ total_of l.initial.sum (drop 16 l.s)
