-- `checking::five_counts` meets its contract: each count is that of its test, and fits.
-- Assumes nothing.
use Rattle.std.proofs.Common.{◌≡◌, ℕ, ◌-◌, List, arith}
use Rattle.checking.specs.Check.{used, marked, five}
use Rattle.checking.proofs.CheckLaws.{counted_le, free_count}
use Rattle.checking.proofs.five_counts.Goals as goal

pub overflow_cast-result : goal.overflow_cast-result
overflow_cast-result c = omega (arith, counted_le used c.args.store.now)

pub overflow_sub-result : goal.overflow_sub-result
overflow_sub-result c = omega (arith, counted_le used c.args.store.now)

pub overflow_cast-result-3 : goal.overflow_cast-result-3
overflow_cast-result-3 c = omega (arith, counted_le (marked 0) c.args.store.now)

pub overflow_cast-result-4 : goal.overflow_cast-result-4
overflow_cast-result-4 c = omega (arith, counted_le (marked 1) c.args.store.now)

pub overflow_cast-result-5 : goal.overflow_cast-result-5
overflow_cast-result-5 c = omega (arith, counted_le (marked 2) c.args.store.now)

pub returns : goal.returns
returns c =
    let s : List ℕ = c.args.store.now in
    let free : c.count.result - c.used_slots-used.result ≡ (five s).free =
    free_count s c.count.result c.used_slots-used.result c.count.ensures c.used_slots-used.ensures in
    let u = c.used_slots-used.ensures in
    let x = c.marked_slots.ensures in
    let y = c.marked_slots-2.ensures in
    let z = c.marked_slots-3.ensures in
    λ i. record { used = u i; free = free i; clear = x i; old = y i; new = z i }
