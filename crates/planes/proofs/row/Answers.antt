-- `planes::row` meets its contract: the plane that it loads is the one k rows below p in p's column.
-- Assumes nothing.
use mathlib.Core.Path.{◌≡◌, ap, ◌∙◌}
use mathlib.Core.List.{List}
use Prim.Native.Nat.{ℕ, ◌+◌, ◌*◌, ◌/◌, ◌%◌}
use native.Mathlib.Omega.{arith}
use Rattle.block.specs.Tab.{byte}
use Rattle.block.specs.Blocks.{block_at}
use Rattle.planes.specs.Planes.{below}
use Rattle.planes.proofs.Laws.{plane_lane}
use Rattle.planes.proofs.row.Goals as goal

pub returns : goal.returns
returns c =
    let a = c.args in
    let s : List ℕ = a.s.now in
    let e : 16 * (a.p / 4 * 4 + (a.p % 4 + a.k) % 4) ≡ 16 * below a.p a.k = omega arith in
    λ l h.
    ap (λ (r : List ℕ). byte r l) (c.load.ensures ∙ ap (λ (n : ℕ). block_at s n) e) ∙ plane_lane s (below a.p a.k) (omega arith) l h
