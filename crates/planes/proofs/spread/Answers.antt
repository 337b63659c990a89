-- `planes::spread` meets its contract: each plane is that of the blocks.
-- Assumes nothing.
use Rattle.std.proofs.Common.{ℕ, ◌+◌, ◌*◌, List, Bool, cond, replicate, arith, ap, ◌∙◌}
use borrow.Author.Tests.{lt-ltb}
use Rattle.block.specs.Tab.{byte}
use Rattle.block.specs.Blocks.{block_at}
use Rattle.planes.proofs.Laws.{lanes_made, padded, length-padded, spread_plane}
use Rattle.planes.proofs.spread.Goals as goal

pub returns : goal.returns
returns c l h =
    let a = c.args in
    let s : List ℕ = a.s.now in
    lanes_made (padded s a.at a.n) c.each_plane.new.d (λ l h. length-padded s a.at a.n l (omega arith))
    (λ p h l j. ap (λ (r : List ℕ). byte r l) (c.each_plane.ensures p h).1 ∙ spread_plane s a.at a.n p h l j)
    l (omega arith)
    ∙ ap (λ (t : Bool). cond t (block_at s (a.at + 16 * l)) (replicate 16 0)) (lt-ltb l a.n h)
