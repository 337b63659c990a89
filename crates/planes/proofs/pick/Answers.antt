-- `planes::pick` meets its contract: each plane is the one that is picked.
-- Assumes nothing.
use Rattle.std.proofs.Common.{refl, List, ℕ, ap, ◌∙◌}
use Rattle.block.specs.Tab.{byte}
use Rattle.planes.specs.Lanes.{lane}
use Rattle.planes.specs.Planes.{picked}
use Rattle.planes.proofs.Laws.{lanes_made, pick_plane}
use Rattle.planes.proofs.pick.Goals as goal

pub returns : goal.returns
unfolding picked
returns c =
    let s : List ℕ = c.args.s.now in
    let k = c.args.k in
    lanes_made (λ l. picked k (lane s l)) c.each_plane.new.d (λ l h. refl)
    (λ p h l j. ap (λ (r : List ℕ). byte r l) (c.each_plane.ensures p h).1 ∙ pick_plane k s p h l j)
