-- `planes::add` meets its contract: each plane has its byte of the key added.
-- Assumes nothing.
use Rattle.std.proofs.Common.{◌≡◌, List, ℕ, length, ap, ◌∙◌, rules}
use Rattle.block.specs.Tab.{byte}
use Rattle.block.specs.Xor.{◌⊕◌}
use Rattle.block.proofs.XorLaws.{length_⊕}
use Rattle.planes.specs.Lanes.{lane}
use Rattle.planes.proofs.Laws.{lanes_made, add_plane}
use Rattle.planes.proofs.add.Goals as goal

pub returns : goal.returns
unfolding lane
returns c =
    let s : List ℕ = c.args.s.now in
    let k = c.args.k in
    let n : length k ≡ 16 = search rules in
    lanes_made (λ l. lane s l ⊕ k) c.each_plane.new.d (λ l h. length_⊕ (lane s l) k)
    (λ p h l j. ap (λ (r : List ℕ). byte r l) (c.each_plane.ensures p h).1 ∙ add_plane s p c.told-s h k n l j)
