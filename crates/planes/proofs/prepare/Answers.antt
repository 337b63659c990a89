-- `planes::prepare` meets its contract: each plane is that of the columns times (05, 00, 04, 00).
-- Assumes nothing.
use Rattle.std.proofs.Common.{refl}
use Rattle.rounds.specs.Steps.{columns_times}
use Rattle.planes.specs.Lanes.{lane}
use Rattle.planes.proofs.Laws.{lanes_made}
use Rattle.planes.proofs.prepare.Goals as goal

pub returns : goal.returns
unfolding columns_times
returns c = lanes_made (λ n. columns_times 5 0 4 0 (lane c.args.s.now n)) c.each_plane.new.d (λ l h. refl) (λ p h. (c.each_plane.ensures p h).1)
