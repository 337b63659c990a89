-- `planes::mix` meets its contract: each plane is that of MixColumns.
-- Assumes nothing.
use Rattle.std.proofs.Common.{refl}
use Rattle.rounds.specs.Steps.{columns_times, mix_columns}
use Rattle.planes.specs.Lanes.{lane}
use Rattle.planes.proofs.Laws.{lanes_made}
use Rattle.planes.proofs.mix.Goals as goal

pub returns : goal.returns
unfolding mix_columns columns_times
returns c = lanes_made (λ n. mix_columns (lane c.args.s.now n)) c.each_plane.new.d (λ l h. refl) (λ p h. (c.each_plane.ensures p h).1)
