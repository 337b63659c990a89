-- `planes::inv_mix` meets its contract: what MixColumns makes of the columns times (05, 00, 04, 00).
-- Assumes nothing.
use borrow.Author.Rules.{rules}
use Rattle.planes.proofs.Laws.{inv_mix_lanes}
use Rattle.planes.proofs.inv_mix.Goals as goal

pub returns : goal.returns
returns c =
    inv_mix_lanes c.args.s.now c.prepare.new.d c.mix.new.d
    (λ i. search rules) c.prepare.ensures c.mix.ensures
