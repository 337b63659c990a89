-- `sbox::chunk` meets its contract: each byte goes through planes of its own.
-- Assumes nothing.
use mathlib.Core.Path.{ap, ◌∙◌}
use mathlib.Core.List.{map}
use native.Mathlib.Omega.{arith}
use borrow.Author.Rules.{rules}
use lib.ListN.{length}
use Rattle.sbox.specs.Directions.{directed}
use Rattle.sbox.proofs.PlaneSub.{spread_map}
use Rattle.sbox.proofs.chunk.Goals as goal

pub returns-in-Some : goal.returns-in-Some
returns-in-Some c =
    let f = directed c.args.back in
    spread_map f 8 c.in-Some.bytes.now c.gather.new.s c.spread.new.group c.substitute.new.group (omega arith) c.spread.ensures
    c.substitute.ensures c.gather.ensures (ap length c.in-Some.ensures.cases.same ∙ c.requires) (search rules)
    ∙ ap (map f) c.in-Some.ensures.cases.same
