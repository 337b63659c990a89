-- `sbox::block_substituted` meets its contract: each byte goes through planes of its own.
-- Assumes nothing.
use native.Mathlib.Omega.{arith}
use borrow.Author.Rules.{rules}
use Rattle.sbox.specs.Directions.{directed}
use Rattle.sbox.proofs.PlaneSub.{spread_tab}
use Rattle.sbox.proofs.block_substituted.Goals as goal

pub returns : goal.returns
returns c =
    spread_tab (directed c.args.back) 1 c.args.s c.gather_block.result c.spread_block-group.result c.substitute.new.group (omega arith)
    c.spread_block-group.ensures c.substitute.ensures c.gather_block.ensures (search rules)
