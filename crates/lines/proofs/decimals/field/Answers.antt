-- `lines::decimals::field` meets its contract: the digits, and the byte after them.
-- Assumes nothing.
use native.Mathlib.Omega.{arith}
use Rattle.lines.specs.Listing.{field as field_of}
use Rattle.lines.proofs.LaidLaws.{laid_then}
use Rattle.lines.proofs.DecimalLaws.{length-word}
use Rattle.lines.proofs.decimals.field.Goals as goal

pub put-requires : goal.put-requires
put-requires c =
    omega (arith, c.number-past.ensures.place, length-word c.args.n c.ranges.n.fits, c.requires)

pub returns : goal.returns
unfolding field_of
returns c =
    let l = length-word c.args.n c.ranges.n.fits in
    (laid_then c.number-past.ensures c.put.ensures, omega (arith, c.put.ensures.place, c.number-past.ensures.place, l))
