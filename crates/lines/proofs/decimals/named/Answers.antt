-- `lines::decimals::named` meets its contract: the word, the number and the byte after it.
-- Assumes nothing.
use native.Mathlib.Omega.{arith}
use Rattle.lines.specs.Listing.{named as named_of}
use Rattle.lines.proofs.LaidLaws.{laid_then}
use Rattle.lines.proofs.decimals.named.Goals as goal

pub returns : goal.returns
unfolding named_of
returns c =
    (laid_then c.text-past.ensures c.field.ensures.0, omega (arith, c.text-past.ensures.place, c.field.ensures.1))
