-- `lines::counts` meets its contract: one count after the other.
-- Assumes nothing.
use native.Mathlib.Omega.{arith}
use Rattle.lines.specs.Listing.{used_word, free_word, clear_word, old_word, new_word, counts_line}
use Rattle.lines.proofs.LaidLaws.{laid_then}
use Rattle.lines.proofs.counts.Goals as goal

pub returns : goal.returns
unfolding used_word free_word clear_word old_word new_word counts_line
returns c = (
  laid_then c.named-at.ensures.0
      (laid_then c.named-at-2.ensures.0 (laid_then c.named-at-3.ensures.0 (laid_then c.named-at-4.ensures.0 c.named.ensures.0))),
  omega (arith, c.named-at.ensures.1, c.named-at-2.ensures.1, c.named-at-3.ensures.1, c.named-at-4.ensures.1, c.named.ensures.1),
)
