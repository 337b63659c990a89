-- `lines::decimals::number` meets its contract: the text that is laid is the decimal.
-- Assumes nothing.
use mathlib.Core.Path.{sym, ◌∙◌}
use Rattle.lines.proofs.LaidLaws.{laid_as}
use Rattle.lines.proofs.DecimalLaws.{decimal_written}
use Rattle.lines.proofs.decimals.number.Goals as goal

pub returns : goal.returns
returns c =
    laid_as (c.as_bytes.ensures.value ∙ c.format.ensures.text ∙ sym (decimal_written c.args.n c.ranges.n.fits)) c.text.ensures
