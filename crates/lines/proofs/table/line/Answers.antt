-- `lines::table::line` meets its contract: one field after the other, each as the record has it.
-- Assumes nothing.
use native.Mathlib.Omega.{arith}
use Rattle.lines.proofs.LaidLaws.{laid_then, laid_as}
use Rattle.lines.proofs.ListingLaws.{line_of}
use Rattle.lines.proofs.table.line.Goals as goal

pub returns : goal.returns
returns c =
    let a = c.args in (
      laid_as
          (line_of a.k a.r.now c.number.result c.revision.result c.mark.result c.text_length.result
          c.number.ensures c.revision.ensures c.mark.ensures c.text_length.ensures)
          (laid_then c.field-at.ensures.0
          (laid_then c.field-at-2.ensures.0 (laid_then c.field-at-3.ensures.0 (laid_then c.field-at-4.ensures.0 c.field.ensures.0)))),
      omega (arith, c.field-at.ensures.1, c.field-at-2.ensures.1, c.field-at-3.ensures.1, c.field-at-4.ensures.1, c.field.ensures.1),
    )
