-- `sheets::text::seal` meets its contract: the lead loaded, and the part after it enciphered.
-- Assumes nothing.
use Rattle.sheets.proofs.SealLaws.{sealing}
use Rattle.sheets.proofs.text.seal.Goals as goal

pub returns : goal.returns
returns c =
    let a = c.args in
    sealing a.w.now a.r.now a.l c.load-h.result c.encipher.new.message c.load-h.ensures c.encipher.ensures.1
