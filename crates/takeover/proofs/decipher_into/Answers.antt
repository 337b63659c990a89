-- `takeover::decipher_into` meets its contract: the unit is copied into the room, and deciphered there.
-- Assumes nothing.
use Rattle.block.specs.Bytes.{Bytes}
use Rattle.takeover.proofs.SourceLaws.{laid}
use Rattle.takeover.proofs.decipher_into.Goals as goal

pub returns : goal.returns
returns c =
    let a = c.args in
    let bk : Bytes a.key.now = record { below = λ i. (c.type_inv.key i).fits } in
    let bu : Bytes a.unit.now = record { below = λ i. (c.type_inv.unit i).fits } in
    laid a.key.now a.number a.unit.now a.room.now c.copy_from_slice.new.self c.decipher.new.unit bk bu c.requires.0
    c.copy_from_slice.ensures.after c.decipher.ensures.1
