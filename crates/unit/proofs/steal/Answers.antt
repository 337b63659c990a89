-- `unit::steal` meets its contract: the two copies exchange the bytes after the block with the first bytes of what the first tweak makes of it.
-- Assumes nothing.
use mathlib.Core.Path.{ap, ◌∙◌}
use mathlib.Core.List.{List}
use Prim.Native.Nat.{ℕ}
use Rattle.aes.specs.Aes.{crypted}
use Rattle.aes.specs.Promise.{length-crypted}
use Rattle.unit.specs.Unit.{xts_block}
use Rattle.unit.proofs.PassLaws.{stealing}
use Rattle.unit.proofs.steal.Goals as goal

pub returns : goal.returns
returns c =
    let a = c.args in
    let f : List ℕ → List ℕ = crypted a.back a.keys.keys a.keys.rounds in
    c.put.ensures
    ∙ stealing f (length-crypted a.back a.keys.keys a.keys.rounds) a.first a.second a.s.now c.requires.0 c.requires.1 c.under-cc.result
    c.copy.new.s c.copy-2.new.s c.under.result
    (c.under-cc.ensures ∙ ap (xts_block f a.first) c.load.ensures)
    c.copy.ensures c.copy-2.ensures c.under.ensures
