-- `unit::under` meets its contract: from the inside out.
-- Assumes nothing.
use mathlib.Core.Path.{ap, ◌∙◌}
use mathlib.Core.List.{List}
use Prim.Native.Nat.{ℕ}
use Rattle.block.specs.Xor.{◌⊕◌}
use Rattle.aes.specs.Aes.{crypted}
use Rattle.unit.specs.Unit.{xts_block}
use Rattle.unit.proofs.under.Goals as goal

pub returns : goal.returns
unfolding xts_block
returns c =
    let a = c.args in
    c.xor-2.ensures
    ∙ ap (λ (x : List ℕ). x ⊕ a.t) (c.crypt.ensures ∙ ap (crypted a.back a.keys.keys a.keys.rounds) c.xor.ensures)
