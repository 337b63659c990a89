-- `wide::associated::under` meets its contract: from the inside out.
-- Assumes nothing.
use mathlib.Core.Path.{ap, ◌∙◌}
use mathlib.Core.Bool.{false}
use mathlib.Core.List.{List}
use Prim.Native.Nat.{ℕ}
use Rattle.block.specs.Xor.{◌⊕◌}
use Rattle.aes.specs.Aes.{crypted}
use Rattle.wide.proofs.associated.under.Goals as goal

pub returns : goal.returns
returns c =
    let a = c.args in
    c.xor-2.ensures
    ∙ ap (λ (x : List ℕ). x ⊕ a.m) (c.crypt.ensures ∙ ap (crypted false a.keys.keys a.keys.rounds) c.xor.ensures)
