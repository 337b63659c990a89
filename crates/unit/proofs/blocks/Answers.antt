-- `unit::blocks` meets its contract: masks around the permutation are the blocks under their tweaks.
-- Assumes nothing.
use mathlib.Core.Path.{◌≡◌, ap, ◌∙◌}
use mathlib.Core.List.{List, map}
use Prim.Native.Nat.{ℕ, ◌/◌}
use lib.ListN.{length}
use Rattle.block.specs.Blocks.{on_blocks}
use Rattle.block.specs.Double.{doubles}
use Rattle.field.specs.Masks.{masked}
use Rattle.aes.specs.Aes.{crypted}
use Rattle.aes.specs.Promise.{length-crypted}
use Rattle.unit.proofs.PassLaws.{passes}
use Rattle.unit.proofs.blocks.Goals as goal

pub returns : goal.returns
returns c =
    let a = c.args in
    let s : List ℕ = a.s.now in
    let f : List ℕ → List ℕ = crypted a.back a.keys.keys a.keys.rounds in
    let n : length c.crypt_blocks.new.s ≡ length s = c.crypt_blocks.auto.s ∙ c.mask.auto.s in (
      c.mask-2.ensures.0 ∙ ap (λ (j : ℕ). doubles (j / 16) a.t) n,
      c.mask-2.ensures.1
          ∙ ap (on_blocks (masked a.t)) (c.crypt_blocks.ensures ∙ ap (on_blocks (map f)) c.mask.ensures.1)
          ∙ passes f (length-crypted a.back a.keys.keys a.keys.rounds) a.t s,
    )
