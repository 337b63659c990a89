-- `wide::passes::wide` meets its contract: the five calls, one after the other, are the wide block.
-- Assumes nothing.
use mathlib.Core.Path.{◌≡◌, ap, ◌∙◌}
use mathlib.Core.List.{List, map}
use Prim.Native.Nat.{ℕ, ◌≤◌}
use native.Mathlib.Omega.{arith}
use lib.ListN.{length}
use Rattle.block.specs.Blocks.{on_blocks}
use Rattle.block.proofs.ArrayBytes.{array_block}
use Rattle.field.specs.Masks.{masked}
use Rattle.aes.specs.Aes.{crypted}
use Rattle.aes.specs.Promise.{length-crypted}
use Rattle.wide.specs.Passes.{mixed}
use Rattle.wide.proofs.WideLaws.{wide_passes}
use Rattle.wide.proofs.passes.wide.Goals as goal

pub mix-requires : goal.mix-requires
mix-requires c =
    let n : length c.crypt_blocks.new.s ≡ length c.mask.new.s = c.crypt_blocks.auto.s in
    let m : length c.mask.new.s ≡ length c.args.s.now = c.mask.auto.s in
    omega arith

pub shape_of-s : goal.shape_of-s
shape_of-s c =
    c.mask-2.auto.s ∙ c.crypt_blocks-2.auto.s ∙ c.mix.auto.s ∙ c.crypt_blocks.auto.s ∙ c.mask.auto.s

pub returns : goal.returns
returns c =
    let a = c.args in
    let s : List ℕ = a.s.now in
    let f : List ℕ → List ℕ = crypted a.back a.keys.keys a.keys.rounds in
    let pass : List ℕ → List ℕ = on_blocks (map f) in
    let masks : List ℕ → List ℕ = on_blocks (masked a.l) in
    let h : 16 ≤ length s = c.requires in
    c.mask-2.ensures.1
    ∙ ap masks
    (c.crypt_blocks-2.ensures ∙ ap pass (c.mix.ensures ∙ ap (mixed f a.t) (c.crypt_blocks.ensures ∙ ap pass c.mask.ensures.1)))
    ∙ wide_passes f (length-crypted a.back a.keys.keys a.keys.rounds) a.l a.t s (array_block a.l _ c.well_formed.1.1.0).size h
