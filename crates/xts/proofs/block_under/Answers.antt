-- `xts::block_under` meets its contract: the tweak of block 0 times alpha^k is that tweak doubled k times.
-- Assumes nothing.
use mathlib.Core.Path.{refl, ap, ap₂, ◌∙◌}
use mathlib.Core.Bool.{true}
use mathlib.Core.List.{List}
use Prim.Native.Nat.{ℕ}
use Rattle.block.specs.Double.{doubles}
use Rattle.block.proofs.ArrayBytes.{array_block}
use Rattle.field.specs.Elements.{product}
use Rattle.field.proofs.FieldLaws.{power_product}
use Rattle.unit.specs.Unit.{xts_block}
use Rattle.xts.specs.Xts.{Key1, block_under}
use Rattle.xts.proofs.KeyLaws.{under}
use Rattle.xts.proofs.block_under.Goals as goal

pub returns : goal.returns
unfolding block_under
returns c =
    let a = c.args in
    let k : List ℕ = a.key.now in
    let t : List ℕ = c.tweak.result in
    let r = c.key1.result in
    c.under.ensures
    ∙ ap₂ (λ (f : List ℕ → List ℕ) (x : List ℕ). xts_block f x a.c)
    (under true r.keys r.rounds (Key1 k) (Key1 k) refl c.key1.ensures.keys c.key1.ensures.rounds)
    (c.product-t.ensures
    ∙ ap (λ (x : List ℕ). product x t) c.power.ensures
    ∙ power_product a.k (array_block t _ c.tweak.type_inv)
    ∙ ap (doubles a.k) c.tweak.ensures)
