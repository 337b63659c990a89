-- The closure of `planes::mix`: 02 is x, 03 is x and 1, and the four planes are those of p's column.
-- Assumes nothing.
use mathlib.Core.Path.{ap, ap₂, ◌∙◌}
use mathlib.Core.List.{List}
use Prim.Native.Nat.{ℕ}
use native.Mathlib.Omega.{arith}
use Rattle.block.specs.Tab.{byte}
use Rattle.block.specs.Xor.{◌⊕◌}
use Rattle.block.proofs.ArrayBytes.{array_block}
use Rattle.planes.proofs.Laws.{mix_plane}
use Rattle.planes.proofs.fn.mix.each_plane.Goals as goal

pub returns : goal.returns
returns c =
    let x = c.row-x in
    let y = c.row-y in
    let z = c.row in
    let w = c.row-2 in
    let s = c.captures.s.now in
    let p = c.args.p in
    λ l h.
    ap (λ (r : List ℕ). byte r l)
    (c.xor-3.ensures
    ∙ ap₂ (λ (u v : List ℕ). u ⊕ v) c.each_times_x-2.ensures
    (c.xor-2.ensures
    ∙ ap₂ (λ (u v : List ℕ). u ⊕ v) (c.xor-z.ensures ∙ ap (λ (u : List ℕ). u ⊕ y.result) c.each_times_x.ensures)
    c.xor.ensures))
    ∙ mix_plane s x.result y.result z.result w.result p (omega arith)
    (array_block y.result _ y.type_inv).size
    (array_block z.result _ z.type_inv).size
    (array_block w.result _ w.type_inv).size
    x.ensures y.ensures z.ensures w.ensures l h
