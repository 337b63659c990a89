-- `rounds::mix_columns` meets its contract: the sum of turned columns, from the inside out.
-- Assumes nothing.
use mathlib.Core.Path.{ap, ap₂, ◌∙◌}
use mathlib.Core.List.{List}
use Prim.Native.Nat.{ℕ}
use Rattle.block.specs.Xor.{◌⊕◌}
use Rattle.block.proofs.ArrayBytes.{array_block}
use Rattle.rounds.specs.Steps.{columns_turned}
use Rattle.rounds.proofs.Columns.{mix_by_turning}
use Rattle.rounds.proofs.mix_columns.Goals as goal

pub returns : goal.returns
returns c =
    let s = c.args.s in
    let x2 = c.each_times_x-x2 in
    let last = c.xor-last in
    c.xor-3.ensures
    ∙ ap (λ (u : List ℕ). x2.result ⊕ u)
    (c.turned-3.ensures
    ∙ ap columns_turned
    (c.xor-2.ensures
    ∙ ap₂ (λ (u v : List ℕ). u ⊕ v) c.xor.ensures c.turned-2.ensures))
    ∙ mix_by_turning s x2.result last.result (array_block s _ c.well_formed.0).size x2.ensures
    (last.ensures ∙ ap (λ (u : List ℕ). s ⊕ u) c.turned.ensures)
