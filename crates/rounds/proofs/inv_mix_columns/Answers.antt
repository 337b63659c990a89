-- `rounds::inv_mix_columns` meets its contract: what MixColumns makes of the column times (05, 00, 04, 00).
-- Assumes nothing.
use mathlib.Core.Path.{ap, ◌∙◌}
use mathlib.Core.List.{List}
use Prim.Native.Nat.{ℕ}
use Rattle.block.specs.Xor.{◌⊕◌}
use Rattle.block.specs.Bytes.{Block}
use Rattle.block.proofs.ArrayBytes.{array_block}
use Rattle.rounds.specs.Steps.{columns_turned, each_times_x, mix_columns}
use Rattle.rounds.proofs.Columns.{prepared, inv_mix_by_mix}
use Rattle.rounds.proofs.inv_mix_columns.Goals as goal

pub returns : goal.returns
returns c =
    let s = c.args.s in
    let b : Block s = array_block s _ c.well_formed.0 in
    let both = c.xor-both in
    let x4 = c.each_times_x-x4 in
    c.mix_columns.ensures
    ∙ ap mix_columns
    (c.xor.ensures
    ∙ prepared s both.result x4.result b
    (both.ensures
    ∙ ap (λ (u : List ℕ). s ⊕ u)
    (c.turned-2.ensures ∙ ap columns_turned c.turned.ensures))
    (x4.ensures ∙ ap each_times_x c.each_times_x.ensures))
    ∙ inv_mix_by_mix s b
