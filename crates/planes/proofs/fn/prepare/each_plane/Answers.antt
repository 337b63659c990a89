-- The closure of `planes::prepare`: a plane, and 04 of its sum with the one two rows below.
-- Assumes nothing.
use mathlib.Core.Path.{ap, ◌∙◌}
use mathlib.Core.List.{List}
use Prim.Native.Nat.{ℕ}
use native.Mathlib.Omega.{arith}
use Rattle.block.specs.Tab.{byte}
use Rattle.block.specs.Xor.{◌⊕◌}
use Rattle.block.proofs.ArrayBytes.{array_block}
use Rattle.rounds.specs.Steps.{each_times_x}
use Rattle.planes.proofs.Laws.{prepare_plane}
use Rattle.planes.proofs.fn.prepare.each_plane.Goals as goal

pub returns : goal.returns
returns c =
    let x = c.row-x in
    let z = c.row in
    let s = c.captures.s.now in
    let p = c.args.p in
    λ l h.
    ap (λ (r : List ℕ). byte r l)
    (c.xor.ensures
    ∙ ap (λ (u : List ℕ). x.result ⊕ u)
    (c.each_times_x-2.ensures ∙ ap each_times_x (c.each_times_x.ensures ∙ ap each_times_x c.xor-both.ensures)))
    ∙ prepare_plane s x.result z.result p (omega arith) (array_block x.result _ x.type_inv) (array_block z.result _ z.type_inv)
    x.ensures z.ensures l h
