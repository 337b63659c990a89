-- `sbox::together` meets its contract: after i turns the first 128 i bytes are done, and the others as they came.
-- Assumes nothing.
use mathlib.Core.Path.{◌≡◌, ap, ◌∙◌}
use mathlib.Core.List.{List, ◌++◌, map}
use Prim.Native.Nat.{ℕ, ◌+◌, ◌*◌, ◌-◌, ◌≤◌}
use native.Mathlib.Omega.{arith}
use lib.ListN.{length, take, drop}
use Rattle.sbox.specs.Directions.{directed}
use Rattle.block.proofs.PartLaws.{part_changed}
use Rattle.sbox.proofs.PlaneSub.{part_more}
use Rattle.sbox.proofs.together.Goals as goal

pub loop-i-preserved : goal.loop-i-preserved
loop-i-preserved c =
    let f : ℕ → ℕ = λ x. directed c.args.back x in
    let s₀ : List ℕ = c.args.s.now in
    let s : List ℕ = c.loop-i.s in
    let at : ℕ = 128 * c.loop-i.i in
    let t : List ℕ = c.chunk.new.s in
    let h : at + 128 ≤ length s₀ = omega arith in
    let n : at + 128 - at ≡ 128 = omega arith in
    let e : t ≡ map f (take 128 (drop at s)) = c.chunk.ensures ∙ ap (λ (k : ℕ). map f (take k (drop at s))) n in
    let m : at + 128 ≡ 128 * (c.loop-i.i + 1) = omega arith in
    part_changed at (at + 128) s t (omega arith)
    ∙ part_more f s₀ s at 128 h c.loop-i.invariant t e
    ∙ ap (λ (k : ℕ). take k (map f s₀) ++ drop k s₀) m
