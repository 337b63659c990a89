-- `bits::over_planes` meets its contract: after t turns the planes below t are done, and the others as they came.
-- Assumes nothing.
use mathlib.Core.Path.{◌≡◌, subst, ◌∙◌}
use mathlib.Core.List.{List}
use Prim.Native.Nat.{ℕ, ◌<◌}
use native.Mathlib.Omega.{arith}
use borrow.Author.Rules.{rules}
use lib.ListN.{length}
use Rattle.bits.specs.declared.BitPlanes.{BitPlanes}
use Rattle.bits.specs.Planes.{planes}
use Rattle.bits.proofs.GroupLaws.{done_more, left_more}
use Rattle.bits.proofs.over_planes.Goals as goal

pub loop-t-preserved : goal.loop-t-preserved
loop-t-preserved g c =
    let before : List ℕ = c.args.group.now in
    let group : List ℕ = c.loop-t.group in
    let after : List ℕ = c.put_planes.new.group in
    let t = c.loop-t.t in
    let f = c.args.f in
    let r = c.f.result in
    let h : t < 4 = omega arith in
    let l : length group ≡ 32 = search rules in record {
      done = done_more group after t r h l c.put_planes.ensures (λ u q. goal.F-post g f (planes before u) q) c.loop-t.invariant.done
          (subst (λ (q : BitPlanes). goal.F-post g f q r) (c.planes_at.ensures ∙ c.loop-t.invariant.left t (omega arith) h) c.f.ensures);
      left = left_more group after t r h l c.put_planes.ensures before c.loop-t.invariant.left;
    }
