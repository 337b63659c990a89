-- `planes::strided` meets its contract: after i turns the first i bytes are those sixteen apart.
-- Assumes nothing.
use mathlib.Core.Path.{◌≡◌, refl, sym, ap, ◌∙◌}
use mathlib.Core.Bool.{Bool, cond}
use mathlib.Core.List.{List, ◌++◌}
use Prim.Native.Nat.{ℕ, ◌+◌, ◌*◌}
use native.Mathlib.Omega.{arith}
use borrow.Author.Tests.{lt-ltb}
use lib.Dec.{ltb}
use lib.ListN.{take, drop, set, replicate}
use Rattle.block.specs.Tab.{tab, byte}
use Rattle.block.proofs.TabLaws.{get_or-tab}
use Rattle.block.proofs.BlockLaws.{fill_turn}
use Rattle.planes.proofs.Laws.{strided_done}
use Rattle.planes.proofs.strided.Goals as goal

pub loop-i-init : goal.loop-i-init
loop-i-init c = refl

pub loop-i-preserved : goal.loop-i-preserved
loop-i-preserved c =
    let a = c.args in
    let i = c.loop-i.i in
    let f : ℕ → ℕ = λ j. byte a.s.now (a.at + 16 * j) in
    let g : ℕ → ℕ = λ j. cond (ltb j a.n) (f j) 0 in
    ap (λ (r : List ℕ). set r i (f i)) c.loop-i.invariant
    ∙ fill_turn (tab 16 g) (replicate 16 0) i (f i) (omega arith) (omega arith)
    (ap (λ (t : Bool). cond t (f i) 0) (sym (lt-ltb i a.n (omega arith))) ∙ sym (get_or-tab 16 g i 0 (omega arith)))

pub returns : goal.returns
returns c =
    let a = c.args in
    let f : ℕ → ℕ = λ j. byte a.s.now (a.at + 16 * j) in
    let e : c.loop-i.i ≡ a.n = omega arith in
    c.loop-i.invariant
    ∙ ap (λ (i : ℕ). take i (tab 16 (λ j. cond (ltb j a.n) (f j) 0)) ++ drop i (replicate 16 0)) e
    ∙ strided_done f a.n
