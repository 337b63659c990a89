-- `wide::mixing::mix` meets its contract: what the calls ensure, one after the other, is the mixing.
-- Assumes nothing.
use mathlib.Core.Path.{◌≡◌, ap, ◌∙◌}
use mathlib.Core.List.{List}
use Prim.Native.Nat.{ℕ, ◌≤◌}
use native.Mathlib.Omega.{arith}
use lib.ListN.{length, drop}
use Rattle.block.specs.Xor.{◌⊕◌}
use Rattle.aes.specs.Aes.{crypted}
use Rattle.aes.specs.Promise.{length-crypted}
use Rattle.wide.specs.Passes.{total_of}
use Rattle.wide.proofs.WideLaws.{mixing}
use Rattle.wide.proofs.mixing.mix.Goals as goal
use Rattle.wide.proofs.mixing.mix.Goals.{After-short}

-- no call changes the length
short_kept : (c : After-short) → 16 ≤ length c.short.new.s
short_kept c =
    let n : length c.short.new.s ≡ length c.blocks-2.new.s = c.short.auto.s in
    let m : length c.blocks-2.new.s ≡ length c.args.s.now = c.blocks-2.auto.s in
    omega (arith, c.requires)

pub total-requires-2 : goal.total-requires-2
total-requires-2 c = short_kept (goal.at.total-requires-2 c).After-short

pub put-requires : goal.put-requires
put-requires c = short_kept (goal.at.put-requires c).After-short

pub shape_of-s : goal.shape_of-s
shape_of-s c =
    c.put.auto.s ∙ c.short.auto.s ∙ c.blocks-2.auto.s

pub returns : goal.returns
returns c =
    let a = c.args in
    let s : List ℕ = a.s.now in
    let s2 : List ℕ = c.short.new.s in
    let f : List ℕ → List ℕ = crypted a.back a.keys.keys a.keys.rounds in
    let h : 16 ≤ length s = c.requires in
    c.put.ensures
    ∙ mixing f (length-crypted a.back a.keys.keys a.keys.rounds) a.t s h c.xor-mp.result c.crypt-mm.result c.mc1-c1.result c.xor.result
    c.blocks-2.new.s s2 c.xor-2.result
    (c.xor-mp.ensures ∙ ap (λ (x : List ℕ). x ⊕ a.t) (c.total.ensures ∙ ap (λ (x : List ℕ). total_of x (drop 16 s)) c.load.ensures))
    c.crypt-mm.ensures
    c.mc1-c1.ensures
    c.xor.ensures
    c.blocks-2.ensures
    c.short.ensures
    (c.xor-2.ensures ∙ ap (λ (x : List ℕ). x ⊕ a.t) c.total-2.ensures)
