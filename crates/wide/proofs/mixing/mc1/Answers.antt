-- `wide::mixing::mc1` meets its contract: no byte after the full blocks, or some.
-- Assumes nothing.
use mathlib.Core.Path.{◌≡◌, sym, ap, ◌∙◌}
use mathlib.Core.Bool.{Bool, cond}
use mathlib.Core.List.{List}
use Prim.Native.Nat.{ℕ, ◌*◌, ◌<◌}
use native.Mathlib.Omega.{arith}
use lib.ListN.{length, length-drop}
use Rattle.block.specs.Blocks.{full, rest}
use Rattle.aes.specs.Aes.{crypted}
use Rattle.mode.proofs.ShortBlock.{not_short, is_short_lem}
use Rattle.wide.proofs.mixing.mc1.Goals as goal

pub returns-then-s-eq0 : goal.returns-then-s-eq0
returns-then-s-eq0 c =
    let a = c.args in
    let s : List ℕ = a.s.now in
    let n : length (rest s) ≡ 0 = length-drop (full s * 16) s ∙ omega arith in
    ap (λ (t : Bool). cond t (crypted a.back a.keys.keys a.keys.rounds a.mm) a.mm) (sym (not_short (rest s) n))

pub returns : goal.returns
returns c =
    let a = c.args in
    let s : List ℕ = a.s.now in
    let n : 0 < length (rest s) = omega (arith, length-drop (full s * 16) s) in
    c.crypt.ensures ∙ ap (λ (t : Bool). cond t (crypted a.back a.keys.keys a.keys.rounds a.mm) a.mm) (sym (is_short_lem (rest s) n))
