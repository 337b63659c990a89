-- `unit::last_two` meets its contract: nothing is left, or the two tweaks go by the direction.
-- Assumes nothing.
use mathlib.Core.Path.{◌≡◌, sym, ap, ◌∙◌}
use mathlib.Core.Bool.{Bool, cond}
use mathlib.Core.List.{List}
use mathlib.Core.Logic.{◌⊎◌, ⊎_elim}
use Prim.Native.Nat.{ℕ, ◌<◌}
use native.Mathlib.Omega.{arith}
use Rattle.std.proofs.Common.{rules}
use lib.ListN.{length, take, drop}
use Rattle.block.specs.Double.{double}
use Rattle.aes.specs.Aes.{crypted}
use Rattle.unit.specs.Unit.{stolen}
use Rattle.unit.proofs.Undo.{last_two_lem, none_last}
use Rattle.unit.proofs.last_two.Goals as goal

-- what is left, if it is anything
some : {n : ℕ} → (n ≡ 0) ⊎ ((16 < n) × (n < 32)) → 0 < n → (16 < n) × (n < 32)
some {n} w h = ⊎_elim (λ (e : n ≡ 0). let z : ⊥ = omega arith in absurd z) (λ (k : (16 < n) × (n < 32)). k) w

pub returns-then-is_empty : goal.returns-then-is_empty
returns-then-is_empty c =
    let a = c.args in
    sym (none_last (crypted a.back a.keys.keys a.keys.rounds) a.back a.t a.s.now (search rules))

pub steal-requires : goal.steal-requires
steal-requires c = some c.requires (search rules)

pub returns-then-back : goal.returns-then-back
returns-then-back c =
    let a = c.args in
    let f : List ℕ → List ℕ = crypted a.back a.keys.keys a.keys.rounds in
    let s : List ℕ = a.s.now in
    let h : 0 < length s = search rules in
    c.steal.ensures
    ∙ ap (λ (x : List ℕ). stolen f x a.t (take 16 s) (drop 16 s)) c.doubled-next.ensures
    ∙ ap (λ (b : Bool). stolen f (cond b (double a.t) a.t) (cond b a.t (double a.t)) (take 16 s) (drop 16 s)) (sym c.if-back.true)
    ∙ sym (last_two_lem f a.back a.t s h)

pub steal-requires-2 : goal.steal-requires-2
steal-requires-2 c = some c.requires (search rules)

pub returns : goal.returns
returns c =
    let a = c.args in
    let f : List ℕ → List ℕ = crypted a.back a.keys.keys a.keys.rounds in
    let s : List ℕ = a.s.now in
    let h : 0 < length s = search rules in
    c.steal-2.ensures
    ∙ ap (λ (x : List ℕ). stolen f a.t x (take 16 s) (drop 16 s)) c.doubled-next.ensures
    ∙ ap (λ (b : Bool). stolen f (cond b (double a.t) a.t) (cond b a.t (double a.t)) (take 16 s) (drop 16 s)) (sym c.if-back.false)
    ∙ sym (last_two_lem f a.back a.t s h)
