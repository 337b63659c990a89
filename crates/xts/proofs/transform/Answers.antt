-- `xts::transform` meets its contract: the tweak, then the unit under the first half of the key.
-- Assumes nothing.
use mathlib.Core.Path.{refl, ap₂, ◌∙◌}
use mathlib.Core.List.{List}
use Prim.Native.Nat.{ℕ}
use Rattle.unit.specs.Unit.{xts_unit}
use Rattle.xts.specs.Xts.{Key1, xts}
use Rattle.xts.proofs.KeyLaws.{under}
use Rattle.xts.proofs.transform.Goals as goal

pub returns : goal.returns
unfolding xts
returns c =
    let a = c.args in
    let k : List ℕ = a.key.now in
    let r = c.key1.result in
    c.unit.ensures
    ∙ ap₂ (λ (f : List ℕ → List ℕ) (t : List ℕ). xts_unit f a.back t a.unit.now)
    (under a.back r.keys r.rounds (Key1 k) (Key1 k) refl c.key1.ensures.keys c.key1.ensures.rounds)
    c.tweak-t.ensures
