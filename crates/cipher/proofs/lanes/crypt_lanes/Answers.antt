-- `cipher::lanes::crypt_lanes` meets its contract: the direction picks the case of `crypted`.
-- Assumes nothing.
use mathlib.Core.Path.{sym, ap, ◌∙◌}
use mathlib.Core.Bool.{Bool}
use Rattle.planes.specs.Lanes.{lane}
use Rattle.cipher.specs.Cipher.{crypted}
use Rattle.cipher.proofs.lanes.crypt_lanes.Goals as goal

pub returns-then-back : goal.returns-then-back
returns-then-back c l h =
    let a = c.args in
    c.inverse.ensures l h
    ∙ ap (λ (t : Bool). crypted t a.keys.keys a.keys.rounds (lane a.b.now l)) (sym c.if-back.true)

pub returns-else-back : goal.returns-else-back
returns-else-back c l h =
    let a = c.args in
    c.forward.ensures l h
    ∙ ap (λ (t : Bool). crypted t a.keys.keys a.keys.rounds (lane a.b.now l)) (sym c.if-back.false)
