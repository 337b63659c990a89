-- `cipher::crypt` meets its contract: the direction picks the case of `crypted`.
-- Assumes nothing.
use mathlib.Core.Path.{sym, ap, ◌∙◌}
use mathlib.Core.Bool.{Bool}
use Rattle.cipher.specs.Cipher.{crypted}
use Rattle.cipher.proofs.crypt.Goals as goal

pub returns-then-back : goal.returns-then-back
returns-then-back c =
    let a = c.args in
    c.inverse.ensures ∙ ap (λ (t : Bool). crypted t a.keys.keys a.keys.rounds a.b) (sym c.if-back.true)

pub returns-else-back : goal.returns-else-back
returns-else-back c =
    let a = c.args in
    c.forward.ensures ∙ ap (λ (t : Bool). crypted t a.keys.keys a.keys.rounds a.b) (sym c.if-back.false)
