-- `field::powers::power` meets its contract. It calls itself with the half of k, so that the measure is k; the halving's laws are in FieldLaws.
-- Assumes nothing.
use mathlib.Core.Path.{sym, ap, ap₂, ◌∙◌}
use Rattle.block.specs.Double.{double}
use Rattle.field.specs.Elements.{product}
use Rattle.field.specs.Elements as elements
use Rattle.field.proofs.FieldLaws.{power_zero, power_even, power_odd}
use Rattle.field.proofs.powers.+power.Goals as goal

pub returns-then-k-eq0 : goal.returns-then-k-eq0
returns-then-k-eq0 t c = sym (ap elements.power c.if-k-eq0.true ∙ power_zero)

pub returns-then-k-eq0-2 : goal.returns-then-k-eq0-2
returns-then-k-eq0-2 t c =
    let h = c.power-half.ensures in
    c.product-square.ensures ∙ ap₂ product h h ∙ power_even c.args.k c.if-k-eq0-2.true

pub returns : goal.returns
returns t c =
    let h = c.power-half.ensures in
    c.doubled.ensures ∙ ap double (c.product-square.ensures ∙ ap₂ product h h) ∙ power_odd c.args.k c.if-k-eq0-2.false
