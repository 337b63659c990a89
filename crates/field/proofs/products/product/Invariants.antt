-- `field::products::product` meets its contract: after n turns the sum is that of the first n terms, and the doubling at hand the n-th.
-- Assumes nothing.
use Rattle.std.proofs.Common.{◌≡◌}
use Rattle.block.specs.Double.{doubles}
use Rattle.field.specs.Elements.{terms}
use Rattle.field.proofs.products.product.Given as goal

abbrev pub invariant-loop-n : goal.invariant-loop-n
invariant-loop-n l = (l.sum ≡ terms l.n l.a l.initial.m) × (l.m ≡ doubles l.n l.initial.m)
