-- `sbox::planewise::substituted` meets its contract: the five parts are the inverse, and the affine step comes after.
-- Assumes nothing.
use mathlib.Core.Path.{refl}
use Rattle.bits.specs.Planes.{words}
use Rattle.sbox.specs.InverseGates.{sums, norms, lows, factors}
use Rattle.sbox.proofs.GateLaws.{five, sub_each}
use Rattle.sbox.proofs.planewise.substituted.Goals as goal

pub returns : goal.returns
returns c =
    let q = c.args.q in
    sub_each (words q) (words c.bottom.result) (words c.affine.result) refl refl
    (five (words q) (sums c.top-y.result) (norms c.norm.result) (lows c.low_inverse-u.result)
    (factors c.products.result) (words c.bottom.result)
    c.top-y.ensures c.norm.ensures c.low_inverse-u.ensures c.products.ensures c.bottom.ensures)
    c.affine.ensures
