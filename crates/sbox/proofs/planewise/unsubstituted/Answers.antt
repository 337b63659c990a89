-- `sbox::planewise::unsubstituted` meets its contract: the affine step is undone, and the five parts are the inverse.
-- Assumes nothing.
use mathlib.Core.Path.{refl}
use Rattle.bits.specs.Planes.{words}
use Rattle.sbox.specs.InverseGates.{sums, norms, lows, factors}
use Rattle.sbox.proofs.GateLaws.{five, inv_sub_each}
use Rattle.sbox.proofs.planewise.unsubstituted.Goals as goal

pub returns : goal.returns
returns c =
    let q = c.args.q in
    inv_sub_each (words q) (words c.unaffine.result) (words c.bottom.result) refl refl c.unaffine.ensures
    (five (words c.unaffine.result) (sums c.top-y.result) (norms c.norm.result) (lows c.low_inverse-u.result)
    (factors c.products.result) (words c.bottom.result)
    c.top-y.ensures c.norm.ensures c.low_inverse-u.ensures c.products.ensures c.bottom.ensures)
