-- What the gates are tested with: the bits of a byte, and the five parts of the inverse one after the other. What they work out, tested for every
-- byte, is in proofs/GateRuleLaws.
-- Assumes nothing.
use Rattle.std.specs.Prelude.{List, [], ◌∷◌, ◌++◌, ℕ, zero, suc, ◌/◌, ◌%◌}
use Rattle.sbox.specs.Gates.{stage}
use Rattle.sbox.specs.InverseGates.{top_gates, top_outs, norm_gates, norm_outs, low_gates, low_outs, product_gates, product_outs, bottom_gates, bottom_outs}

-- the first n bits of a number, the lowest first
abbrev pub bits_of : ℕ → ℕ → List ℕ
bits_of zero v = []
bits_of (suc n) v = v % 2 ∷ bits_of n (v / 2)

-- the five parts of the inverse, from the sums s on, and all of them
abbrev pub from_sums : List ℕ → List ℕ
from_sums s = stage bottom_gates bottom_outs (stage product_gates product_outs (stage low_gates low_outs (stage norm_gates norm_outs s) ++ s))

unfoldable pub inverted : List ℕ → List ℕ
inverted b = from_sums (stage top_gates top_outs b)
