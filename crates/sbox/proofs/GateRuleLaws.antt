-- What the gates work out, tested for every byte: the inverse in the field, the affine step, and the step undone.
-- Assumes nothing.
use Rattle.std.specs.Prelude.{◌≡◌, ◌∷◌, ℕ, ◌<◌}
use Rattle.block.proofs.Table.{agree}
use Rattle.sbox.specs.Field.{inverse}
use Rattle.sbox.specs.Rule.{of_bits, affine}
use Rattle.sbox.specs.Sub.{inv_sub}
use Rattle.sbox.specs.Gates.{stage}
use Rattle.sbox.specs.AffineGates.{affine_gates, affine_outs, unaffine_gates, unaffine_outs}
use Rattle.sbox.specs.GateRule.{bits_of, inverted}

pub inverse_gates : (x : ℕ) → x < 256 → of_bits (inverted (bits_of 8 x)) ≡ inverse x
unfolding inverted stage inverse
inverse_gates = agree (λ x. of_bits (inverted (bits_of 8 x))) (λ x. inverse x) 256 tt

pub affine_gates_lem : (x : ℕ) → x < 256 → of_bits (stage affine_gates affine_outs (1 ∷ bits_of 8 x)) ≡ affine x
unfolding stage affine
affine_gates_lem = agree (λ x. of_bits (stage affine_gates affine_outs (1 ∷ bits_of 8 x))) (λ x. affine x) 256 tt

pub unaffine_gates_lem : (x : ℕ) → x < 256 → inverse (of_bits (stage unaffine_gates unaffine_outs (1 ∷ bits_of 8 x))) ≡ inv_sub x
unfolding stage inverse inv_sub
unaffine_gates_lem = agree (λ x. inverse (of_bits (stage unaffine_gates unaffine_outs (1 ∷ bits_of 8 x)))) (λ x. inv_sub x) 256 tt
