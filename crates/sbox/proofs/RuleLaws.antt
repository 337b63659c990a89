-- 01, AES: the substitution table's rule, for every entry, and that the two tables undo each other.
-- Assumes nothing.
use Rattle.std.specs.Prelude.{◌≡◌, ℕ, ◌<◌, min}
use Rattle.std.proofs.Common.{◌∙◌, arith}
use Rattle.block.proofs.Table.{agree}
use Rattle.sbox.specs.Field.{◌•◌, inverse}
use Rattle.sbox.specs.Sub.{sub, inv_sub}
use Rattle.sbox.specs.Rule.{affine}

-- the rule, for every entry of the table: the inverse in the field, 0 kept, then the affine step
pub sub_rule : (x : ℕ) → x < 256 → sub x ≡ affine (inverse x)
unfolding sub inverse affine
sub_rule = agree (λ x. sub x) (λ x. affine (inverse x)) 256 tt

-- `inverse` is the inverse: times the byte it is 1 (that 0 is kept is `inverse_zero` of specs/Rule)
pub inverse_rule : (x : ℕ) → 0 < x → x < 256 → x • inverse x ≡ 1
unfolding ◌•◌ inverse
inverse_rule x h k = agree (λ x. x • inverse x) (λ x. min x 1) 256 tt x k ∙ omega arith

-- the two tables undo each other
pub inv_sub-sub : (x : ℕ) → x < 256 → inv_sub (sub x) ≡ x
unfolding sub inv_sub
inv_sub-sub = agree (λ x. inv_sub (sub x)) (λ x. x) 256 tt

pub sub-inv_sub : (x : ℕ) → x < 256 → sub (inv_sub x) ≡ x
unfolding sub inv_sub
sub-inv_sub = agree (λ x. sub (inv_sub x)) (λ x. x) 256 tt
