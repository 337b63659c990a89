-- 01, AES: the affine step of the substitution table's rule. That every entry follows the rule, and that the two tables undo each other, is in
-- proofs/RuleLaws.
-- Assumes nothing.
use Rattle.std.specs.Prelude.{◌≡◌, refl, List, [], ◌∷◌, ℕ, ◌+◌, ◌*◌, ◌/◌, ◌%◌, ◌^◌, ◌<◌, ltb}
use Rattle.std.proofs.Common.{ltb→lt}
use Rattle.std.specs.Int.Bits.{bit_xor}
use Rattle.block.specs.Tab.{tab}
use Rattle.block.proofs.Table.{each}
use Rattle.sbox.specs.Field.{inverse}
use Rattle.sbox.specs.Sub.{sub, inv_sub}

-- bit i of a byte, and the byte of 8 bits, the lowest first
abbrev pub bit : ℕ → ℕ → ℕ
bit b i = b / 2 ^ i % 2

abbrev pub of_bits : List ℕ → ℕ
of_bits [] = 0
of_bits (x ∷ xs) = x + 2 * of_bits xs

-- 5.1.1, the affine step: bit i is b_i + b_(i+4) + b_(i+5) + b_(i+6) + b_(i+7) + c_i, places modulo 8, c = {63}
unfoldable pub affine : ℕ → ℕ
affine b =
    of_bits
    (tab 8
    (λ i.
    bit_xor (bit_xor (bit_xor (bit_xor (bit_xor (bit b i) (bit b ((i + 4) % 8))) (bit b ((i + 5) % 8))) (bit b ((i + 6) % 8))) (bit b ((i + 7) % 8)))
    (bit 0x63 i)))

-- 0 is kept by the inverse
pub inverse_zero : inverse 0 ≡ 0
unfolding inverse
inverse_zero = refl

-- what they give is a byte
pub sub_byte : (x : ℕ) → x < 256 → sub x < 256
unfolding sub
sub_byte x h = ltb→lt (sub x) 256 (each (λ x. ltb (sub x) 256) 256 tt x h)

pub inv_sub-byte : (x : ℕ) → x < 256 → inv_sub x < 256
unfolding inv_sub
inv_sub-byte x h = ltb→lt (inv_sub x) 256 (each (λ x. ltb (inv_sub x) 256) 256 tt x h)
