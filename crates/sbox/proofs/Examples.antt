-- Worked examples of FIPS 197, as theorems over the definitions.
-- Assumes nothing.
use Rattle.std.specs.Prelude.{◌≡◌, refl}
use Rattle.sbox.specs.Field.{xtime, ◌•◌}
use Rattle.sbox.specs.Sub.{sub}

-- 4.2: {57} • {83} = {c1}, {57} • {13} = {fe}
product : 0x57 • 0x83 ≡ 0xc1
unfolding ◌•◌
product = refl

product_by_sum : 0x57 • 0x13 ≡ 0xfe
unfolding ◌•◌
product_by_sum = refl

-- 4.2: {57} times x, four times: {ae}, {47}, {8e}, {07}
x_times : xtime (xtime (xtime (xtime 0x57))) ≡ 0x07
x_times = refl

-- 5.1.1: the substitution of {53} is {ed}
sub_53 : sub 0x53 ≡ 0xed
unfolding sub
sub_53 = refl

-- D12 of 01: the substitution of 00 is 63 hex
pub D12 : sub 0x00 ≡ 0x63
unfolding sub
D12 = refl
