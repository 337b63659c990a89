-- The block of a unit's number: that of the standard's vectors 15 to 18, and the greatest.
-- Assumes nothing.
use Rattle.std.specs.Prelude.{◌≡◌, refl, ◌∷◌, ◌++◌, replicate}
use Rattle.xts.specs.Xts.{number_block}

vector_15 : number_block 0x123456789a ≡ 0x9a ∷ 0x78 ∷ 0x56 ∷ 0x34 ∷ 0x12 ∷ replicate 11 0x00
unfolding number_block
vector_15 = refl

greatest : number_block 0xffffffffffffffff ≡ replicate 8 0xff ++ replicate 8 0x00
unfolding number_block
greatest = refl
