-- Powers and products, against values computed apart from the definitions: the polynomials multiplied as whole numbers, and the remainder taken after.
-- Assumes nothing.
use Rattle.std.specs.Prelude.{◌≡◌, refl, List, [], ◌∷◌, ◌++◌, ℕ, ◌+◌, ◌*◌, ◌%◌, replicate}
use Rattle.block.specs.Tab.{tab}
use Rattle.block.specs.Xor.{◌⊕◌}
use Rattle.block.specs.Double.{double, doubles}
use Rattle.field.specs.Elements.{power, terms, product}

-- ---- powers: the first, on both sides of a byte's end, and on both sides of the field's, once and twice around

power_0 : power 0 ≡ 1 ∷ replicate 15 0
unfolding double doubles power
power_0 = refl

power_1 : power 1 ≡ 2 ∷ replicate 15 0
unfolding double doubles power
power_1 = refl

power_7 : power 7 ≡ 128 ∷ replicate 15 0
unfolding double doubles power
power_7 = refl

power_8 : power 8 ≡ 0 ∷ 1 ∷ replicate 14 0
unfolding double doubles power
power_8 = refl

power_127 : power 127 ≡ replicate 15 0 ++ (128 ∷ [])
unfolding double doubles power
power_127 = refl

power_128 : power 128 ≡ 135 ∷ replicate 15 0
unfolding double doubles power
power_128 = refl

power_129 : power 129 ≡ 14 ∷ 1 ∷ replicate 14 0
unfolding double doubles power
power_129 = refl

power_255 : power 255 ≡ 73 ∷ 32 ∷ (replicate 13 0 ++ (128 ∷ []))
unfolding double doubles power
power_255 = refl

power_256 : power 256 ≡ 21 ∷ 64 ∷ replicate 14 0
unfolding double doubles power
power_256 = refl

-- ---- products: of two blocks without a pattern, and at the high end of both

L : List ℕ
L = tab 16 (λ i. (200 + 7 * i) % 256)

M : List ℕ
M = tab 16 (λ i. (90 + 11 * i) % 256)

product_L_M : product L M
    ≡ 210 ∷ 206 ∷ 106 ∷ 160 ∷ 206 ∷ 66 ∷ 164 ∷ 81 ∷ 29 ∷ 28 ∷ 15 ∷ 150 ∷ 20 ∷ 136 ∷ 10 ∷ 188 ∷ []
unfolding L M ◌⊕◌ double doubles terms product
product_L_M = refl

product_high : product (replicate 15 0 ++ (192 ∷ [])) (replicate 15 0 ++ (192 ∷ []))
    ≡ 95 ∷ 20 ∷ 0 ∷ 0 ∷ 0 ∷ 0 ∷ 0 ∷ 0 ∷ 0 ∷ 0 ∷ 0 ∷ 0 ∷ 0 ∷ 0 ∷ 0 ∷ 176 ∷ []
unfolding ◌⊕◌ double doubles terms product
product_high = refl

product_power_129 : product (power 129) L
    ≡ 96 ∷ 14 ∷ 143 ∷ 244 ∷ 161 ∷ 195 ∷ 82 ∷ 41 ∷ 252 ∷ 42 ∷ 83 ∷ 216 ∷ 189 ∷ 206 ∷ 142 ∷ 5 ∷ []
unfolding L ◌⊕◌ double doubles power terms product
product_power_129 = refl
