-- A column times a fixed polynomial: sums of four products, one product after another, and how the code makes them from powers of
-- x and turned columns.
-- Assumes nothing.
use mathlib.Core.Path.{◌≡◌, refl, sym, ap, ap₂, ◌∙◌}
use mathlib.Core.List.{List, [], ◌∷◌}
use Prim.Native.Nat.{ℕ, ◌+◌, ◌*◌, ◌/◌, ◌%◌, ◌<◌}
use lib.ListN.{length}
use lib.Bits.{bit_xor, xor_comm, xor_zero_r}
use Rattle.block.specs.Tab.{tab, byte}
use Rattle.block.specs.Xor.{◌⊕◌}
use Rattle.block.specs.Bytes.{Block}
use Rattle.block.proofs.Table.{agree}
use Rattle.block.proofs.TabLaws.{tab_ext, tab_eta, block_tab}
use Rattle.block.proofs.XorLaws.{xor_byte, xor_assoc, xor_exchange, ⊕_tab}
use Rattle.sbox.specs.Field.{xtime, ◌•◌}
use Rattle.sbox.proofs.FieldLaws.{•-byte, •-sum}
use Rattle.rounds.specs.Steps.{at, columns_times, columns_turned, each_times_x, mix_columns, inv_mix_columns}

-- ---- sums of four

abbrev pub sum : ℕ → ℕ → ℕ → ℕ → ℕ
sum a b c d = bit_xor a (bit_xor b (bit_xor c d))

sum_byte : (a b c d : ℕ) → a < 256 → b < 256 → c < 256 → d < 256 → sum a b c d < 256
sum_byte a b c d ha hb hc hd = xor_byte a (bit_xor b (bit_xor c d)) ha (xor_byte b (bit_xor c d) hb (xor_byte c d hc hd))

-- begun one place later
sum_turn : (a b c d : ℕ) → sum a b c d ≡ sum b c d a
sum_turn a b c d =
    xor_comm a (bit_xor b (bit_xor c d)) ∙ xor_assoc b (bit_xor c d) a ∙ ap (λ (x : ℕ). bit_xor b x) (xor_assoc c d a)

-- four sums of four, summed the other way
sum_add : (a b c d e f g h : ℕ) → bit_xor (sum a b c d) (sum e f g h) ≡ sum (bit_xor a e) (bit_xor b f) (bit_xor c g) (bit_xor d h)
sum_add a b c d e f g h =
    xor_exchange a (bit_xor b (bit_xor c d)) e (bit_xor f (bit_xor g h))
    ∙ ap (λ (x : ℕ). bit_xor (bit_xor a e) x)
    (xor_exchange b (bit_xor c d) f (bit_xor g h) ∙ ap (λ (x : ℕ). bit_xor (bit_xor b f) x) (xor_exchange c d g h))

sum_across : (a0 a1 a2 a3 b0 b1 b2 b3 c0 c1 c2 c3 d0 d1 d2 d3 : ℕ)
    → sum (sum a0 a1 a2 a3) (sum b0 b1 b2 b3) (sum c0 c1 c2 c3) (sum d0 d1 d2 d3)
    ≡ sum (sum a0 b0 c0 d0) (sum a1 b1 c1 d1) (sum a2 b2 c2 d2) (sum a3 b3 c3 d3)
sum_across a0 a1 a2 a3 b0 b1 b2 b3 c0 c1 c2 c3 d0 d1 d2 d3 =
    ap (λ (x : ℕ). bit_xor (sum a0 a1 a2 a3) (bit_xor (sum b0 b1 b2 b3) x)) (sum_add c0 c1 c2 c3 d0 d1 d2 d3)
    ∙ ap (λ (x : ℕ). bit_xor (sum a0 a1 a2 a3) x) (sum_add b0 b1 b2 b3 (bit_xor c0 d0) (bit_xor c1 d1) (bit_xor c2 d2) (bit_xor c3 d3))
    ∙ sum_add a0 a1 a2 a3 (bit_xor b0 (bit_xor c0 d0)) (bit_xor b1 (bit_xor c1 d1)) (bit_xor b2 (bit_xor c2 d2)) (bit_xor b3 (bit_xor c3 d3))

sum_of : {a a' b b' c c' d d' : ℕ} → a ≡ a' → b ≡ b' → c ≡ c' → d ≡ d' → sum a b c d ≡ sum a' b' c' d'
sum_of p q r s = ap₂ (λ (x y : ℕ). bit_xor x y) p (ap₂ (λ (x y : ℕ). bit_xor x y) q (ap₂ (λ (x y : ℕ). bit_xor x y) r s))

•-sum4 : (k a b c d : ℕ) → a < 256 → b < 256 → c < 256 → d < 256 → k • sum a b c d ≡ sum (k • a) (k • b) (k • c) (k • d)
•-sum4 k a b c d ha hb hc hd =
    •-sum k a (bit_xor b (bit_xor c d)) ha (xor_byte b (bit_xor c d) hb (xor_byte c d hc hd))
    ∙ ap (λ (x : ℕ). bit_xor (k • a) x)
    (•-sum k b (bit_xor c d) hb (xor_byte c d hc hd) ∙ ap (λ (x : ℕ). bit_xor (k • b) x) (•-sum k c d hc hd))

-- ---- a column times (q0, q1, q2, q3), then times (p0, p1, p2, p3), is times (r0, r1, r2, r3), where it is so of each byte

module _
    (p0 p1 p2 p3 q0 q1 q2 q3 r0 r1 r2 r3 : ℕ)
    (own : (x : ℕ) → x < 256 → sum (p0 • (q0 • x)) (p1 • (q3 • x)) (p2 • (q2 • x)) (p3 • (q1 • x)) ≡ r0 • x)
    (next : (x : ℕ) → x < 256 → sum (p0 • (q1 • x)) (p1 • (q0 • x)) (p2 • (q3 • x)) (p3 • (q2 • x)) ≡ r1 • x)
    (after : (x : ℕ) → x < 256 → sum (p0 • (q2 • x)) (p1 • (q1 • x)) (p2 • (q0 • x)) (p3 • (q3 • x)) ≡ r2 • x)
    (last : (x : ℕ) → x < 256 → sum (p0 • (q3 • x)) (p1 • (q2 • x)) (p2 • (q1 • x)) (p3 • (q0 • x)) ≡ r3 • x)
  where
    row_product : (a b c d : ℕ) → a < 256 → b < 256 → c < 256 → d < 256
        → sum (p0 • sum (q0 • a) (q1 • b) (q2 • c) (q3 • d)) (p1 • sum (q0 • b) (q1 • c) (q2 • d) (q3 • a))
        (p2 • sum (q0 • c) (q1 • d) (q2 • a) (q3 • b)) (p3 • sum (q0 • d) (q1 • a) (q2 • b) (q3 • c))
        ≡ sum (r0 • a) (r1 • b) (r2 • c) (r3 • d)
    row_product a b c d ha hb hc hd =
        let first : ℕ = sum (p0 • (q0 • a)) (p0 • (q1 • b)) (p0 • (q2 • c)) (p0 • (q3 • d)) in
        let same : first ≡ first = refl in
        sum_of (row p0 a b c d ha hb hc hd) (row p1 b c d a hb hc hd ha) (row p2 c d a b hc hd ha hb) (row p3 d a b c hd ha hb hc)
        ∙ sum_of same
        (sym (sum_turn (p1 • (q3 • a)) (p1 • (q0 • b)) (p1 • (q1 • c)) (p1 • (q2 • d))))
        (sum_turn (p2 • (q0 • c)) (p2 • (q1 • d)) (p2 • (q2 • a)) (p2 • (q3 • b))
        ∙ sum_turn (p2 • (q1 • d)) (p2 • (q2 • a)) (p2 • (q3 • b)) (p2 • (q0 • c)))
        (sum_turn (p3 • (q0 • d)) (p3 • (q1 • a)) (p3 • (q2 • b)) (p3 • (q3 • c)))
        ∙ sum_across (p0 • (q0 • a)) (p0 • (q1 • b)) (p0 • (q2 • c)) (p0 • (q3 • d))
        (p1 • (q3 • a)) (p1 • (q0 • b)) (p1 • (q1 • c)) (p1 • (q2 • d))
        (p2 • (q2 • a)) (p2 • (q3 • b)) (p2 • (q0 • c)) (p2 • (q1 • d))
        (p3 • (q1 • a)) (p3 • (q2 • b)) (p3 • (q3 • c)) (p3 • (q0 • d))
        ∙ sum_of (own a ha) (next b hb) (after c hc) (last d hd)
      where
        row : (p a b c d : ℕ) → a < 256 → b < 256 → c < 256 → d < 256
            → p • sum (q0 • a) (q1 • b) (q2 • c) (q3 • d) ≡ sum (p • (q0 • a)) (p • (q1 • b)) (p • (q2 • c)) (p • (q3 • d))
        row p a b c d ha hb hc hd = •-sum4 p (q0 • a) (q1 • b) (q2 • c) (q3 • d) (•-byte q0 a ha) (•-byte q1 b hb) (•-byte q2 c hc) (•-byte q3 d hd)

    pub columns_product : (s : List ℕ) → Block s → columns_times p0 p1 p2 p3 (columns_times q0 q1 q2 q3 s) ≡ columns_times r0 r1 r2 r3 s
    unfolding columns_times
    columns_product s b =
        λ i.
        there 0 1 2 3 i
        ∷ there 1 2 3 0 i
        ∷ there 2 3 0 1 i
        ∷ there 3 0 1 2 i
        ∷ there 4 5 6 7 i
        ∷ there 5 6 7 4 i
        ∷ there 6 7 4 5 i
        ∷ there 7 4 5 6 i
        ∷ there 8 9 10 11 i
        ∷ there 9 10 11 8 i
        ∷ there 10 11 8 9 i
        ∷ there 11 8 9 10 i
        ∷ there 12 13 14 15 i
        ∷ there 13 14 15 12 i
        ∷ there 14 15 12 13 i
        ∷ there 15 12 13 14 i
        ∷ []
      where
        there : (j k l m : ℕ)
            → sum (p0 • sum (q0 • byte s j) (q1 • byte s k) (q2 • byte s l) (q3 • byte s m))
            (p1 • sum (q0 • byte s k) (q1 • byte s l) (q2 • byte s m) (q3 • byte s j))
            (p2 • sum (q0 • byte s l) (q1 • byte s m) (q2 • byte s j) (q3 • byte s k))
            (p3 • sum (q0 • byte s m) (q1 • byte s j) (q2 • byte s k) (q3 • byte s l))
            ≡ sum (r0 • byte s j) (r1 • byte s k) (r2 • byte s l) (r3 • byte s m)
        there j k l m =
            row_product (byte s j) (byte s k) (byte s l) (byte s m) (b.bytes.below j) (b.bytes.below k) (b.bytes.below l) (b.bytes.below m)

pub block_columns_times : (p0 p1 p2 p3 : ℕ) {s : List ℕ} → Block s → Block (columns_times p0 p1 p2 p3 s)
unfolding columns_times
block_columns_times p0 p1 p2 p3 {s} b =
    block_tab
    (λ i. sum (p0 • at s (i % 4) (i / 4)) (p1 • at s ((i % 4 + 1) % 4) (i / 4)) (p2 • at s ((i % 4 + 2) % 4) (i / 4)) (p3 • at s ((i % 4 + 3) % 4) (i / 4)))
    (λ i h.
    sum_byte (p0 • at s (i % 4) (i / 4)) (p1 • at s ((i % 4 + 1) % 4) (i / 4)) (p2 • at s ((i % 4 + 2) % 4) (i / 4)) (p3 • at s ((i % 4 + 3) % 4) (i / 4))
    (product p0 (i % 4 + 4 * (i / 4)))
    (product p1 ((i % 4 + 1) % 4 + 4 * (i / 4)))
    (product p2 ((i % 4 + 2) % 4 + 4 * (i / 4)))
    (product p3 ((i % 4 + 3) % 4 + 4 * (i / 4))))
  where
    product : (k j : ℕ) → k • byte s j < 256
    product k j = •-byte k (byte s j) (b.bytes.below j)

-- what the checker computes of one byte's four products
abbrev pub four : ℕ → ℕ → ℕ → ℕ → ℕ → ℕ → ℕ → ℕ → ℕ → ℕ
four a b c d e f g h x = sum (a • (e • x)) (b • (f • x)) (c • (g • x)) (d • (h • x))

-- times (1, 0, 0, 0) nothing changes
pub columns_one : (s : List ℕ) → Block s → columns_times 1 0 0 0 s ≡ s
unfolding columns_times ◌•◌
columns_one s b = tab_ext 16 (λ i. bit_xor (byte s i) 0) (λ i. byte s i) (λ i h. xor_zero_r (byte s i)) ∙ tab_eta 16 s 0 b.size

-- ---- as the code makes them

-- MixColumns: 02 is x, 03 is x and 1, and the row k below is a column turned k times
pub mix_by_turning : (s x2 last : List ℕ) → length s ≡ 16 → x2 ≡ each_times_x s → last ≡ s ⊕ columns_turned s
    → x2 ⊕ columns_turned (x2 ⊕ s ⊕ columns_turned last) ≡ mix_columns s
unfolding mix_columns columns_times ◌•◌
mix_by_turning s x2 last h e f =
    let x : List ℕ = each_times_x s in
    let l : List ℕ = tab 16 (λ i. bit_xor (byte s i) (byte (columns_turned s) i)) in
    let d : List ℕ = tab 16 (λ i. bit_xor (byte x i) (byte s i)) in
    let t : List ℕ = tab 16 (λ i. bit_xor (byte d i) (byte (columns_turned l) i)) in
    ap₂ (λ (u v : List ℕ). u ⊕ columns_turned (u ⊕ s ⊕ columns_turned v)) e (f ∙ ⊕_tab 16 s (columns_turned s) h refl)
    ∙ ap (λ (u : List ℕ). x ⊕ columns_turned (u ⊕ columns_turned l)) (⊕_tab 16 x s refl h)
    ∙ ap (λ (u : List ℕ). x ⊕ columns_turned u) (⊕_tab 16 d (columns_turned l) refl refl)
    ∙ ⊕_tab 16 x (columns_turned t) refl refl

-- times (05, 00, 04, 00): the byte, and 04 of its sum with the one two rows below
pub five_and_four : (x y u v : ℕ) → x < 256 → y < 256 → bit_xor x (xtime (xtime (bit_xor x y))) ≡ sum (5 • x) (0 • u) (4 • y) (0 • v)
unfolding ◌•◌
five_and_four x y u v h k =
    ap (λ (z : ℕ). bit_xor x z) (•-sum 4 x y h k)
    ∙ sym (xor_assoc x (4 • x) (4 • y))
    ∙ ap (λ (z : ℕ). bit_xor z (4 • y)) (xor_comm x (4 • x))
    ∙ ap (λ (z : ℕ). bit_xor (5 • x) z) (sym (xor_zero_r (4 • y)))

pub prepared : (s both x4 : List ℕ) → Block s → both ≡ s ⊕ columns_turned (columns_turned s) → x4 ≡ each_times_x (each_times_x both)
    → s ⊕ x4 ≡ columns_times 5 0 4 0 s
unfolding columns_times
prepared s both x4 b e f =
    let t : List ℕ = columns_turned (columns_turned s) in
    let both' : List ℕ = tab 16 (λ i. bit_xor (byte s i) (byte t i)) in
    ap (λ (u : List ℕ). s ⊕ u) (f ∙ ap (λ (u : List ℕ). each_times_x (each_times_x u)) (e ∙ ⊕_tab 16 s t b.size refl))
    ∙ ⊕_tab 16 s (each_times_x (each_times_x both')) b.size refl
    ∙ tab_ext 16
    (λ i. bit_xor (at s (i % 4) (i / 4)) (xtime (xtime (bit_xor (at s (i % 4) (i / 4)) (at s ((i % 4 + 2) % 4) (i / 4))))))
    (λ i. sum (5 • at s (i % 4) (i / 4)) (0 • at s ((i % 4 + 1) % 4) (i / 4)) (4 • at s ((i % 4 + 2) % 4) (i / 4)) (0 • at s ((i % 4 + 3) % 4) (i / 4)))
    (λ i h.
    five_and_four (at s (i % 4) (i / 4)) (at s ((i % 4 + 2) % 4) (i / 4)) (at s ((i % 4 + 1) % 4) (i / 4)) (at s ((i % 4 + 3) % 4) (i / 4))
    (b.bytes.below (i % 4 + 4 * (i / 4))) (b.bytes.below ((i % 4 + 2) % 4 + 4 * (i / 4))))

-- (0e, 0b, 0d, 09) is (02, 03, 01, 01) times (05, 00, 04, 00)
pub inv_mix_by_mix : (s : List ℕ) → Block s → mix_columns (columns_times 5 0 4 0 s) ≡ inv_mix_columns s
unfolding mix_columns inv_mix_columns ◌•◌
inv_mix_by_mix s b =
    columns_product 0x02 0x03 0x01 0x01 5 0 4 0 0x0e 0x0b 0x0d 0x09
    (agree (four 0x02 0x03 0x01 0x01 5 0 4 0) (λ x. 0x0e • x) 256 tt)
    (agree (four 0x02 0x03 0x01 0x01 0 5 0 4) (λ x. 0x0b • x) 256 tt)
    (agree (four 0x02 0x03 0x01 0x01 4 0 5 0) (λ x. 0x0d • x) 256 tt)
    (agree (four 0x02 0x03 0x01 0x01 0 4 0 5) (λ x. 0x09 • x) 256 tt)
    s b
