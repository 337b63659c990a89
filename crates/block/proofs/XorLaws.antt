-- Laws of xor, of numbers and of lists.
-- Assumes nothing.
use Rattle.std.proofs.Common.{◌≡◌, ℕ, zero, suc, ◌+◌, ◌*◌, ◌/◌, ◌%◌, ◌<◌, ◌≤◌, List, [], ◌∷◌, length, get_or, replicate, sym, refl, ap, ◌∙◌, ap₂}
use Rattle.std.proofs.Common.{le_of_suc-le-suc, not-suc-le-zero, mod-lt, zero-mul, arith, lit<}
use native.Mathlib.Nat.{suc_inj}
use lib.Arith.{bin_ind}
use lib.Bits.{bit_xor, differ, xor_step, xor_shr, xor_mod, xor_comm, xor_self, xor_zero_r, xor_lt}
use Rattle.block.specs.Xor.{◌⊕◌}
use Rattle.block.specs.Bytes.{Bytes, Block}
use Rattle.block.specs.Tab.{tab, byte}
use Rattle.block.proofs.TabLaws.{tab_ext, tab_eta}

-- ---- of numbers

bit_assoc : (x y z : ℕ) → x < 2 → y < 2 → z < 2 → differ (bit_xor x y) z ≡ differ x (bit_xor y z)
bit_assoc zero zero zero a b c = refl
bit_assoc zero zero (suc zero) a b c = refl
bit_assoc zero (suc zero) zero a b c = refl
bit_assoc zero (suc zero) (suc zero) a b c = refl
bit_assoc (suc zero) zero zero a b c = refl
bit_assoc (suc zero) zero (suc zero) a b c = refl
bit_assoc (suc zero) (suc zero) zero a b c = refl
bit_assoc (suc zero) (suc zero) (suc zero) a b c = refl
bit_assoc zero zero (suc (suc z)) a b c = omega arith
bit_assoc zero (suc zero) (suc (suc z)) a b c = omega arith
bit_assoc (suc zero) zero (suc (suc z)) a b c = omega arith
bit_assoc (suc zero) (suc zero) (suc (suc z)) a b c = omega arith
bit_assoc zero (suc (suc y)) z a b c = omega arith
bit_assoc (suc zero) (suc (suc y)) z a b c = omega arith
bit_assoc (suc (suc x)) y z a b c = omega arith

pub xor_assoc : (a b c : ℕ) → bit_xor (bit_xor a b) c ≡ bit_xor a (bit_xor b c)
xor_assoc = bin_ind (λ (a : ℕ). (b c : ℕ) → bit_xor (bit_xor a b) c ≡ bit_xor a (bit_xor b c)) (λ b c. refl) step
  where
    -- the number whose half and last digit are these
    digits : {h h' d d' : ℕ} → h ≡ h' → d ≡ d' → h * 2 + d ≡ h' * 2 + d'
    digits p q = ap₂ (λ (h d : ℕ). h * 2 + d) p q

    step : (a : ℕ) → ((b c : ℕ) → bit_xor (bit_xor (a / 2) b) c ≡ bit_xor (a / 2) (bit_xor b c)) → (b c : ℕ) → bit_xor (bit_xor a b) c ≡ bit_xor a (bit_xor b c)
    step a ih b c =
        xor_step (bit_xor a b) c
        ∙ digits
        (ap (λ (h : ℕ). bit_xor h (c / 2)) (xor_shr a b 1) ∙ ih (b / 2) (c / 2) ∙ ap (λ (h : ℕ). bit_xor (a / 2) h) (sym (xor_shr b c 1)))
        (ap (λ (d : ℕ). differ d (c % 2)) (xor_mod a b 1)
        ∙ bit_assoc (a % 2) (b % 2) (c % 2) (mod-lt a (lit< tt)) (mod-lt b (lit< tt)) (mod-lt c (lit< tt))
        ∙ ap (λ (d : ℕ). differ (a % 2) d) (sym (xor_mod b c 1)))
        ∙ sym (xor_step a (bit_xor b c))

pub xor_undo : (a b : ℕ) → bit_xor (bit_xor a b) b ≡ a
xor_undo a b = xor_assoc a b b ∙ ap (λ (x : ℕ). bit_xor a x) (xor_self b) ∙ xor_zero_r a

-- two sums of two, summed the other way
pub xor_exchange : (a b c d : ℕ) → bit_xor (bit_xor a b) (bit_xor c d) ≡ bit_xor (bit_xor a c) (bit_xor b d)
xor_exchange a b c d =
    xor_assoc a b (bit_xor c d)
    ∙ ap (λ (x : ℕ). bit_xor a x) (sym (xor_assoc b c d) ∙ ap (λ (x : ℕ). bit_xor x d) (xor_comm b c) ∙ xor_assoc c b d)
    ∙ sym (xor_assoc a c (bit_xor b d))

-- of two bits, each times x
pub bits_times : (p q x : ℕ) → p < 2 → q < 2 → bit_xor p q * x ≡ bit_xor (p * x) (q * x)
bits_times zero zero x h k = zero-mul x ∙ sym (xor_self (0 * x))
bits_times zero (suc zero) x h k = sym (ap (λ (n : ℕ). bit_xor n (1 * x)) (zero-mul x))
bits_times (suc zero) zero x h k = sym (ap (λ (n : ℕ). bit_xor (1 * x) n) (zero-mul x) ∙ xor_zero_r (1 * x))
bits_times (suc zero) (suc zero) x h k = zero-mul x ∙ sym (xor_self (1 * x))
bits_times zero (suc (suc q)) x h k = let z : ⊥ = omega arith in absurd z
bits_times (suc zero) (suc (suc q)) x h k = let z : ⊥ = omega arith in absurd z
bits_times (suc (suc p)) q x h k = let z : ⊥ = omega arith in absurd z

pub xor_byte : (a b : ℕ) → a < 256 → b < 256 → bit_xor a b < 256
xor_byte a b h k = xor_lt 8 a b h k

-- ---- of lists

pub length_⊕ : (a b : List ℕ) → length (a ⊕ b) ≡ length a
unfolding ◌⊕◌
length_⊕ [] b = refl
length_⊕ (x ∷ a) [] = refl
length_⊕ (x ∷ a) (y ∷ b) = ap suc (length_⊕ a b)

pub ⊕_undo : (a b : List ℕ) → a ⊕ b ⊕ b ≡ a
unfolding ◌⊕◌
⊕_undo [] b = refl
⊕_undo (x ∷ a) [] = refl
⊕_undo (x ∷ a) (y ∷ b) = ap₂ (λ (h : ℕ) (t : List ℕ). h ∷ t) (xor_undo x y) (⊕_undo a b)

pub ⊕_comm : (a b : List ℕ) → length a ≡ length b → a ⊕ b ≡ b ⊕ a
unfolding ◌⊕◌
⊕_comm [] [] h = refl
⊕_comm [] (y ∷ b) h = let z : ⊥ = omega arith in absurd z
⊕_comm (x ∷ a) [] h = let z : ⊥ = omega arith in absurd z
⊕_comm (x ∷ a) (y ∷ b) h = ap₂ (λ (h : ℕ) (t : List ℕ). h ∷ t) (xor_comm x y) (⊕_comm a b (suc_inj h))

pub ⊕_assoc : (a b c : List ℕ) → length a ≤ length b → a ⊕ b ⊕ c ≡ a ⊕ (b ⊕ c)
unfolding ◌⊕◌
⊕_assoc [] b c h = refl
⊕_assoc (x ∷ a) [] c h = absurd (not-suc-le-zero h)
⊕_assoc (x ∷ a) (y ∷ b) [] h = refl
⊕_assoc (x ∷ a) (y ∷ b) (z ∷ c) h = ap₂ (λ (h : ℕ) (t : List ℕ). h ∷ t) (xor_assoc x y z) (⊕_assoc a b c (le_of_suc-le-suc h))

pub ⊕_zero : (a : List ℕ) (n : ℕ) → a ⊕ replicate n 0 ≡ a
unfolding ◌⊕◌
⊕_zero [] n = refl
⊕_zero (x ∷ a) zero = refl
⊕_zero (x ∷ a) (suc n) = ap₂ (λ (h : ℕ) (t : List ℕ). h ∷ t) (xor_zero_r x) (⊕_zero a n)

pub get_or-⊕ : (a b : List ℕ) (i : ℕ) → length a ≡ length b → get_or (a ⊕ b) i 0 ≡ bit_xor (get_or a i 0) (get_or b i 0)
unfolding ◌⊕◌
get_or-⊕ [] [] i h = refl
get_or-⊕ [] (y ∷ b) i h = omega arith
get_or-⊕ (x ∷ a) [] i h = omega arith
get_or-⊕ (x ∷ a) (y ∷ b) zero h = refl
get_or-⊕ (x ∷ a) (y ∷ b) (suc i) h = get_or-⊕ a b i (suc_inj h)

-- and where the left side is the shorter, within it
pub get_or-⊕_below : (a b : List ℕ) (i : ℕ) → i < length a → i < length b → get_or (a ⊕ b) i 0 ≡ bit_xor (get_or a i 0) (get_or b i 0)
unfolding ◌⊕◌
get_or-⊕_below [] b i h k = absurd (not-suc-le-zero h)
get_or-⊕_below (x ∷ a) [] i h k = absurd (not-suc-le-zero k)
get_or-⊕_below (x ∷ a) (y ∷ b) zero h k = refl
get_or-⊕_below (x ∷ a) (y ∷ b) (suc i) h k = get_or-⊕_below a b i (le_of_suc-le-suc h) (le_of_suc-le-suc k)

pub bytes_⊕ : (a b : List ℕ) → Bytes a → Bytes b → Bytes (a ⊕ b)
unfolding ◌⊕◌
bytes_⊕ a b h k = record { below = go a b h.below k.below }
  where
    go : (a b : List ℕ) → ((i : ℕ) → get_or a i 0 < 256) → ((i : ℕ) → get_or b i 0 < 256) → (i : ℕ) → get_or (a ⊕ b) i 0 < 256
    go [] b h k i = lit< tt
    go (x ∷ a) [] h k i = h i
    go (x ∷ a) (y ∷ b) h k zero = xor_byte x y (h zero) (k zero)
    go (x ∷ a) (y ∷ b) h k (suc i) = go a b (λ j. h (suc j)) (λ j. k (suc j)) i

pub block_⊕ : {a b : List ℕ} → Block a → Block b → Block (a ⊕ b)
block_⊕ {a} {b} h k = record { size = length_⊕ a b ∙ h.size; bytes = bytes_⊕ a b h.bytes k.bytes }

-- two sums of two, summed the other way
pub ⊕_exchange : {a b c d : List ℕ} → Block a → Block b → Block c → Block d → (a ⊕ b) ⊕ (c ⊕ d) ≡ (a ⊕ c) ⊕ (b ⊕ d)
⊕_exchange {a} {b} {c} {d} ha hb hc hd =
    let ab : length a ≡ length b = ha.size ∙ sym hb.size in
    let ac : length a ≡ length c = ha.size ∙ sym hc.size in
    let bc : length b ≡ length c = hb.size ∙ sym hc.size in
    ⊕_assoc a b (c ⊕ d) (omega arith)
    ∙ ap (λ (x : List ℕ). a ⊕ x) (sym (⊕_assoc b c d (omega arith)) ∙ ap (λ (x : List ℕ). x ⊕ d) (⊕_comm b c bc) ∙ ⊕_assoc c b d (omega arith))
    ∙ sym (⊕_assoc a c (b ⊕ d) (omega arith))

-- place by place
pub ⊕_tab : (n : ℕ) (a b : List ℕ) → length a ≡ n → length b ≡ n → a ⊕ b ≡ tab n (λ i. bit_xor (byte a i) (byte b i))
⊕_tab n a b h k =
    sym (tab_eta n (a ⊕ b) 0 (length_⊕ a b ∙ h))
    ∙ tab_ext n (λ i. byte (a ⊕ b) i) (λ i. bit_xor (byte a i) (byte b i)) (λ i l. get_or-⊕ a b i (h ∙ sym k))
