-- Laws of doubling and padding.
-- Assumes nothing.
use Rattle.std.proofs.Common.{◌≡◌, ℕ, zero, suc, ◌+◌, ◌-◌, ◌%◌, ◌<◌, ◌≤◌, Bool, true, false, cond, ltb, List, length, get_or, sym, refl, ap, ◌∙◌}
use Rattle.std.proofs.Common.{zero-le, suc-le-suc, le_refl, mod-lt, suc-add, zero-add, arith, lit<, length-append}
use lib.Bits.{bit_xor}
use lib.ListN.{length-replicate}
use Rattle.std.proofs.lemmas.List.{ext_get_or}
use Rattle.block.specs.Tab.{byte}
use Rattle.block.specs.Bytes.{Bytes, Block}
use Rattle.block.specs.Double.{carried, twice, double, doubles, pad}
use Rattle.block.proofs.TabLaws.{get_or-tab, bytes-tab}
use Rattle.block.proofs.BytesLaws.{bytes_cons, bytes_zeros, bytes_append}
use Rattle.block.proofs.XorLaws.{xor_byte}

pub carried_le : (y x : ℕ) → carried y x ≤ x
carried_le y x = go (ltb 127 y)
  where
    go : (t : Bool) → cond t x 0 ≤ x
    go true = le_refl x
    go false = zero-le

pub length-double : (x : List ℕ) → length (double x) ≡ 16
unfolding double
length-double x = refl

-- a byte after the first
pub double_at : (x : List ℕ) (i : ℕ) → 1 ≤ i → i < 16 → get_or (double x) i 0 ≡ (byte x i + byte x i) % 256 + carried (byte x (i - 1)) 1
unfolding double
double_at x i h k =
    let m : suc (i - 1) ≡ i = omega arith in
    ap (λ (j : ℕ). get_or (double x) j 0) (sym m)
    ∙ get_or-tab 15 (λ j. twice x (suc j)) (i - 1) 0 (omega arith)
    ∙ ap (λ (j : ℕ). (byte x j + byte x j) % 256 + carried (byte x (i - 1)) 1) m

-- a list that has the bytes of the double is it
pub is_double : (x r : List ℕ) → length r ≡ 16 → get_or r 0 0 ≡ bit_xor ((byte x 0 + byte x 0) % 256) (carried (byte x 15) 0x87)
    → ((i : ℕ) → 1 ≤ i → i < 16 → get_or r i 0 ≡ (byte x i + byte x i) % 256 + carried (byte x (i - 1)) 1) → r ≡ double x
unfolding double
is_double x r l low high = ext_get_or 0 r (double x) l at
  where
    at : (i : ℕ) → i < length r → get_or r i 0 ≡ get_or (double x) i 0
    at zero h = low
    at (suc i) h = high (suc i) (suc-le-suc zero-le) (omega arith) ∙ sym (double_at x (suc i) (suc-le-suc zero-le) (omega arith))

-- twice a number drops its last bit, so that one more still fits
twice_byte : (a y : ℕ) → (a + a) % 256 + carried y 1 < 256
twice_byte a y = omega (arith, carried_le y 1)

-- whatever the list, its double is a block
pub block_double : (x : List ℕ) → Block (double x)
unfolding double
block_double x = record { size = refl; bytes = record { below = go } }
  where
    go : (i : ℕ) → get_or (double x) i 0 < 256
    go zero =
        xor_byte ((byte x 0 + byte x 0) % 256) (carried (byte x 15) 0x87) (mod-lt (byte x 0 + byte x 0) (lit< tt)) (omega (arith, carried_le (byte x 15) 0x87))
    go (suc i) = (bytes-tab 15 (λ j. twice x (suc j)) (λ j h. twice_byte (byte x (suc j)) (byte x j))).below i

-- ---- doubled several times

-- the last doubling apart, where the definition has the first
pub doubles_suc : (n : ℕ) (x : List ℕ) → doubles (suc n) x ≡ double (doubles n x)
unfolding doubles
doubles_suc zero x = refl
doubles_suc (suc n) x = doubles_suc n (double x)

pub doubles_add : (m n : ℕ) (x : List ℕ) → doubles (m + n) x ≡ doubles m (doubles n x)
unfolding doubles
doubles_add zero n x = ap (λ (k : ℕ). doubles k x) (zero-add n)
doubles_add (suc m) n x =
    ap (λ (k : ℕ). doubles k x) (suc-add m n) ∙ doubles_suc (m + n) x ∙ ap double (doubles_add m n x) ∙ sym (doubles_suc m (doubles n x))

pub length-doubles : (n : ℕ) (x : List ℕ) → length x ≡ 16 → length (doubles n x) ≡ 16
unfolding doubles
length-doubles zero x h = h
length-doubles (suc n) x h = length-doubles n (double x) (length-double x)

pub block_doubles : (n : ℕ) {x : List ℕ} → Block x → Block (doubles n x)
unfolding doubles
block_doubles zero h = h
block_doubles (suc n) {x} h = block_doubles n (block_double x)

-- ---- padding

pub length-pad : (b : List ℕ) → length b < 16 → length (pad b) ≡ 16
unfolding pad
length-pad b h = length-append b _ ∙ omega (arith, length-replicate {A = ℕ} (15 - length b) 0)

pub block_pad : (b : List ℕ) → length b < 16 → Bytes b → Block (pad b)
unfolding pad
block_pad b h k = record { size = length-pad b h; bytes = bytes_append b _ k (bytes_cons (lit< tt) (bytes_zeros (15 - length b))) }
