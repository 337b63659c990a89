-- What the calls for C promise of their number and of the bytes afterwards; `proofs/Determined` has that the promise determines them.
-- Assumes nothing.
use Rattle.std.specs.Prelude.{Bool, cond, ◌≡◌, List, ℕ, ◌*◌, eqb, length}
use Rattle.block.specs.Blocks.{block_at}
use Rattle.aes.specs.Calls.{number, afterwards}
use Rattle.eme2.specs.Transform as eme2
use Rattle.xts.specs.Xts as xts

-- lagunedo_aes_encipher, and with `back` lagunedo_aes_decipher
abbrev pub AesCalled : (back : Bool) (k b : List ℕ) (n : ℕ) (b' : List ℕ) → Type 0
AesCalled back k b n b' = (n ≡ number k b) × (b' ≡ afterwards back k b)

-- lagunedo_eme2_encipher, and with `back` lagunedo_eme2_decipher
abbrev pub Eme2Called : (back : Bool) (k ad m : List ℕ) (n : ℕ) (m' : List ℕ) → Type 0
Eme2Called back k ad m n m' = (n ≡ eme2.number k ad m) × (m' ≡ eme2.afterwards back k ad m)

-- lagunedo_xts_encipher, and with `back` lagunedo_xts_decipher
abbrev pub XtsCalled : (back : Bool) (k : List ℕ) (i : ℕ) (u : List ℕ) (n : ℕ) (u' : List ℕ) → Type 0
XtsCalled back k i u n u' = (n ≡ xts.number (length k) (length u)) × (u' ≡ xts.afterwards back k i u)

-- lagunedo_xts_block: block j of the unit u to the 16 bytes b, which stay if the call is refused
abbrev pub XtsBlockCalled : (k : List ℕ) (i : ℕ) (u : List ℕ) (j : ℕ) (b : List ℕ) (n : ℕ) (b' : List ℕ) → Type 0
XtsBlockCalled k i u j b n b' =
    (n ≡ xts.block_number (length k) (length u) j)
    × (b' ≡ cond (eqb (xts.block_number (length k) (length u) j) 0) (xts.block_under k i j (block_at u (16 * j))) b)
