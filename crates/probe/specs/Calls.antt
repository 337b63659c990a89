-- What the probe promises of its number and of the buffer afterwards; `proofs/Determined` has that the promise determines them.
-- Assumes nothing.
use Rattle.std.specs.Prelude.{Bool, cond, not, ◌&&◌, ◌≡◌, List, map, ℕ, eqb, ltb, length}
use Rattle.block.specs.Blocks.{on_blocks}
use Rattle.sbox.specs.Sub.{sub, inv_sub}
use Rattle.aes.specs.Aes.{key_size, aes}
use Rattle.mode.specs.Wide.{wide}

abbrev pub BlocksCalled : (back : Bool) (k s : List ℕ) (n : ℕ) (s' : List ℕ) → Type 0
BlocksCalled back k s n s' = (n ≡ cond (key_size (length k)) 0 1) × (s' ≡ cond (key_size (length k)) (on_blocks (map (aes back k)) s) s)

-- 1: a key that AES does not take. 2: L or T_star is not a block, or the message has no full block
unfoldable pub wide_number : List ℕ → List ℕ → List ℕ → List ℕ → ℕ
wide_number k L T m = cond (key_size (length k)) (cond (eqb (length L) 16 && (eqb (length T) 16 && not (ltb (length m) 16))) 0 2) 1

unfoldable pub wide_afterwards : Bool → List ℕ → List ℕ → List ℕ → List ℕ → List ℕ
wide_afterwards back k L T m = cond (eqb (wide_number k L T m) 0) (wide (aes back k) L T m) m

abbrev pub WideCalled : (back : Bool) (k L T m : List ℕ) (n : ℕ) (m' : List ℕ) → Type 0
WideCalled back k L T m n m' = (n ≡ wide_number k L T m) × (m' ≡ wide_afterwards back k L T m)

-- the substitution of every byte of the buffer, or its inverse
unfoldable pub substituted_back : Bool → List ℕ → List ℕ
substituted_back back s = cond back (map inv_sub s) (map sub s)

abbrev pub SubstitutionCalled : (back : Bool) (s : List ℕ) (n : ℕ) (s' : List ℕ) → Type 0
SubstitutionCalled back s n s' = (n ≡ 0) × (s' ≡ substituted_back back s)
