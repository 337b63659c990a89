-- 01, AES, and 01's numbers: the two calls on a lent block, and their refusals in order. That their promise determines them is in proofs/CallLaws.
-- Assumes nothing.
use Rattle.std.specs.Prelude.{Bool, cond, not, ◌≡◌, List, ℕ, eqb, length, Result, ⊤}
use Rattle.numbers.specs.declared.Refusal.TheVariants.{KeyLength, MessageLength}
use Rattle.numbers.specs.declared.Refusal.{Refusal}
use Rattle.numbers.specs.Numbers.{paper, answer_paper}
use Rattle.schedule.specs.Size.{key_size}
use Rattle.aes.specs.Aes.{aes}

-- 01, numbers, in their order: a key that is not 16 or 32 bytes, then a block that is not 16
unfoldable pub number : List ℕ → List ℕ → ℕ
number k b = cond (not (key_size (length k))) (paper KeyLength) (cond (not (eqb (length b) 16)) (paper MessageLength) 0)

-- the block afterwards: as it was if the call is refused
unfoldable pub afterwards : Bool → List ℕ → List ℕ → List ℕ
afterwards back k b = cond (eqb (number k b) 0) (aes back k b) b

-- what the calls promise of their answer and of the block afterwards
abbrev pub Called : (back : Bool) (k b : List ℕ) (answer : Result ⊤ Refusal) (b' : List ℕ) → Type 0
Called back k b answer b' = (answer_paper answer ≡ number k b) × (b' ≡ afterwards back k b)
