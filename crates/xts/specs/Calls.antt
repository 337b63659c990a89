-- 02, order 3: the calls on a lent unit, and the call for a single block. That their promises determine them is in `proofs/Determined`.
-- Assumes nothing.
use Rattle.std.specs.Prelude.{Bool, ◌≡◌, List, ℕ, length, Result, Ok, Err, IfOk, ⊤}
use Rattle.numbers.specs.declared.Refusal.{Refusal}
use Rattle.numbers.specs.Numbers.{paper, answer_paper}
use Rattle.xts.specs.Xts.{number, afterwards, block_number, block_answered}

-- what the calls promise of their answer and of the unit afterwards
abbrev pub Called : (back : Bool) (k : List ℕ) (i : ℕ) (u : List ℕ) (answer : Result ⊤ Refusal) (u' : List ℕ) → Type 0
Called back k i u answer u' = (answer_paper answer ≡ number (length k) (length u)) × (u' ≡ afterwards back k i u)

-- the number of what the call for a single block answers: 0 if it was not refused
abbrev pub block_paper : Result (List ℕ) Refusal → ℕ
block_paper (Ok _) = 0
block_paper (Err x) = paper x

-- what the call for block j promises of its answer: a refusal by its number, and else the block; the unit is only read
abbrev pub BlockCalled : (k : List ℕ) (i : ℕ) (u : List ℕ) (j : ℕ) (r : Result (List ℕ) Refusal) → Type 0
BlockCalled k i u j r = (block_paper r ≡ block_number (length k) (length u) j) × (IfOk r (λ b. b ≡ block_answered k i u j))
