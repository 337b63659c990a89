-- 01, EME2-AES, and 01's numbers: the two calls on a lent message. That their promise determines them is in `proofs/Determined`.
-- Assumes nothing.
use Rattle.std.specs.Prelude.{Bool, ◌≡◌, List, ℕ, Result, ⊤}
use Rattle.numbers.specs.declared.Refusal.{Refusal}
use Rattle.numbers.specs.Numbers.{answer_paper}
use Rattle.eme2.specs.Transform.{number, afterwards}

-- what the calls promise of their answer and of the message afterwards
abbrev pub Called : (back : Bool) (k ad m : List ℕ) (answer : Result ⊤ Refusal) (m' : List ℕ) → Type 0
Called back k ad m answer m' = (answer_paper answer ≡ number k ad m) × (m' ≡ afterwards back k ad m)
