-- The promise of the calls determines their answer and the block afterwards.
-- Assumes nothing.
use Rattle.std.specs.Prelude.{Bool, ◌≡◌, List, ℕ, Result, ⊤}
use Rattle.std.proofs.Common.{sym, ◌∙◌}
use Rattle.numbers.specs.declared.Refusal.{Refusal}
use Rattle.numbers.proofs.NumberLaws.{paper_apart}
use Rattle.aes.specs.Calls.{Called}

-- two answers that keep the promise are equal, and so are the bytes afterwards
pub called_determined : (back : Bool) (k b : List ℕ) (a a' : Result ⊤ Refusal) (s s' : List ℕ) → Called back k b a s → Called back k b a' s'
    → (a ≡ a') × (s ≡ s')
called_determined back k b a a' s s' p q = (paper_apart a a' (p.0 ∙ sym q.0), p.1 ∙ sym q.1)
