-- The promises of the calls determine them.
-- Assumes nothing.
use Rattle.std.specs.Prelude.{Bool, ◌≡◌, List, ℕ, Result, Ok, Err, ⊤}
use Rattle.std.proofs.Common.{sym, ◌∙◌, arith}
use Rattle.numbers.specs.declared.Refusal.{Refusal}
use Rattle.numbers.specs.Numbers.{some_number}
use Rattle.numbers.proofs.NumberLaws.{paper_apart}
use Rattle.xts.specs.Calls.{Called, BlockCalled}

-- two answers that keep the promise are equal, and so are the bytes afterwards
pub called_determined : (back : Bool) (k : List ℕ) (i : ℕ) (u : List ℕ) (a a' : Result ⊤ Refusal) (s s' : List ℕ)
    → Called back k i u a s → Called back k i u a' s' → (a ≡ a') × (s ≡ s')
called_determined back k i u a a' s s' p q = (paper_apart a a' (p.0 ∙ sym q.0), p.1 ∙ sym q.1)

-- two answers that keep it are equal
pub block_determined : (k : List ℕ) (i : ℕ) (u : List ℕ) (j : ℕ) (r r' : Result (List ℕ) Refusal)
    → BlockCalled k i u j r → BlockCalled k i u j r' → r ≡ r'
block_determined k i u j (Ok b) (Ok b') p q = let e : b ≡ b' = p.1 ∙ sym q.1 in cc
block_determined k i u j (Ok b) (Err y) p q = let z : ⊥ = omega (arith, p.0, q.0, some_number y) in absurd z
block_determined k i u j (Err x) (Ok b') p q = let z : ⊥ = omega (arith, p.0, q.0, some_number x) in absurd z
block_determined k i u j (Err x) (Err y) p q =
    let e : ◌≡◌ {A = Result ⊤ Refusal} (Err x) (Err y) = paper_apart (Err x) (Err y) (p.0 ∙ sym q.0) in
    cc
