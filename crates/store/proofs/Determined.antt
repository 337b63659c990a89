-- What each call of the store promises determines its answer and the bytes afterwards.
-- Assumes nothing.
use Rattle.std.specs.Prelude.{◌≡◌, List, ℕ}
use Rattle.std.proofs.Common.{sym, ◌∙◌}
use Rattle.store.specs.Calls.{Read, Stored, Removed, Stepped, ReadCalled, AddCalled, ReviseCalled, RemoveCalled, StepCalled}

pub read_determined : (o w s : List ℕ) (n : ℕ) (b : List ℕ) (a a' : Read) (c c' : List ℕ)
    → ReadCalled o w s n b a c → ReadCalled o w s n b a' c' → (a ≡ a') × (c ≡ c')
read_determined o w s n b a a' c c' p q = (p.0 ∙ sym q.0, p.1 ∙ sym q.1)

pub add_determined : (o w s : List ℕ) (n : ℕ) (t : List ℕ) (a a' : Stored) (s' s'' : List ℕ)
    → AddCalled o w s n t a s' → AddCalled o w s n t a' s'' → (a ≡ a') × (s' ≡ s'')
add_determined o w s n t a a' s' s'' p q = (p.0 ∙ sym q.0, p.1 ∙ sym q.1)

pub revise_determined : (o w s : List ℕ) (n v : ℕ) (t : List ℕ) (a a' : Stored) (s' s'' : List ℕ)
    → ReviseCalled o w s n v t a s' → ReviseCalled o w s n v t a' s'' → (a ≡ a') × (s' ≡ s'')
revise_determined o w s n v t a a' s' s'' p q = (p.0 ∙ sym q.0, p.1 ∙ sym q.1)

pub remove_determined : (s : List ℕ) (n : ℕ) (a a' : Removed) (s' s'' : List ℕ) → RemoveCalled s n a s' → RemoveCalled s n a' s'' → (a ≡ a') × (s' ≡ s'')
remove_determined s n a a' s' s'' p q = (p.0 ∙ sym q.0, p.1 ∙ sym q.1)

pub step_determined : (o w s : List ℕ) (k : ℕ) (a a' : Stepped) (s' s'' : List ℕ)
    → StepCalled o w s k a s' → StepCalled o w s k a' s'' → (a ≡ a') × (s' ≡ s'')
step_determined o w s k a a' s' s'' p q = (p.0 ∙ sym q.0, p.1 ∙ sym q.1)
