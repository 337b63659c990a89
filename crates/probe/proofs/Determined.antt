-- What the probe promises determines its number and the buffer afterwards.
-- Assumes nothing.
use Rattle.std.proofs.Common.{Bool, ◌≡◌, List, ℕ, sym, ◌∙◌}
use Rattle.probe.specs.Calls.{BlocksCalled, WideCalled, SubstitutionCalled}

pub blocks_determined : (back : Bool) (k s : List ℕ) (n n' : ℕ) (t t' : List ℕ)
    → BlocksCalled back k s n t → BlocksCalled back k s n' t' → (n ≡ n') × (t ≡ t')
blocks_determined back k s n n' t t' p q = (p.0 ∙ sym q.0, p.1 ∙ sym q.1)

pub wide_determined : (back : Bool) (k L T m : List ℕ) (n n' : ℕ) (s s' : List ℕ)
    → WideCalled back k L T m n s → WideCalled back k L T m n' s' → (n ≡ n') × (s ≡ s')
wide_determined back k L T m n n' s s' p q = (p.0 ∙ sym q.0, p.1 ∙ sym q.1)

pub substitution_determined : (back : Bool) (s : List ℕ) (n n' : ℕ) (t t' : List ℕ)
    → SubstitutionCalled back s n t → SubstitutionCalled back s n' t' → (n ≡ n') × (t ≡ t')
substitution_determined back s n n' t t' p q = (p.0 ∙ sym q.0, p.1 ∙ sym q.1)
