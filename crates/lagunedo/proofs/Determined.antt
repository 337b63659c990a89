-- What the calls for C promise determines their number and the bytes afterwards.
-- Assumes nothing.
use Rattle.std.proofs.Common.{Bool, ◌≡◌, List, ℕ, sym, ◌∙◌}
use Rattle.lagunedo.specs.Calls.{AesCalled, Eme2Called, XtsCalled, XtsBlockCalled}

pub aes_determined : (back : Bool) (k b : List ℕ) (n n' : ℕ) (s s' : List ℕ) → AesCalled back k b n s → AesCalled back k b n' s' → (n ≡ n') × (s ≡ s')
aes_determined back k b n n' s s' p q = (p.0 ∙ sym q.0, p.1 ∙ sym q.1)

pub eme2_determined : (back : Bool) (k ad m : List ℕ) (n n' : ℕ) (s s' : List ℕ)
    → Eme2Called back k ad m n s → Eme2Called back k ad m n' s' → (n ≡ n') × (s ≡ s')
eme2_determined back k ad m n n' s s' p q = (p.0 ∙ sym q.0, p.1 ∙ sym q.1)

pub xts_determined : (back : Bool) (k : List ℕ) (i : ℕ) (u : List ℕ) (n n' : ℕ) (s s' : List ℕ)
    → XtsCalled back k i u n s → XtsCalled back k i u n' s' → (n ≡ n') × (s ≡ s')
xts_determined back k i u n n' s s' p q = (p.0 ∙ sym q.0, p.1 ∙ sym q.1)

pub xts_block_determined : (k : List ℕ) (i : ℕ) (u : List ℕ) (j : ℕ) (b : List ℕ) (n n' : ℕ) (s s' : List ℕ)
    → XtsBlockCalled k i u j b n s → XtsBlockCalled k i u j b n' s' → (n ≡ n') × (s ≡ s')
xts_block_determined k i u j b n n' s s' p q = (p.0 ∙ sym q.0, p.1 ∙ sym q.1)
