-- 02, conversions: a sheet that comes from elsewhere is added (order 3; orders 8 and 14 join it). What the call tests and deciphers first comes to a
-- refusal of its own, or to a text; with a text, the answer and the store are those of add. The bytes that it was read from are kept: no call writes
-- what is lent to it to read.
-- Assumes nothing.
use Rattle.std.specs.Prelude.{◌≡◌, List, ℕ, Err}
use Rattle.std.proofs.Common.{sym, ◌∙◌}
use Rattle.numbers.specs.declared.Refusal.{Refusal}
use Rattle.plans.specs.Plans.{add_plan}
use Rattle.store.specs.Calls.{Stored, add_answer, add_store}

-- what a conversion comes to before add's own tests
pub data Source : Type 0 where
  refuses : Refusal → Source
  gives : List ℕ → Source

-- sheet n from the source x, with the old key o and the new key w, into the store s
abbrev pub convert_answer : (o w s : List ℕ) (n : ℕ) → Source → Stored
convert_answer o w s n (refuses x) = Err x
convert_answer o w s n (gives t) = add_answer (add_plan o w s n t)

abbrev pub convert_store : (o w s : List ℕ) (n : ℕ) → Source → List ℕ
convert_store o w s n (refuses x) = s
convert_store o w s n (gives t) = add_store w s n t (add_plan o w s n t)

abbrev pub ConvertCalled : (o w s : List ℕ) (n : ℕ) (x : Source) (a : Stored) (s' : List ℕ) → Type 0
ConvertCalled o w s n x a s' = (a ≡ convert_answer o w s n x) × (s' ≡ convert_store o w s n x)

pub convert_determined : (o w s : List ℕ) (n : ℕ) (x : Source) (a a' : Stored) (s' s'' : List ℕ)
    → ConvertCalled o w s n x a s' → ConvertCalled o w s n x a' s'' → (a ≡ a') × (s' ≡ s'')
convert_determined o w s n x a a' s' s'' p q = (p.0 ∙ sym q.0, p.1 ∙ sym q.1)
