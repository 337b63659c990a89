-- What a call for C promises determines what it speaks of: two results that keep one promise of `Rattle.answers.specs.Sheets` are equal.
-- Assumes nothing.
use Rattle.std.specs.Prelude.{◌≡◌, List, ℕ}
use Rattle.std.proofs.Common.{sym, ◌∙◌}
use Rattle.store.specs.Conversions.{Source}
use Rattle.answers.specs.Sheets.{CheckedForC, ReadForC, AddForC, ConvertForC, AddXtsForC, ReviseForC, RemoveForC, StepForC}

pub check_determined : (s : List ℕ) (f u r c o w n f' u' r' c' o' w' m f'' u'' r'' c'' o'' w'' : ℕ)
    → CheckedForC s f u r c o w n f' u' r' c' o' w' → CheckedForC s f u r c o w m f'' u'' r'' c'' o'' w''
    → (n ≡ m) × (f' ≡ f'') × (u' ≡ u'') × (r' ≡ r'') × (c' ≡ c'') × (o' ≡ o'') × (w' ≡ w'')
check_determined s f u r c o w n f' u' r' c' o' w' m f'' u'' r'' c'' o'' w'' p q =
    (p.0 ∙ sym q.0, p.1 ∙ sym q.1, p.2 ∙ sym q.2, p.3 ∙ sym q.3, p.4 ∙ sym q.4, p.5 ∙ sym q.5, p.6 ∙ sym q.6)

pub read_determined : (o w s : List ℕ) (i : ℕ) (b : List ℕ) (l v n m : ℕ) (a c : List ℕ) (x y x' y' : ℕ)
    → ReadForC o w s i b l v n a x y → ReadForC o w s i b l v m c x' y' → (n ≡ m) × (a ≡ c) × (x ≡ x') × (y ≡ y')
read_determined o w s i b l v n m a c x y x' y' p q = (p.0 ∙ sym q.0, p.1 ∙ sym q.1, p.2 ∙ sym q.2, p.3 ∙ sym q.3)

pub add_determined : (o w s : List ℕ) (i : ℕ) (t : List ℕ) (v n m : ℕ) (a b : List ℕ) (x y : ℕ)
    → AddForC o w s i t v n a x → AddForC o w s i t v m b y → (n ≡ m) × (a ≡ b) × (x ≡ y)
add_determined o w s i t v n m a b x y p q = (p.0 ∙ sym q.0, p.1 ∙ sym q.1, p.2 ∙ sym q.2)

pub convert_determined : (o w s : List ℕ) (i : ℕ) (x : Source) (v n m : ℕ) (a b : List ℕ) (y z : ℕ)
    → ConvertForC o w s i x v n a y → ConvertForC o w s i x v m b z → (n ≡ m) × (a ≡ b) × (y ≡ z)
convert_determined o w s i x v n m a b y z p q = (p.0 ∙ sym q.0, p.1 ∙ sym q.1, p.2 ∙ sym q.2)

pub add_xts_determined : (k : List ℕ) (d : ℕ) (u o w s : List ℕ) (i v n m : ℕ) (a b : List ℕ) (y z : ℕ)
    → AddXtsForC k d u o w s i v n a y → AddXtsForC k d u o w s i v m b z → (n ≡ m) × (a ≡ b) × (y ≡ z)
add_xts_determined k d u o w s i v n m a b y z p q = (p.0 ∙ sym q.0, p.1 ∙ sym q.1, p.2 ∙ sym q.2)

pub revise_determined : (o w s : List ℕ) (i seen : ℕ) (t : List ℕ) (v n m : ℕ) (a b : List ℕ) (x y : ℕ)
    → ReviseForC o w s i seen t v n a x → ReviseForC o w s i seen t v m b y → (n ≡ m) × (a ≡ b) × (x ≡ y)
revise_determined o w s i seen t v n m a b x y p q = (p.0 ∙ sym q.0, p.1 ∙ sym q.1, p.2 ∙ sym q.2)

pub remove_determined : (s : List ℕ) (i n m : ℕ) (a b : List ℕ) → RemoveForC s i n a → RemoveForC s i m b → (n ≡ m) × (a ≡ b)
remove_determined s i n m a b p q = (p.0 ∙ sym q.0, p.1 ∙ sym q.1)

pub step_determined : (o w s : List ℕ) (k c n m : ℕ) (a b : List ℕ) (x y x' y' : ℕ)
    → StepForC o w s k c n a x y → StepForC o w s k c m b x' y' → (n ≡ m) × (a ≡ b) × (x ≡ x') × (y ≡ y')
step_determined o w s k c n m a b x y x' y' p q = (p.0 ∙ sym q.0, p.1 ∙ sym q.1, p.2 ∙ sym q.2, p.3 ∙ sym q.3)
