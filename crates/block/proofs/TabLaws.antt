-- Laws of lists given by their places, `tab n f`, and of lists of bytes.
-- Assumes nothing.
use Rattle.std.proofs.Common.{◌≡◌, ℕ, zero, suc, ◌<◌, List, [], ◌∷◌, map, length, get_or, refl, ap, ap₂, suc-le-suc, zero-le, le_of_suc-le-suc}
use Rattle.std.proofs.Common.{not-suc-le-zero, arith, lit<}
use native.Mathlib.Nat.{suc_inj}
use Rattle.block.specs.Tab.{tab}
use Rattle.block.specs.Bytes.{Bytes, Block}

module _ {ℓ} {A : Type ℓ} where
  pub get_or-tab : (n : ℕ) (f : ℕ → A) (i : ℕ) (d : A) → i < n → get_or (tab n f) i d ≡ f i
  get_or-tab zero f i d h = absurd (not-suc-le-zero h)
  get_or-tab (suc n) f zero d h = refl
  get_or-tab (suc n) f (suc i) d h = get_or-tab n (λ j. f (suc j)) i d (le_of_suc-le-suc h)

  -- two tables are equal where their entries are
  pub tab_ext : (n : ℕ) (f g : ℕ → A) → ((i : ℕ) → i < n → f i ≡ g i) → tab n f ≡ tab n g
  tab_ext zero f g h = refl
  tab_ext (suc n) f g h =
      ap₂ (λ (x : A) (xs : List A). x ∷ xs) (h zero (suc-le-suc zero-le))
      (tab_ext n (λ i. f (suc i)) (λ i. g (suc i)) (λ i k. h (suc i) (suc-le-suc k)))

  -- a list of n elements is the table of its elements
  pub tab_eta : (n : ℕ) (l : List A) (d : A) → length l ≡ n → tab n (λ i. get_or l i d) ≡ l
  tab_eta zero [] d h = refl
  tab_eta zero (x ∷ l) d h = let z : ⊥ = omega arith in absurd z
  tab_eta (suc n) [] d h = let z : ⊥ = omega arith in absurd z
  tab_eta (suc n) (x ∷ l) d h = ap (λ (t : List A). x ∷ t) (tab_eta n l d (suc_inj h))

pub map_tab {ℓ κ} : {A : Type ℓ} {B : Type κ} (f : A → B) (g : ℕ → A) (n : ℕ) → map f (tab n g) ≡ tab n (λ i. f (g i))
map_tab f g zero = refl
map_tab {B = B} f g (suc n) = ap (λ (t : List B). f (g zero) ∷ t) (map_tab f (λ i. g (suc i)) n)

pub get_or-map : (f : ℕ → ℕ) (l : List ℕ) (i : ℕ) → i < length l → get_or (map f l) i 0 ≡ f (get_or l i 0)
get_or-map f [] i h = absurd (not-suc-le-zero h)
get_or-map f (x ∷ l) zero h = refl
get_or-map f (x ∷ l) (suc i) h = get_or-map f l i (le_of_suc-le-suc h)

-- a table whose entries are bytes is a list of bytes
pub bytes-tab : (n : ℕ) (f : ℕ → ℕ) → ((i : ℕ) → i < n → f i < 256) → Bytes (tab n f)
bytes-tab n f h = record { below = go n f h }
  where
    go : (n : ℕ) (f : ℕ → ℕ) → ((i : ℕ) → i < n → f i < 256) → (i : ℕ) → get_or (tab n f) i 0 < 256
    go zero f h i = lit< tt
    go (suc n) f h zero = h zero (suc-le-suc zero-le)
    go (suc n) f h (suc i) = go n (λ j. f (suc j)) (λ j k. h (suc j) (suc-le-suc k)) i

pub block_tab : (f : ℕ → ℕ) → ((i : ℕ) → i < 16 → f i < 256) → Block (tab 16 f)
block_tab f h = record { size = refl; bytes = bytes-tab 16 f h }
