-- Lists of bytes, put together and taken apart.
-- Assumes nothing.
use Rattle.std.proofs.Common.{◌≡◌, ℕ, zero, suc, ◌+◌, ◌-◌, ◌<◌, ◌≤◌, List, [], ◌∷◌, ◌++◌, get_or, take, drop, replicate, sym, refl, ap, ◌∙◌, subst}
use Rattle.std.proofs.Common.{arith, lit<, get_or-drop, drop_at}
use lib.ListN.{length-replicate, replicate-append-replicate}
use Rattle.block.specs.Bytes.{Bytes, Block}

pub bytes_cons : {x : ℕ} {l : List ℕ} → x < 256 → Bytes l → Bytes (x ∷ l)
bytes_cons {x} {l} h b = record { below = go }
  where
    go : (i : ℕ) → get_or (x ∷ l) i 0 < 256
    go zero = h
    go (suc i) = b.below i

pub bytes_tail : {x : ℕ} {l : List ℕ} → Bytes (x ∷ l) → Bytes l
bytes_tail b = record { below = λ i. b.below (suc i) }

pub bytes_zeros : (n : ℕ) → Bytes (replicate n 0)
bytes_zeros zero = record { below = λ i. lit< tt }
bytes_zeros (suc n) = bytes_cons (lit< tt) (bytes_zeros n)

pub block_zeros : Block (replicate 16 0)
block_zeros = record { size = refl; bytes = bytes_zeros 16 }

pub bytes_append : (a b : List ℕ) → Bytes a → Bytes b → Bytes (a ++ b)
bytes_append [] b h k = k
bytes_append (x ∷ a) b h k = bytes_cons (h.below 0) (bytes_append a b (bytes_tail h) k)

pub bytes_take : (n : ℕ) (l : List ℕ) → Bytes l → Bytes (take n l)
bytes_take zero l b = bytes_zeros 0
bytes_take (suc n) [] b = b
bytes_take (suc n) (x ∷ l) b = bytes_cons (b.below 0) (bytes_take n l (bytes_tail b))

pub bytes_drop : (n : ℕ) (l : List ℕ) → Bytes l → Bytes (drop n l)
bytes_drop n l b = record { below = λ i. subst (λ (x : ℕ). x < 256) (sym (get_or-drop n l i 0)) (b.below (n + i)) }

-- fewer of the same
pub drop_replicate : (m n x : ℕ) → m ≤ n → drop m (replicate n x) ≡ replicate (n - m) x
drop_replicate m n x h =
    let e : m + (n - m) ≡ n = omega arith in
    ap (λ (l : List ℕ). drop m l) (ap (λ (k : ℕ). replicate k x) (sym e) ∙ sym (replicate-append-replicate m (n - m) x))
    ∙ drop_at (replicate m x) (replicate (n - m) x) m (length-replicate m x)
