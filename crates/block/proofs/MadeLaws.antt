-- An array made place by place with a closure whose captures stay as they are: what one call says of what it gives holds at every place.
-- Assumes nothing.
use Rattle.std.proofs.Common.{◌≡◌, ℕ, zero, suc, ◌+◌, ◌<◌, List, get_or, subst, add-zero, le_of_suc-le-suc, not-suc-le-zero, arith}
use denote.Param.Members.{Mut, Called}
use Rattle.std.specs.Array.{IsFromFnResultFrom, IsFromFnResult}

module _ {F B : Type 0} (g : Mut F (ℕ × Unit {0}) B) (same : F → Type 0) (R : ℕ → B → Type 0)
    (step : (p q : F) (i : ℕ) (y : B) → same p → Called g p (i, tt) y q → same q × R i y) where
  made_from : (f : F) (ys : List B) (d : B) (i n : ℕ) → same f → IsFromFnResultFrom g f ys i n → (k : ℕ) → k < n → R (i + k) (get_or ys (i + k) d)
  made_from f ys d i zero s h k l = absurd (not-suc-le-zero l)
  made_from f ys d i (suc n) s (q, y, at, call, more) zero l =
      let r : R i y = (step f q i y s call).1 in
      let e : get_or ys i d ≡ y = at.1 d in
      rw (add-zero, e) r
  made_from f ys d i (suc n) s (q, y, at, call, more) (suc k) l =
      let r : R ((i + 1) + k) (get_or ys ((i + 1) + k) d) = made_from q ys d (i + 1) n (step f q i y s call).0 more k (le_of_suc-le-suc l) in
      let e : (i + 1) + k ≡ i + suc k = omega arith in
      subst (λ (j : ℕ). R j (get_or ys j d)) e r

pub made : {F B : Type 0} {g : Mut F (ℕ × Unit {0}) B} {f : F} {ys : List B} {n : ℕ} → IsFromFnResult g f ys n
    → (same : F → Type 0) (R : ℕ → B → Type 0) → ((p q : F) (i : ℕ) (y : B) → same p → Called g p (i, tt) y q → same q × R i y)
    → same f → (d : B) (i : ℕ) → i < n → R i (get_or ys i d)
made {g} {f} {ys} {n} h same R step s d i l =
    let r : R (0 + i) (get_or ys (0 + i) d) = made_from g same R step f ys d 0 n s h.each i l in
    let e : 0 + i ≡ i = omega arith in
    subst (λ (j : ℕ). R j (get_or ys j d)) e r
