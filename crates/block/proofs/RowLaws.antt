-- Laws of rows: a row that is put is found again, the other rows are kept, and so are lengths.
-- Assumes nothing.
use Rattle.std.proofs.Common.{◌≡◌, ℕ, ◌+◌, ◌-◌, ◌*◌, ◌≤◌, List, ◌++◌, length, take, drop, sym, ap, ◌∙◌, append_assoc, arith, length-append}
use Rattle.std.proofs.Common.{length-drop, take-append-drop, length-take-le, drop-drop, take_at, drop_at}
use lib.Seq.{take-append-le, drop-append-le, drop-append-add}
use Rattle.block.specs.Bytes.{Bytes}
use Rattle.block.specs.Rows.{row, put_row}
use Rattle.block.proofs.BytesLaws.{bytes_take, bytes_drop, bytes_append}

-- a part that lies in p does not depend on what follows p
within : (b w : ℕ) (p q q' : List ℕ) → b + w ≤ length p → take w (drop b (p ++ q)) ≡ take w (drop b (p ++ q'))
within b w p q q' h =
    let n : w ≤ length (drop b p) = omega (arith, length-drop b p) in
    ap (take w) (drop-append-le b p q (omega arith))
    ∙ take-append-le w (drop b p) q n
    ∙ sym (ap (take w) (drop-append-le b p q' (omega arith)) ∙ take-append-le w (drop b p) q' n)

module _ (w : ℕ) (s : List ℕ) (k : ℕ) (h : k * w + w ≤ length s) where
  pub length-row : length (row w s k) ≡ w
  unfolding row
  length-row = length-take-le w (drop (k * w) s) (omega (arith, length-drop (k * w) s))

  front : length (take (k * w) s) ≡ k * w
  front = length-take-le (k * w) s (omega arith)

  module _ (r : List ℕ) (l : length r ≡ w) where
    pub length-put_row : length (put_row w s k r) ≡ length s
    unfolding put_row
    length-put_row =
        length-append (take (k * w) s) (r ++ drop (k * w + w) s)
        ∙ omega (arith, front, length-append r (drop (k * w + w) s), length-drop (k * w + w) s)

    -- the front and the row together
    both : length (take (k * w) s ++ r) ≡ k * w + w
    both = length-append (take (k * w) s) r ∙ omega (arith, front)

    pub row_put : row w (put_row w s k r) k ≡ r
    unfolding row put_row
    row_put = ap (take w) (drop_at (take (k * w) s) (r ++ drop (k * w + w) s) (k * w) front) ∙ take_at r (drop (k * w + w) s) w l

    pub row_put_below : (j : ℕ) → j * w + w ≤ k * w → row w (put_row w s k r) j ≡ row w s j
    unfolding row put_row
    row_put_below j g =
        within (j * w) w (take (k * w) s) (r ++ drop (k * w + w) s) (drop (k * w) s) (omega (arith, front))
        ∙ ap (λ (z : List ℕ). take w (drop (j * w) z)) (take-append-drop (k * w) s)

    pub row_put_above : (j : ℕ) → k * w + w ≤ j * w → row w (put_row w s k r) j ≡ row w s j
    unfolding row put_row
    row_put_above j g =
        let p : List ℕ = take (k * w) s ++ r in
        let n : ℕ = j * w - (k * w + w) in
        let e : j * w ≡ length p + n = omega (arith, both) in
        let m : k * w + w + n ≡ j * w = omega arith in
        ap (λ (z : List ℕ). take w (drop (j * w) z)) (sym (append_assoc (take (k * w) s) r (drop (k * w + w) s)))
        ∙ ap (λ (i : ℕ). take w (drop i (p ++ drop (k * w + w) s))) e
        ∙ ap (take w) (drop-append-add p (drop (k * w + w) s) n ∙ drop-drop n (k * w + w) s ∙ ap (λ (i : ℕ). drop i s) m)

    pub bytes-put_row : Bytes s → Bytes r → Bytes (put_row w s k r)
    unfolding put_row
    bytes-put_row bs br =
        bytes_append (take (k * w) s) (r ++ drop (k * w + w) s) (bytes_take (k * w) s bs)
        (bytes_append r (drop (k * w + w) s) br (bytes_drop (k * w + w) s bs))

pub bytes-row : (w : ℕ) (s : List ℕ) (k : ℕ) → Bytes s → Bytes (row w s k)
unfolding row
bytes-row w s k b = bytes_take w (drop (k * w) s) (bytes_drop (k * w) s b)
