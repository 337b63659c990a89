-- A record whose text is enciphered in place, from what the calls ensure.
-- Assumes nothing.
use mathlib.Core.Path.{◌≡◌, refl, sym, ap, ap₂, ◌∙◌}
use mathlib.Core.Bool.{false}
use mathlib.Core.List.{List, ◌++◌}
use Prim.Native.Nat.{ℕ, ◌+◌, ◌-◌, ◌≤◌}
use native.Mathlib.Omega.{arith}
use borrow.Rule.Slice.PartMut.{put_mid}
use lib.ListN.{length, take, drop, replicate, length-append, length-replicate}
use lib.Seq.{take_at, drop_at, drop-drop}
use Rattle.block.specs.Blocks.{block_at}
use Rattle.block.proofs.PartLaws.{part_changed}
use Rattle.eme2.specs.Transform.{afterwards}
use Rattle.records.specs.Record.{record_size, text_most, lead, record_of}
use Rattle.records.proofs.WriteLaws.{length-lead}
use Rattle.sheets.specs.Text.{sheet}

-- the text after the lead enciphered
abbrev pub sealed : List ℕ → List ℕ → ℕ → List ℕ
sealed w r l = take 16 r ++ (afterwards false w (take 16 r) (take l (drop 16 r)) ++ drop (16 + l) r)

pub sealing : (w r : List ℕ) (l : ℕ) (h t : List ℕ) → h ≡ block_at r 0 → t ≡ afterwards false w h (take (16 + l - 16) (drop 16 r))
    → put_mid 16 (16 + l - 16) r t ≡ sealed w r l
sealing w r l h t p q =
    let n : 16 + l - 16 ≡ l = omega arith in
    part_changed 16 (16 + l) r t (omega arith)
    ∙ ap (λ (x : List ℕ). take 16 r ++ (x ++ drop (16 + l) r)) (q ∙ ap₂ (λ (x : List ℕ) (j : ℕ). afterwards false w x (take j (drop 16 r))) p n)

-- a record written with a text in clear and then sealed, of the same length, is the sheet
pub sheet_sealed : (w : List ℕ) (n v : ℕ) (t : List ℕ) → length t ≤ text_most → length (sealed w (record_of n v 2 t) (length t)) ≡ record_size
    → sealed w (record_of n v 2 t) (length t) ≡ sheet w n v t
unfolding record_of sheet
sheet_sealed w n v t lt k =
    let h : List ℕ = lead n v 2 (length t) in
    let z : List ℕ = replicate (text_most - length t) 0 in
    let r : List ℕ = h ++ (t ++ z) in
    let lh : length h ≡ 16 = length-lead n v 2 (length t) in
    let x : List ℕ = afterwards false w h t in
    let e_d : drop 16 r ≡ t ++ z = drop_at h (t ++ z) 16 lh in
    let e_t : take (length t) (drop 16 r) ≡ t = ap (take (length t)) e_d ∙ take_at t z (length t) refl in
    let e_z : drop (16 + length t) r ≡ z = sym (drop-drop (length t) 16 r) ∙ ap (drop (length t)) e_d ∙ drop_at t z (length t) refl in
    let e : sealed w r (length t) ≡ h ++ (x ++ z) =
    ap₂ (λ (a b : List ℕ). a ++ (afterwards false w a b ++ drop (16 + length t) r)) (take_at h (t ++ z) 16 lh) e_t
    ∙ ap (λ (b : List ℕ). h ++ (x ++ b)) e_z in
    let lz : length z ≡ text_most - length t = length-replicate {A = ℕ} (text_most - length t) 0 in
    let lx : length t ≡ length x =
    omega (arith, ap length e, length-append h (x ++ z), length-append x z) in
    e ∙ ap (λ (l : ℕ). lead n v 2 l ++ (x ++ replicate (text_most - l) 0)) lx
