-- A record written whole, from what the calls ensure.
-- Assumes nothing.
use mathlib.Core.Path.{◌≡◌, refl, sym, ap, ap₂, ◌∙◌}
use mathlib.Core.List.{List, ◌++◌, append_assoc}
use Prim.Native.Nat.{ℕ, ◌+◌, ◌-◌, ◌≤◌}
use native.Mathlib.Omega.{arith}
use lib.ListN.{length, take, drop, replicate, length-append, length-drop}
use lib.Seq.{take_at}
use Rattle.block.specs.Blocks.{with_block}
use Rattle.records.specs.Record.{record_size, text_most, lead}

pub length-lead : (n v m l : ℕ) → length (lead n v m l) ≡ 16
unfolding lead
length-lead n v m l = refl

-- lead, text and zeros, one after the other
pub writing : (r h t r1 r2 : List ℕ) → length r ≡ record_size → length h ≡ 16 → length t ≤ text_most
    → r1 ≡ with_block r 0 h
    → r2 ≡ take 16 r1 ++ (t ++ drop (16 + length t) r1)
    → take (16 + length t) r2 ++ replicate (length r2 - (16 + length t)) 0 ≡ h ++ (t ++ replicate (text_most - length t) 0)
writing r h t r1 r2 lr lh lt e1 e2 =
    let d : List ℕ = drop 16 r in
    let p : List ℕ = h ++ t in
    let q : List ℕ = drop (16 + length t) r1 in
    let lp : length p ≡ 16 + length t = length-append h t ∙ omega arith in
    let x2 : r2 ≡ p ++ q =
    e2 ∙ ap (λ (z : List ℕ). z ++ (t ++ q)) (ap (take 16) e1 ∙ take_at h d 16 lh) ∙ sym (append_assoc h t q) in
    let l1 : length r1 ≡ record_size = ap length e1 ∙ length-append h d ∙ omega (arith, length-drop 16 r) in
    let l2 : length r2 ≡ record_size = ap length x2 ∙ length-append p q ∙ omega (arith, length-drop (16 + length t) r1) in
    let n : length r2 - (16 + length t) ≡ text_most - length t = omega arith in
    ap₂ (λ (z : List ℕ) (j : ℕ). z ++ replicate j 0) (ap (take (16 + length t)) x2 ∙ take_at p q (16 + length t) lp) n
    ∙ append_assoc h t (replicate (text_most - length t) 0)
