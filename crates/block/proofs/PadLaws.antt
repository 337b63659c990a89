-- A short block padded: the byte 80 hex set in the zeros after it.
-- Assumes nothing.
use Rattle.std.proofs.Common.{◌≡◌, ℕ, suc, ◌-◌, ◌<◌, List, ◌++◌, length, drop, set, replicate, refl, ap, ◌∙◌, arith}
use lib.Seq.{set_at}
use Rattle.block.specs.Double.{pad}
use Rattle.block.proofs.BytesLaws.{drop_replicate}

pub pad_set : (b : List ℕ) → length b < 16 → set (b ++ drop (length b) (replicate 16 0)) (length b) 0x80 ≡ pad b
unfolding pad
pad_set b h =
    let e : 16 - length b ≡ suc (15 - length b) = omega arith in
    ap (λ (t : List ℕ). set (b ++ t) (length b) 0x80) (drop_replicate (length b) 16 0 (omega arith) ∙ ap (λ (k : ℕ). replicate {A = ℕ} k 0) e)
    ∙ set_at b 0 (replicate (15 - length b) 0) 0x80 (length b) refl
