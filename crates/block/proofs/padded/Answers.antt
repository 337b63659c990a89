-- `block::padded` meets its contract: the byte 80 hex in the zeros after the text.
-- Assumes nothing.
use Rattle.std.proofs.Common.{◌≡◌, ℕ, ◌-◌, List, ◌++◌, length, take, drop, set, replicate, sym, ap₂, ◌∙◌, arith, zero-add, take_all, length-drop}
use Rattle.block.proofs.PadLaws.{pad_set}
use Rattle.block.proofs.padded.Goals as goal

pub returns : goal.returns
returns c =
    let a = c.args in
    let s : List ℕ = a.s.now in
    let d : List ℕ = drop a.at s in
    let l : length s - a.at ≡ length d = sym (length-drop a.at s) in
    let n : ℕ = length s - a.at in
    let all : take n d ≡ d = take_all n d (omega arith) in
    let start : c.copy.new.s ≡ d ++ drop (length d) (replicate 16 0) = rw (← all) (rw zero-add at c.copy.ensures) in
    ap₂ (λ (r : List ℕ) (n : ℕ). set r n 0x80) start l ∙ pad_set d (omega arith)
