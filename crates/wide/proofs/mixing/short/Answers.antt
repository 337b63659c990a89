-- `wide::mixing::short` meets its contract: the bytes below i are done.
-- Assumes nothing.
use Rattle.std.proofs.Common.{◌≡◌, ℕ, ◌-◌, ◌*◌, ◌<◌, List, [], ◌++◌, length, get_or, take, drop, set, refl}
use Rattle.std.proofs.Common.{sym, ap, ap₂, ◌∙◌, arith, append-nil, drop_of_length-le}
use lib.Bits.{bit_xor}
use Rattle.block.specs.Xor.{◌⊕◌}
use Rattle.block.specs.Blocks.{full, rest}
use Rattle.block.proofs.ArrayBytes.{array_block}
use Rattle.block.proofs.BlockLaws.{fill_turn, fill_next, fill_done, length_rest}
use Rattle.block.proofs.PartLaws.{part_changed}
use Rattle.block.proofs.XorLaws.{length_⊕, get_or-⊕_below}
use Rattle.wide.proofs.ChunkLaws.{tail}
use Rattle.wide.proofs.mixing.short.Goals as goal

pub loop-i-init : goal.loop-i-init
loop-i-init c = refl

pub loop-i-preserved : goal.loop-i-preserved
loop-i-preserved c =
    let s : List ℕ = c.args.s.now in
    let mm : List ℕ = c.args.mm in
    let i : ℕ = c.loop-i.i in
    let old : List ℕ = take (length s - full s * 16) (drop (full s * 16) s) in
    let new : List ℕ = old ⊕ mm in
    let lm : length mm ≡ 16 = (array_block mm _ c.well_formed.0).size in
    let lo : length old < 16 = omega (arith, ap length (tail (full s * 16) s), length_rest s) in
    let ln : length new ≡ length old = length_⊕ old mm in
    let x : ℕ = get_or mm i 0 in
    ap (λ (r : List ℕ). set r i (bit_xor (get_or r i 0) x)) c.loop-i.invariant
    ∙ fill_turn new old i (bit_xor (get_or (take i new ++ drop i old) i 0) x) (omega arith) (omega arith)
    (ap (λ (y : ℕ). bit_xor y x) (fill_next new old i (omega arith) (omega arith)) ∙ sym (get_or-⊕_below old mm i (omega arith) (omega arith)))

pub returns : goal.returns
returns c =
    let s : List ℕ = c.args.s.now in
    let from : ℕ = full s * 16 in
    let old : List ℕ = take (length s - from) (drop from s) in
    let done : c.loop-i.x-items ≡ old ⊕ c.args.mm =
    c.loop-i.invariant ∙ fill_done (old ⊕ c.args.mm) old (length old) c.loop-i.i (length_⊕ old c.args.mm) refl (omega arith) (omega arith) in
    let none : drop (length s) s ≡ [] = drop_of_length-le s {i = length s} (omega arith) in
    part_changed from (length s) s c.loop-i.x-items (omega arith)
    ∙ ap₂ (λ (x z : List ℕ). take from s ++ (x ++ z)) (done ∙ ap (λ (x : List ℕ). x ⊕ c.args.mm) (tail from s)) none
    ∙ ap (λ (x : List ℕ). take from s ++ x) (append-nil (rest s ⊕ c.args.mm))
