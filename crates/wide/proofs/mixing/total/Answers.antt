-- `wide::mixing::total` meets its contract: the sum so far and what is left make the whole.
-- Assumes nothing.
use Rattle.std.proofs.Common.{◌≡◌, ℕ, ◌+◌, ◌*◌, ◌/◌, ◌≤◌, ◌<◌, List, [], length, get_or, take, drop, refl, sym}
use Rattle.std.proofs.Common.{ap, ap₂, ◌∙◌, arith, length-drop, drop-drop, rules}
use Rattle.std.specs.Simd.{first_chunks}
use Rattle.block.specs.Xor.{◌⊕◌}
use Rattle.block.specs.Double.{pad}
use Rattle.wide.specs.Passes.{total_of}
use Rattle.wide.proofs.ChunkLaws.{chunk_at, tail}
use Rattle.wide.proofs.MixLaws.{total_turn, total_end, total_short}
use Rattle.wide.proofs.mixing.total.Goals as goal
use Rattle.wide.proofs.mixing.total.Goals.{After-as_chunks, After-loop-b}

pub loop-b-init : goal.loop-b-init
loop-b-init c = refl

-- the blocks after the first
blocks_of : (c : After-as_chunks) → c.as_chunks.result.0.now ≡ first_chunks 16 (length (drop 16 c.args.s.now) / 16) (drop 16 c.args.s.now)
blocks_of c = c.as_chunks.ensures.front ∙ ap (λ (d : List ℕ). first_chunks 16 (length d / 16) d) (tail 16 c.args.s.now)

pub loop-b-preserved : goal.loop-b-preserved
loop-b-preserved c =
    let d : List ℕ = drop 16 c.args.s.now in
    let i : ℕ = c.loop-b.b-index in
    let sum : List ℕ = c.loop-b.sum in
    let bs : List (List ℕ) = c.as_chunks.result.0.now in
    let n : length bs ≡ length d / 16 = c.as_chunks.ensures.front_len ∙ ap (λ (x : List ℕ). length x / 16) (tail 16 c.args.s.now) in
    let h : 16 ≤ length (drop (16 * i) d) = omega (arith, length-drop (16 * i) d) in
    let next : 16 * (i + 1) ≡ 16 * i + 16 = omega arith in
    let b : get_or bs i [] ≡ take 16 (drop (16 * i) d) =
    ap (λ (l : List (List ℕ)). get_or l i []) (blocks_of (goal.at.loop-b-preserved c).After-as_chunks) ∙ chunk_at (length d / 16) d i [] (omega arith) in
    ap₂ total_of (c.xor-more.ensures ∙ ap (λ (x : List ℕ). sum ⊕ x) b) (ap (λ (j : ℕ). drop j d) next ∙ sym (drop-drop 16 (16 * i) d))
    ∙ sym (total_turn sum (drop (16 * i) d) h)
    ∙ c.loop-b.invariant

-- after the loop the bytes after the full blocks are left
left_over : (c : After-loop-b) → drop (16 * c.loop-b.b-index) (drop 16 c.args.s.now) ≡ c.as_chunks.result.1.now
left_over c =
    let d : List ℕ = drop 16 c.args.s.now in
    let e = tail 16 c.args.s.now in
    let n : length c.as_chunks.result.0.now ≡ length d / 16 = c.as_chunks.ensures.front_len ∙ ap (λ (x : List ℕ). length x / 16) e in
    let i : 16 * c.loop-b.b-index ≡ length d / 16 * 16 = omega arith in
    ap (λ (j : ℕ). drop j d) i ∙ sym (c.as_chunks.ensures.back ∙ ap (λ (x : List ℕ). drop (length x / 16 * 16) x) e)

pub returns-then-is_empty : goal.returns-then-is_empty
returns-then-is_empty c =
    let r : List ℕ = drop (16 * c.loop-b.b-index) (drop 16 c.args.s.now) in
    let n : length c.as_chunks.result.1.now ≡ 0 = search rules in
    sym (total_end c.loop-b.sum r (ap length (left_over (goal.at.returns-then-is_empty c).After-loop-b) ∙ n)) ∙ c.loop-b.invariant

pub returns : goal.returns
returns c =
    let r : List ℕ = drop (16 * c.loop-b.b-index) (drop 16 c.args.s.now) in
    let e : r ≡ c.as_chunks.result.1.now = left_over (goal.at.returns c).After-loop-b in
    let l : length r ≡ length c.as_chunks.result.1.now = ap length e in
    let s : length c.as_chunks.result.1.now < 16 = omega (arith, c.as_chunks.ensures.back_len) in
    let n : 0 < length c.as_chunks.result.1.now = search rules in
    c.xor.ensures
    ∙ ap (λ (x : List ℕ). c.loop-b.sum ⊕ x) (c.padded.ensures ∙ sym (ap pad e))
    ∙ sym (total_short c.loop-b.sum r (omega arith) (omega arith))
    ∙ c.loop-b.invariant
