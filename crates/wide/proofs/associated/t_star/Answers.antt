-- `wide::associated::t_star` meets its contract: the sum so far, and what the blocks that are left add to it, is the whole.
-- Assumes nothing.
use Rattle.std.proofs.Common.{◌≡◌, ℕ, ◌+◌, ◌*◌, ◌/◌, ◌<◌, false, List, [], length, get_or, take, drop, replicate, refl}
use Rattle.std.proofs.Common.{sym, ap, ap₂, ◌∙◌, arith, length-drop, drop-drop, rules}
use Rattle.block.specs.Xor.{◌⊕◌}
use Rattle.block.specs.Double.{double}
use Rattle.aes.specs.Aes.{crypted}
use Rattle.aes.specs.Promise.{length-crypted}
use Rattle.mode.specs.Wide.{total}
use Rattle.mode.specs.TStar.{short_tt, eme2_t_star}
use Rattle.wide.proofs.AssociatedLaws.{left, left_turn, left_end, none_left, some_left, star_empty, star_start}
use Rattle.wide.proofs.ChunkLaws.{chunk_at}
use Rattle.wide.proofs.associated.t_star.Goals as goal
use Rattle.wide.proofs.associated.t_star.Goals.{After-loop-x}

pub returns-then-is_empty : goal.returns-then-is_empty
returns-then-is_empty c =
    let a = c.args in
    let n : length a.ad.now ≡ 0 = search rules in
    c.crypt.ensures ∙ sym (star_empty (crypted false a.keys.keys a.keys.rounds) a.key3 a.ad.now n)

pub loop-x-init : goal.loop-x-init
loop-x-init c = refl

pub loop-x-preserved : goal.loop-x-preserved
loop-x-preserved c =
    let a = c.args in
    let f : List ℕ → List ℕ = crypted false a.keys.keys a.keys.rounds in
    let i : ℕ = c.loop-x.x-index in
    let m : List ℕ = c.loop-x.m in
    let sum : List ℕ = c.loop-x.sum in
    let ad : List ℕ = a.ad.now in
    let d : List ℕ = drop (16 * i) ad in
    let bs : List (List ℕ) = c.as_chunks.result.0.now in
    let n : length bs ≡ length ad / 16 = c.as_chunks.ensures.front_len in
    let next : 16 * (i + 1) ≡ 16 * i + 16 = omega arith in
    let x : get_or bs i [] ≡ take 16 d =
    ap (λ (l : List (List ℕ)). get_or l i []) c.as_chunks.ensures.front ∙ chunk_at (length ad / 16) ad i [] (omega arith) in
    let under : c.under.result ≡ f (m ⊕ take 16 d) ⊕ m = c.under.ensures ∙ ap (λ (x : List ℕ). f (m ⊕ x) ⊕ m) x in
    ap₂ (λ (s r : List ℕ). left f s r (drop (16 * (i + 1)) ad)) (c.xor-more.ensures ∙ ap (λ (t : List ℕ). sum ⊕ t) under) c.doubled-next.ensures
    ∙ ap (left f (sum ⊕ (f (m ⊕ take 16 d) ⊕ m)) (double m)) (ap (λ (j : ℕ). drop j ad) next ∙ sym (drop-drop 16 (16 * i) ad))
    ∙ sym (left_turn f sum m d (omega (arith, length-drop (16 * i) ad)))
    ∙ c.loop-x.invariant

-- after the loop the bytes after the full blocks are left
left_over : (c : After-loop-x) → drop (16 * c.loop-x.x-index) c.args.ad.now ≡ c.as_chunks.result.1.now
left_over c =
    let ad : List ℕ = c.args.ad.now in
    let n : length c.as_chunks.result.0.now ≡ length ad / 16 = c.as_chunks.ensures.front_len in
    let i : 16 * c.loop-x.x-index ≡ length ad / 16 * 16 = omega arith in
    ap (λ (j : ℕ). drop j ad) i ∙ sym c.as_chunks.ensures.back

-- and what they add makes T_star
whole : (c : After-loop-x)
    → total c.loop-x.sum (short_tt (crypted false c.args.keys.keys c.args.keys.rounds) (double c.loop-x.m) c.as_chunks.result.1.now)
    ≡ eme2_t_star (crypted false c.args.keys.keys c.args.keys.rounds) c.args.key3 c.args.ad.now
whole c =
    let a = c.args in
    let f : List ℕ → List ℕ = crypted false a.keys.keys a.keys.rounds in
    let r : List ℕ = c.as_chunks.result.1.now in
    let l : length r < 16 = omega (arith, c.as_chunks.ensures.back_len) in
    let some : length a.ad.now ≡ 0 → ⊥ = search rules in
    sym (left_end f c.loop-x.sum c.loop-x.m r l)
    ∙ sym (ap (left f c.loop-x.sum c.loop-x.m) (left_over c))
    ∙ c.loop-x.invariant
    ∙ ap (λ (r : List ℕ). left f (replicate 16 0) r a.ad.now) c.doubled-m.ensures
    ∙ sym (star_start f (length-crypted false a.keys.keys a.keys.rounds) a.key3 a.ad.now some)

pub returns-then-is_empty-2 : goal.returns-then-is_empty-2
returns-then-is_empty-2 c =
    let a = c.args in
    let r : List ℕ = c.as_chunks.result.1.now in
    let n : length r ≡ 0 = search rules in
    sym (none_left (crypted false a.keys.keys a.keys.rounds) c.loop-x.sum (double c.loop-x.m) r n)
    ∙ whole (goal.at.returns-then-is_empty-2 c).After-loop-x

pub returns : goal.returns
returns c =
    let a = c.args in
    let f : List ℕ → List ℕ = crypted false a.keys.keys a.keys.rounds in
    let r : List ℕ = c.as_chunks.result.1.now in
    let n : 0 < length r = search rules in
    c.xor.ensures
    ∙ ap (λ (t : List ℕ). c.loop-x.sum ⊕ t) (c.under-2.ensures ∙ ap₂ (λ (r x : List ℕ). f (r ⊕ x) ⊕ r) c.doubled.ensures c.padded.ensures)
    ∙ sym (some_left f c.loop-x.sum (double c.loop-x.m) r n)
    ∙ whole (goal.at.returns c).After-loop-x
