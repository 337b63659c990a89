-- `schedule::expand` meets its contract: before the turn at i the words before w[i] are made, and the buffer is as it came from there on.
-- Assumes nothing.
use Rattle.std.proofs.Common.{◌≡◌, ℕ, ◌+◌, ◌*◌, ◌-◌, List, ◌++◌, take, drop, arith, sym, ap, ap₂, ◌∙◌, append_assoc}
use Rattle.std.proofs.lemmas.List.{take-append-drop}
use lib.Seq.{drop-drop}
use borrow.Rule.Slice.PartMut.{put_mid}
use Rattle.schedule.specs.KeyExpansion.{next_word, expanded}
use Rattle.schedule.proofs.Laws.{made, made_turn}
use Rattle.schedule.proofs.expand.Goals as goal

-- a word put in its place
put_word : (i : ℕ) (w t : List ℕ) → put_mid (4 * i) (4 * i + 4 - 4 * i) w t ≡ take (4 * i) w ++ t ++ drop (4 * i + 4) w
put_word i w t =
    let e : 4 * i + 4 - 4 * i ≡ 4 = omega arith in
    ap (λ (n : ℕ). put_mid (4 * i) n w t) e
    ∙ ap (λ (r : List ℕ). take (4 * i) w ++ (t ++ r)) (drop-drop 4 (4 * i) w)
    ∙ sym (append_assoc (take (4 * i) w) t (drop (4 * i + 4) w))

pub loop-i-init : goal.loop-i-init
unfolding expanded
loop-i-init c =
    let a = c.args in
    let n : a.nk - a.nk ≡ 0 = omega arith in
    sym (ap (λ (j : ℕ). expanded a.nk (take (4 * a.nk) a.w.now) j ++ drop (4 * a.nk) a.w.now) n ∙ take-append-drop (4 * a.nk) a.w.now)

pub loop-i-preserved : goal.loop-i-preserved
loop-i-preserved c =
    let nk = c.args.nk in
    let w₀ : List ℕ = c.args.w.now in
    let i = c.loop-i.i in
    ap₂ (λ (w t : List ℕ). put_mid (4 * i) (4 * i + 4 - 4 * i) w t) c.loop-i.invariant
    (c.copy_from_slice.ensures.after ∙ c.next_word-t.ensures ∙ ap (λ (w : List ℕ). next_word nk i w) c.loop-i.invariant)
    ∙ put_word i (made nk w₀ i) (next_word nk i (made nk w₀ i))
    ∙ made_turn nk i w₀ (omega arith) (omega arith) (omega arith)

pub returns : goal.returns
returns c =
    let nk = c.args.nk in
    let i = c.loop-i.i in
    let n : i - nk ≡ 3 * nk + 28 = omega arith in
    let e : i ≡ 4 * nk + 28 = omega arith in
    c.loop-i.invariant ∙ ap₂ (λ (j m : ℕ). expanded nk (take (4 * nk) c.args.w.now) j ++ drop (4 * m) c.args.w.now) n e
