-- `wide::masks::blocks` meets its contract: what is done, and what is left from the running mask on, is the whole.
-- Assumes nothing.
use Rattle.std.proofs.Common.{◌≡◌, ℕ, ◌+◌, ◌*◌, ◌≤◌, List, ◌∷◌, ◌++◌, length, take, drop, refl, sym, ap, ap₂, ◌∙◌, add-one, suc, arith}
use Rattle.block.specs.Blocks.{block_at, on_blocks}
use Rattle.block.proofs.BlockLaws.{length-block_at, on_turn, on_done}
use Rattle.aes.specs.Aes.{crypted}
use Rattle.aes.specs.Promise.{length-crypted}
use Rattle.mode.specs.Wide.{ccc_of, middle}
use Rattle.wide.proofs.MixLaws.{length_ccc}
use Rattle.wide.proofs.masks.blocks.Goals as goal

pub loop-k-init : goal.loop-k-init
loop-k-init c = refl

pub loop-k-preserved : goal.loop-k-preserved
unfolding middle
loop-k-preserved c =
    let a = c.args in
    let f : List ℕ → List ℕ = crypted a.back a.keys.keys a.keys.rounds in
    let s : List ℕ = c.loop-k.s in
    let k : ℕ = c.loop-k.k in
    let at : ℕ = 16 * k in
    let X : List ℕ = block_at s at in
    let r : List ℕ = c.one-next.result in
    let s' : List ℕ = c.one-next.new.s in
    let y : List ℕ = ccc_of f a.m1 (k + 1) r X in
    let h : at + 16 ≤ length s = omega arith in
    let next : 16 * (k + 1) ≡ at + 16 = omega arith in
    let l : length y ≡ 16 = length_ccc f (length-crypted a.back a.keys.keys a.keys.rounds) a.m1 (k + 1) r X (length-block_at s at h) in
    ap₂ (λ (j i : ℕ). take j s' ++ on_blocks (middle f a.m1 i r) (drop j s')) next (add-one (k + 1))
    ∙ ap (λ (z : List ℕ). take (at + 16) z ++ on_blocks (middle f a.m1 (suc (k + 1)) r) (drop (at + 16) z)) c.one-next.ensures.1
    ∙ on_turn (middle f a.m1 (k + 1) c.loop-k.m) (middle f a.m1 (suc (k + 1)) r) at s y h l
    (λ xs. ap (λ (z : List ℕ). ccc_of f a.m1 (k + 1) z X ∷ middle f a.m1 (suc (k + 1)) z xs) (sym c.one-next.ensures.0))
    ∙ c.loop-k.invariant

pub returns : goal.returns
unfolding middle
returns c =
    let a = c.args in
    let k : ℕ = c.loop-k.k in
    sym (on_done (middle (crypted a.back a.keys.keys a.keys.rounds) a.m1 (k + 1) c.loop-k.m) (16 * k) c.loop-k.s (omega arith) refl) ∙ c.loop-k.invariant
