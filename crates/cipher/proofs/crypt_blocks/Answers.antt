-- `cipher::crypt_blocks` meets its contract: what is done, and what the blocks that are left make of the rest, is the whole.
-- Assumes nothing.
use Rattle.std.proofs.Common.{◌≡◌, ℕ, ◌+◌, ◌-◌, ◌*◌, ◌/◌, List, ◌++◌, map, take, drop, length, arith, refl, sym, ap, ◌∙◌}
use Rattle.block.specs.Blocks.{on_blocks}
use Rattle.block.proofs.BlockLaws.{on_group, on_done}
use Rattle.cipher.specs.Cipher.{crypted}
use Rattle.cipher.proofs.crypt_blocks.Goals as goal

pub loop-i-init : goal.loop-i-init
loop-i-init c = refl

pub loop-i-preserved : goal.loop-i-preserved
loop-i-preserved c =
    let a = c.args in
    let f : List ℕ → List ℕ = crypted a.back a.keys.keys a.keys.rounds in
    let at = 256 * c.loop-i.i in
    let next : at + 16 * 16 ≡ 256 * (c.loop-i.i + 1) = omega arith in
    let s : List ℕ = c.group.new.s in
    ap (λ (n : ℕ). take n s ++ on_blocks (map f) (drop n s)) (sym next)
    ∙ on_group f 16 at c.loop-i.s s (omega arith) c.group.auto.s c.group.ensures
    ∙ c.loop-i.invariant

pub returns-then-n-ge3 : goal.returns-then-n-ge3
returns-then-n-ge3 c =
    let a = c.args in
    let f : List ℕ → List ℕ = crypted a.back a.keys.keys a.keys.rounds in
    let at = 256 * (length a.s.now / 256) in
    let g = c.group-then-n-ge3 in
    let s : List ℕ = c.loop-i.s in
    let n = (length s - at) / 16 in
    let e : at ≡ 256 * c.loop-i.i = omega arith in
    sym (on_done (map f) (at + 16 * n) g.new.s (omega arith) refl)
    ∙ on_group f n at s g.new.s (omega arith) g.auto.s g.ensures
    ∙ ap (λ (m : ℕ). take m s ++ on_blocks (map f) (drop m s)) e
    ∙ c.loop-i.invariant
