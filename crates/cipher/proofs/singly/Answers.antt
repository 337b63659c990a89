-- `cipher::singly` meets its contract: what is done, and what the blocks that are left make of the rest, is the whole.
-- Assumes nothing.
use Rattle.std.proofs.Common.{◌≡◌, ℕ, ◌+◌, ◌*◌, List, ◌∷◌, ◌++◌, map, take, drop, arith, rules, refl, sym, ap, ◌∙◌}
use Rattle.block.specs.Blocks.{on_blocks}
use Rattle.block.proofs.BlockLaws.{on_turn, on_done}
use Rattle.cipher.specs.Cipher.{crypted}
use Rattle.cipher.proofs.singly.Goals as goal

pub loop-i-init : goal.loop-i-init
loop-i-init c =
    let a = c.args in
    let e : a.at + 0 ≡ a.at = omega arith in
    let f : List ℕ → List ℕ = crypted a.back a.keys.keys a.keys.rounds in
    ap (λ (n : ℕ). take n a.s.now ++ on_blocks (map f) (drop n a.s.now)) e

pub loop-i-preserved : goal.loop-i-preserved
loop-i-preserved c =
    let a = c.args in
    let f : List ℕ → List ℕ = crypted a.back a.keys.keys a.keys.rounds in
    let at = a.at + 16 * c.loop-i.i in
    let next : at + 16 ≡ a.at + 16 * (c.loop-i.i + 1) = omega arith in
    ap (λ (n : ℕ). take n c.put.new.s ++ on_blocks (map f) (drop n c.put.new.s)) (sym next)
    ∙ ap (λ (r : List ℕ). take (at + 16) r ++ on_blocks (map f) (drop (at + 16) r)) c.put.ensures
    ∙ on_turn (map f) (map f) at c.loop-i.s c.crypt.result (omega arith) (search rules)
    (λ xs. ap (λ (z : List ℕ). z ∷ map f xs) (sym (c.crypt.ensures ∙ ap f c.load-x.ensures)))
    ∙ c.loop-i.invariant

pub returns : goal.returns
returns c =
    let a = c.args in
    sym (on_done (map (crypted a.back a.keys.keys a.keys.rounds)) (a.at + 16 * c.loop-i.i) c.loop-i.s (omega arith) refl) ∙ c.loop-i.invariant
