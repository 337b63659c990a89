-- `field::masks::mask` meets its contract: what is done, and what the masks that are left make of the rest, is the whole.
-- Assumes nothing.
use Rattle.std.proofs.Common.{◌≡◌, ℕ, ◌+◌, ◌*◌, ◌/◌, List, ◌∷◌, ◌++◌, length, take, drop, refl, sym, ap, ap₂, ◌∙◌, add-one, arith}
use Rattle.block.specs.Xor.{◌⊕◌}
use Rattle.block.specs.Blocks.{on_blocks}
use Rattle.block.specs.Double.{double, doubles}
use Rattle.block.proofs.ArrayBytes.{array_block}
use Rattle.block.proofs.BlockLaws.{on_turn, on_done}
use Rattle.block.proofs.DoubleLaws.{doubles_suc}
use Rattle.field.specs.Masks.{masked}
use Rattle.field.proofs.masks.mask.Goals as goal

pub loop-k-init : goal.loop-k-init
unfolding doubles
loop-k-init c = record { mask = refl; whole = refl }

pub loop-k-preserved : goal.loop-k-preserved
unfolding masked
loop-k-preserved c =
    let xo = c.xor in
    let l = c.args.l in
    let k = c.loop-k.k in
    let m = c.loop-k.m in
    let at = 16 * k in
    let next : 16 * (k + 1) ≡ at + 16 = omega arith in
    let y : length xo.result ≡ 16 = (array_block xo.result _ xo.type_inv).size in record {
      mask = c.doubled-next.ensures ∙ ap double c.loop-k.invariant.mask ∙ sym (doubles_suc k l) ∙ ap (λ (j : ℕ). doubles j l) (sym (add-one k));
      whole =
          ap (λ (j : ℕ). take j c.put.new.s ++ on_blocks (masked c.doubled-next.result) (drop j c.put.new.s)) next
          ∙ ap₂ (λ (r d : List ℕ). take (at + 16) r ++ on_blocks (masked d) (drop (at + 16) r)) c.put.ensures c.doubled-next.ensures
          ∙ on_turn (masked m) (masked (double m)) at c.loop-k.s xo.result (omega arith) y
          (λ xs. ap (λ (z : List ℕ). z ∷ masked (double m) xs) (sym (xo.ensures ∙ ap (λ (x : List ℕ). x ⊕ m) c.load-x.ensures)))
          ∙ c.loop-k.invariant.whole;
    }

pub returns : goal.returns
unfolding masked
returns c =
    let k = c.loop-k in
    let all : k.k ≡ length c.args.s.now / 16 = omega arith in (
      k.invariant.mask ∙ ap (λ (j : ℕ). doubles j c.args.l) all,
      sym (on_done (masked k.m) (16 * k.k) k.s (omega arith) refl) ∙ k.invariant.whole,
    )
