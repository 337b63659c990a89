-- `field::products::product` meets its contract: after n turns the sum is that of the first n terms, and the doubling at hand the n-th.
-- Assumes nothing.
use Rattle.std.proofs.Common.{◌≡◌, ℕ, List, refl, sym, ap, ap₂, ◌∙◌, add-one, arith}
use Rattle.block.specs.Xor.{◌⊕◌}
use Rattle.block.specs.Double.{double, doubles}
use Rattle.block.proofs.DoubleLaws.{doubles_suc}
use Rattle.field.specs.Elements.{bit, only_if, terms, product}
use Rattle.field.proofs.products.product.Goals as goal

pub loop-n-init : goal.loop-n-init
unfolding doubles terms
loop-n-init c = (refl, refl)

pub loop-n-preserved : goal.loop-n-preserved
unfolding terms
loop-n-preserved c =
    let a = c.args.a in
    let b = c.args.b in
    let n = c.loop-n.n in (
      c.xor-more.ensures
          ∙ ap₂ (λ (s t : List ℕ). s ⊕ t) c.loop-n.invariant.0 (c.only_if.ensures ∙ ap (only_if (bit a n)) c.loop-n.invariant.1)
          ∙ ap (λ (j : ℕ). terms j a b) (sym (add-one n)),
      c.doubled-next.ensures ∙ ap double c.loop-n.invariant.1 ∙ sym (doubles_suc n b) ∙ ap (λ (j : ℕ). doubles j b) (sym (add-one n)),
    )

pub returns : goal.returns
unfolding product
returns c =
    let k = c.loop-n in
    let s = c.args in
    let all : k.n ≡ 128 = omega arith in
    k.invariant.0 ∙ ap (λ (n : ℕ). terms n s.a s.b) all
