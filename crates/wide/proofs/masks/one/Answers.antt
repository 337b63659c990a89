-- `wide::masks::one` meets its contract: a block whose mask is doubled, and one that begins a new mask.
-- Assumes nothing.
use mathlib.Core.Path.{◌≡◌, sym, ap, ap₂, ◌∙◌}
use mathlib.Core.List.{List}
use Prim.Native.Nat.{ℕ, ◌*◌}
use Rattle.block.specs.Xor.{◌⊕◌}
use Rattle.block.specs.Blocks.{block_at, with_block}
use Rattle.aes.specs.Aes.{crypted}
use Rattle.wide.proofs.MixLaws.{mask_doubled, mask_new, ccc_doubled, ccc_new}
use Rattle.wide.proofs.masks.one.Goals as goal

pub returns-then-k-ne0 : goal.returns-then-k-ne0
returns-then-k-ne0 c =
    let a = c.args in
    let f : List ℕ → List ℕ = crypted a.back a.keys.keys a.keys.rounds in
    let X : List ℕ = block_at a.s.now (16 * a.k) in
    let n : List ℕ = c.doubled-next.result in (
      c.doubled-next.ensures ∙ sym (mask_doubled f a.m1 a.k a.m X c.if-k-ne0.true),
      c.put.ensures
          ∙ ap (with_block a.s.now (16 * a.k))
          (c.xor.ensures ∙ ap (λ (x : List ℕ). x ⊕ n) c.load-x.ensures ∙ sym (ccc_doubled f a.m1 a.k n X c.if-k-ne0.true)),
    )

pub returns : goal.returns
returns c =
    let a = c.args in
    let f : List ℕ → List ℕ = crypted a.back a.keys.keys a.keys.rounds in
    let X : List ℕ = block_at a.s.now (16 * a.k) in
    let r : List ℕ = c.xor-3.result in
    let mp : c.xor-mp.result ≡ X ⊕ a.m1 = c.xor-mp.ensures ∙ ap (λ (x : List ℕ). x ⊕ a.m1) c.load-x.ensures in
    let mc : c.crypt-mc.result ≡ f (X ⊕ a.m1) = c.crypt-mc.ensures ∙ ap f mp in (
      c.xor-3.ensures ∙ ap₂ (λ (x y : List ℕ). x ⊕ y) mp mc ∙ sym (mask_new f a.m1 a.k a.m X c.if-k-ne0.false),
      c.put-2.ensures
          ∙ ap (with_block a.s.now (16 * a.k))
          (c.xor-2.ensures ∙ ap (λ (x : List ℕ). x ⊕ a.m1) mc ∙ sym (ccc_new f a.m1 a.k r X c.if-k-ne0.false)),
    )
