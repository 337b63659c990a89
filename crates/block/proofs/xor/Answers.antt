-- `block::xor` meets its contract, place by place.
-- Assumes nothing.
use Rattle.std.proofs.Common.{◌≡◌, ℕ, ◌<◌, length, get_or, sym, ◌∙◌, arith, rules}
use Rattle.std.proofs.lemmas.List.{ext_get_or}
use lib.Bits.{bit_xor}
use Rattle.block.specs.Xor.{◌⊕◌}
use Rattle.block.proofs.XorLaws.{length_⊕, get_or-⊕}
use Rattle.block.proofs.xor.Goals as goal

pub returns : goal.returns
returns c =
    let a = c.args.a in
    let b = c.args.b in
    let r = c.from_fn.result in
    let la : length a ≡ 16 = search rules in
    let lb : length b ≡ 16 = search rules in
    let lr : length r ≡ 16 = c.from_fn.ensures.items.long in
    let at : (i : ℕ) → i < 16 → get_or r i 0 ≡ bit_xor (get_or a i 0) (get_or b i 0) = λ i h. search rules in
    ext_get_or 0 r (a ⊕ b) (lr ∙ sym (length_⊕ a b ∙ la)) (λ i h. at i (omega arith) ∙ sym (get_or-⊕ a b i (la ∙ sym lb)))
