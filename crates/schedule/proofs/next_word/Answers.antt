-- `schedule::next_word` meets its contract: the xor of two words, byte by byte.
-- Assumes nothing.
use Rattle.std.proofs.Common.{◌≡◌, ℕ, ◌<◌, List, length, sym, ap, ap₂, ◌∙◌, arith, rules}
use Rattle.std.proofs.lemmas.List.{ext_get_or}
use lib.Bits.{bit_xor}
use Rattle.block.specs.Tab.{byte}
use Rattle.block.specs.Xor.{◌⊕◌}
use Rattle.block.proofs.XorLaws.{length_⊕, get_or-⊕}
use Rattle.schedule.specs.KeyExpansion.{temp, next_word}
use Rattle.schedule.proofs.next_word.Goals as goal

pub returns : goal.returns
unfolding next_word
returns c =
    let a = c.word_at-a.result in
    let t = c.changed-t.result in
    let r = c.from_fn.result in
    let la : length a ≡ 4 = search rules in
    let lt : length t ≡ 4 = search rules in
    let lr : length r ≡ 4 = c.from_fn.ensures.items.long in
    let at : (i : ℕ) → i < 4 → byte r i ≡ bit_xor (byte a i) (byte t i) = λ i h. search rules in
    ext_get_or 0 r (a ⊕ t) (lr ∙ sym (length_⊕ a t ∙ la)) (λ i h. at i (omega (arith, lr)) ∙ sym (get_or-⊕ a t i (la ∙ sym lt)))
    ∙ ap₂ (λ (x y : List ℕ). x ⊕ y) c.word_at-a.ensures
    (c.changed-t.ensures ∙ ap (λ (u : List ℕ). temp c.args.nk c.args.i u) c.word_at.ensures)
