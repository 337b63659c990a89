-- `sbox::sub_word` meets its contract: its four bytes go through planes of their own.
-- Assumes nothing.
use mathlib.Core.Path.{refl, ◌∙◌}
use borrow.Author.Rules.{rules}
use Rattle.bits.specs.Planes.{words, Word}
use Rattle.sbox.specs.InverseGates.{sums, norms, lows, factors}
use Rattle.sbox.proofs.GateLaws.{five, sub_each}
use Rattle.sbox.specs.Sub.{sub, sub_word}
use Rattle.sbox.proofs.PlaneSub.{word_whole, word_bytes}
use Rattle.sbox.proofs.sub_word.Goals as goal

pub returns : goal.returns
unfolding sub_word
returns c =
    let q = c.shifted.result in
    let r = c.affine.result in
    let w : Word c.from_le_bytes.result c.args.w 0 = rw c.from_le_bytes.ensures (word_whole c.args.w (search rules)) in
    c.to_le_bytes.ensures
    ∙ word_bytes sub c.args.w (words q) (words r) c.from_le_bytes.result c.merged.result w c.shifted.ensures
    (sub_each (words q) (words c.bottom.result) (words r) refl refl
    (five (words q) (sums c.top-y.result) (norms c.norm.result) (lows c.low_inverse-u.result)
    (factors c.products.result) (words c.bottom.result)
    c.top-y.ensures c.norm.ensures c.low_inverse-u.ensures c.products.ensures c.bottom.ensures)
    c.affine.ensures)
    c.merged.ensures
