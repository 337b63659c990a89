-- `field::products::only_if` meets its contract, place by place.
-- Assumes nothing.
use Rattle.std.proofs.Common.{◌≡◌, ℕ, ◌*◌, ◌<◌, get_or, refl, rules}
use Rattle.block.specs.Bytes.{Block}
use Rattle.block.proofs.ArrayBytes.{array_block}
use Rattle.block.proofs.MadeLaws.{made}
use Rattle.field.proofs.TermLaws.{times_each}
use Rattle.field.proofs.products.only_if.Goals as goal

pub returns : goal.returns
returns c =
    let t = c.args.t in
    let b = c.args.b in
    let items = c.from_fn.ensures.items in
    let h : Block b = array_block b _ c.well_formed.1.0 in
    let Times : ℕ → ℕ → Type 0 = λ i y. y ≡ get_or b i 0 * t in
    let at : (i : ℕ) → i < 16 → Times i (get_or c.from_fn.result i 0) =
    made items (λ p. (p.0.now ≡ b) × (p.1.now ≡ t)) Times (λ p q i y s h. ((search rules, search rules), search rules)) (refl, refl) 0 in
    times_each t b c.from_fn.result c.requires h items.long at
