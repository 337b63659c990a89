-- `block::doubled` meets its contract, place by place: byte 0 by itself, and what each call says of a byte after it.
-- Assumes nothing.
use Rattle.std.proofs.Common.{◌≡◌, ℕ, ◌+◌, ◌-◌, ◌%◌, ◌<◌, ◌≤◌, get_or, refl, rules}
use Rattle.block.specs.Double.{carried}
use Rattle.block.proofs.DoubleLaws.{is_double}
use Rattle.block.proofs.MadeLaws.{made}
use Rattle.block.proofs.doubled.Goals as goal

pub returns : goal.returns
returns c =
    let x = c.args.x in
    let items = c.from_fn.ensures.items in
    let After : ℕ → ℕ → Type 0 = λ i y. 1 ≤ i → y ≡ (get_or x i 0 + get_or x i 0) % 256 + carried (get_or x (i - 1) 0) 1 in
    let after : (i : ℕ) → i < 16 → After i (get_or c.from_fn.result i 0) =
    made items (λ p. p.0.now ≡ x) After (λ p q i y s h. (search rules, λ k. search rules)) refl 0 in
    is_double x c.from_fn.result items.long (search rules) (λ i h k. after i k h)
