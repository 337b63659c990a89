-- `rounds::each_times_x` meets its contract, place by place.
-- Assumes nothing.
use Rattle.std.proofs.Common.{◌≡◌, ℕ, ◌<◌, sym, ◌∙◌, arith, rules}
use Rattle.std.proofs.lemmas.List.{ext_get_or}
use Rattle.block.specs.Tab.{byte}
use Rattle.block.proofs.TabLaws.{get_or-tab}
use Rattle.sbox.specs.Field.{xtime}
use Rattle.rounds.specs.Steps.{each_times_x}
use Rattle.rounds.proofs.each_times_x.Goals as goal

pub returns : goal.returns
returns c =
    let s = c.args.s in
    let r = c.from_fn.result in
    let at : (i : ℕ) → i < 16 → byte r i ≡ xtime (byte s i) = λ i h. search rules in
    ext_get_or 0 r (each_times_x s) c.from_fn.ensures.items.long
    (λ i h. at i (omega (arith, c.from_fn.ensures.items.long)) ∙ sym (get_or-tab 16 (λ j. xtime (byte s j)) i 0 (omega (arith, c.from_fn.ensures.items.long))))
