-- `xts::tweak` meets its contract: the number's block under the second half of the key.
-- Assumes nothing.
use mathlib.Core.Path.{ap, ◌∙◌}
use mathlib.Core.Bool.{false}
use mathlib.Core.List.{List}
use Prim.Native.Nat.{ℕ, ◌-◌, ◌/◌}
use lib.ListN.{length, take, drop}
use Rattle.aes.specs.Aes.{key_size, aes}
use Rattle.xts.specs.Xts.{Key2, tweak}
use Rattle.xts.proofs.KeyLaws.{size_2, key2_part, under}
use Rattle.xts.proofs.tweak.Goals as goal

pub key_setup-keys-requires : goal.key_setup-keys-requires
key_setup-keys-requires c =
    ap (λ (x : List ℕ). key_size (length x)) (key2_part c.args.key.now) ∙ size_2 c.args.key.now c.requires

pub returns : goal.returns
unfolding tweak
returns c =
    let k : List ℕ = c.args.key.now in
    let part : List ℕ = take (length k - length k / 2) (drop (length k / 2) k) in
    let r = c.key_setup-keys.result in
    c.crypt.ensures
    ∙ ap (λ (f : List ℕ → List ℕ). f c.number_block.result)
    (under false r.keys r.rounds part (Key2 k) (key2_part k) c.key_setup-keys.ensures.keys c.key_setup-keys.ensures.rounds)
    ∙ ap (aes false (Key2 k)) c.number_block.ensures
