-- `aes::call` meets its contract: each return follows from the tests before it, in their order.
-- Assumes nothing.
use mathlib.Core.Path.{◌≡◌, sym, ap₂, ◌∙◌}
use mathlib.Core.Bool.{true}
use mathlib.Core.List.{List}
use Prim.Native.Nat.{ℕ}
use lib.ListN.{length}
use Rattle.schedule.specs.Size.{key_size}
use Rattle.cipher.specs.Cipher.{crypted}
use Rattle.aes.proofs.Ladder.{key_refused, block_refused, done, over}
use Rattle.aes.proofs.call.Goals as goal
use Rattle.aes.proofs.call.Goals.{Else-not-key_size}

pub returns-then-not-key_size : goal.returns-then-not-key_size
returns-then-not-key_size c =
    let a = c.args in
    key_refused a.back a.key.now a.block.now (sym c.key_size.ensures ∙ c.if-not-key_size.true)

-- past the first test the key has one of the sizes
sized : (c : Else-not-key_size) → key_size (length c.args.key.now) ≡ true
sized c = sym c.key_size.ensures ∙ c.if-not-key_size.false

pub returns-then-block-ne16 : goal.returns-then-block-ne16
returns-then-block-ne16 c =
    let a = c.args in
    block_refused a.back a.key.now a.block.now (sized (goal.at.returns-then-block-ne16 c).Else-not-key_size) c.if-block-ne16.true

pub key_setup-requires : goal.key_setup-requires
key_setup-requires c = sized (goal.at.key_setup-requires c).Else-not-key_size

pub returns : goal.returns
returns c =
    let a = c.args in
    let k : List ℕ = a.key.now in
    let b : List ℕ = a.block.now in
    done a.back k b (sized (goal.at.returns c).Else-not-key_size) c.if-block-ne16.false c.put.new.s
    (c.put.ensures
    ∙ over a.back k b c.if-block-ne16.false c.load-b.result c.crypt.result c.load-b.ensures
    (c.crypt.ensures
    ∙ ap₂ (λ (keys : List (List ℕ)) (n : ℕ). crypted a.back keys n c.load-b.result) c.key_setup.ensures.keys c.key_setup.ensures.rounds))
