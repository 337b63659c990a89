-- `cipher::lanes::forward` meets its contract: before the turn at index i each of the blocks has gone through the rounds 1 to i.
-- Assumes nothing.
use Rattle.std.proofs.Common.{◌≡◌, ℕ, ◌-◌, List, arith, ap, ap₂, ◌∙◌}
use Rattle.block.specs.Xor.{◌⊕◌}
use Rattle.sbox.specs.Sub.{sub_bytes}
use Rattle.rounds.specs.Steps.{shift_rows, mix_columns}
use Rattle.planes.specs.Lanes.{lane}
use Rattle.cipher.specs.Cipher.{round_key, through_rounds, cipher}
use Rattle.cipher.proofs.RoundLaws.{no_round, round_done, key_at, length_keys}
use Rattle.cipher.proofs.lanes.forward.Goals as goal

pub loop-key-init : goal.loop-key-init
loop-key-init c l h = no_round c.args.keys.keys (lane c.add.new.s l)

pub loop-key-preserved : goal.loop-key-preserved
loop-key-preserved c l h =
    let keys = c.args.keys.keys in
    let i = c.loop-key.key-index in
    c.add-in-loop-key.ensures l h
    ∙ ap₂ (λ (t k : List ℕ). t ⊕ k)
    (c.mix.ensures l h
    ∙ ap mix_columns (c.sub_shift.ensures l h ∙ ap (λ (t : List ℕ). shift_rows (sub_bytes t)) (c.loop-key.invariant l h)))
    (key_at keys (c.args.keys.rounds - 1) i (omega arith))
    ∙ round_done keys i (lane c.add.new.s l)

pub returns : goal.returns
unfolding cipher
returns c l h =
    let keys = c.args.keys.keys in
    let nr = c.args.keys.rounds in
    let e : c.loop-key.key-index ≡ nr - 1 = omega (arith, length_keys keys (nr - 1) (omega arith)) in
    c.add-2.ensures l h
    ∙ ap (λ (t : List ℕ). t ⊕ round_key keys nr)
    (c.sub_shift-2.ensures l h
    ∙ ap (λ (t : List ℕ). shift_rows (sub_bytes t))
    (c.loop-key.invariant l h ∙ ap₂ (λ (n : ℕ) (s : List ℕ). through_rounds keys n s) e (c.add.ensures l h)))
