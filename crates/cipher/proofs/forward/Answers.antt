-- `cipher::forward` meets its contract: before the turn at index i the state has gone through the rounds 1 to i.
-- Assumes nothing.
use Rattle.std.proofs.Common.{◌≡◌, ℕ, ◌-◌, List, arith, ap, ap₂, ◌∙◌}
use Rattle.block.specs.Xor.{◌⊕◌}
use Rattle.sbox.specs.Sub.{sub_bytes}
use Rattle.rounds.specs.Steps.{shift_rows, mix_columns}
use Rattle.cipher.specs.Cipher.{round_key, through_rounds, cipher}
use Rattle.cipher.proofs.RoundLaws.{no_round, round_done, key_at, length_keys}
use Rattle.cipher.proofs.forward.Goals as goal

pub loop-key-init : goal.loop-key-init
loop-key-init c = no_round c.args.keys.keys c.xor-s.result

pub loop-key-preserved : goal.loop-key-preserved
loop-key-preserved c =
    let i = c.loop-key.key-index in
    let keys = c.args.keys.keys in
    c.xor-s-in-loop-key.ensures
    ∙ ap₂ (λ (t k : List ℕ). t ⊕ k)
    (c.mix_columns.ensures
    ∙ ap mix_columns (c.shift_rows.ensures ∙ ap shift_rows (c.sub_bytes.ensures ∙ ap sub_bytes c.loop-key.invariant)))
    (key_at keys _ i (omega arith))
    ∙ round_done keys i c.xor-s.result

pub returns : goal.returns
unfolding cipher
returns c =
    let keys = c.args.keys.keys in
    let nr = c.args.keys.rounds in
    let e : c.loop-key.key-index ≡ nr - 1 = omega (arith, length_keys keys (nr - 1) (omega arith)) in
    c.xor.ensures
    ∙ ap (λ (t : List ℕ). t ⊕ round_key keys nr)
    (c.shift_rows-2.ensures
    ∙ ap shift_rows
    (c.sub_bytes-2.ensures
    ∙ ap sub_bytes (c.loop-key.invariant ∙ ap₂ (λ (n : ℕ) (s : List ℕ). through_rounds keys n s) e c.xor-s.ensures)))
