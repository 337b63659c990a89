-- `cipher::inverse` meets its contract: what is left of the rounds, from j - 1 down, makes of the state what they all make of the first.
-- Assumes nothing.
use Rattle.std.proofs.Common.{◌≡◌, ℕ, ◌-◌, List, arith, refl, sym, ap, ◌∙◌}
use Rattle.block.specs.Xor.{◌⊕◌}
use Rattle.sbox.specs.Sub.{inv_sub_bytes}
use Rattle.rounds.specs.Steps.{inv_mix_columns}
use Rattle.cipher.specs.Cipher.{round_key, inverse_from, inv_cipher}
use Rattle.cipher.proofs.RoundLaws.{round_undone, last_undone}
use Rattle.cipher.proofs.inverse.Goals as goal

pub loop-j-init : goal.loop-j-init
loop-j-init c = refl

pub loop-j-preserved : goal.loop-j-preserved
loop-j-preserved c =
    let j = c.loop-j.j - 1 in
    let keys = c.args.keys.keys in
    ap (λ (s : List ℕ). inverse_from keys (j - 1) s)
    (c.inv_mix_columns-s.ensures
    ∙ ap inv_mix_columns
    (c.xor.ensures ∙ ap (λ (t : List ℕ). t ⊕ round_key keys j) (c.inv_sub_bytes.ensures ∙ ap inv_sub_bytes c.inv_shift_rows.ensures)))
    ∙ round_undone keys j c.loop-j.s (omega arith)
    ∙ c.loop-j.invariant

pub returns : goal.returns
unfolding inv_cipher
returns c =
    let keys = c.args.keys.keys in
    let e : c.loop-j.j - 1 ≡ 0 = omega arith in
    c.xor-2.ensures
    ∙ ap (λ (t : List ℕ). t ⊕ round_key keys 0) (c.inv_sub_bytes-2.ensures ∙ ap inv_sub_bytes c.inv_shift_rows-2.ensures)
    ∙ last_undone keys c.loop-j.s
    ∙ ap (λ (n : ℕ). inverse_from keys n c.loop-j.s) (sym e)
    ∙ c.loop-j.invariant
    ∙ ap (λ (s : List ℕ). inverse_from keys (c.args.keys.rounds - 1) s) c.xor-s.ensures
