-- `cipher::lanes::inverse` meets its contract: of each of the blocks, what is left of the rounds makes what they all make of the first.
-- Assumes nothing.
use Rattle.std.proofs.Common.{◌≡◌, ℕ, ◌-◌, List, arith, refl, sym, ap, ◌∙◌}
use Rattle.block.specs.Xor.{◌⊕◌}
use Rattle.rounds.specs.Steps.{inv_mix_columns}
use Rattle.planes.specs.Lanes.{lane}
use Rattle.cipher.specs.Cipher.{round_key, inverse_from, inv_cipher}
use Rattle.cipher.proofs.RoundLaws.{round_undone, last_undone}
use Rattle.cipher.proofs.lanes.inverse.Goals as goal

pub loop-j-init : goal.loop-j-init
loop-j-init c l h = refl

pub loop-j-preserved : goal.loop-j-preserved
loop-j-preserved c l h =
    let j = c.loop-j.j - 1 in
    let keys = c.args.keys.keys in
    ap (λ (t : List ℕ). inverse_from keys (j - 1) t)
    (c.inv_mix.ensures l h
    ∙ ap inv_mix_columns (c.add-in-loop-j.ensures l h ∙ ap (λ (t : List ℕ). t ⊕ round_key keys j) (c.inv_shift_sub.ensures l h)))
    ∙ round_undone keys j (lane c.loop-j.b l) (omega arith)
    ∙ c.loop-j.invariant l h

pub returns : goal.returns
unfolding inv_cipher
returns c l h =
    let keys = c.args.keys.keys in
    let e : c.loop-j.j - 1 ≡ 0 = omega arith in
    c.add-2.ensures l h
    ∙ ap (λ (t : List ℕ). t ⊕ round_key keys 0) (c.inv_shift_sub-2.ensures l h)
    ∙ last_undone keys (lane c.loop-j.b l)
    ∙ ap (λ (n : ℕ). inverse_from keys n (lane c.loop-j.b l)) (sym e)
    ∙ c.loop-j.invariant l h
    ∙ ap (λ (t : List ℕ). inverse_from keys (c.args.keys.rounds - 1) t) (c.add.ensures l h)
