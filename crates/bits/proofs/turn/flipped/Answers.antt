-- `bits::turn::flipped` meets its contract: the three layers together exchange rows and columns.
-- Assumes nothing.
use mathlib.Core.Path.{sym, ap, subst, ◌∙◌}
use mathlib.Core.List.{List}
use Prim.Native.Nat.{ℕ}
use Rattle.bits.specs.Planes.{words, Flipped}
use Rattle.bits.specs.Wires.{wired, flip_twos, flip_fours}
use Rattle.bits.proofs.WireLaws.{flipped_bits}
use Rattle.bits.proofs.turn.flipped.Goals as goal

pub returns : goal.returns
returns c =
    let q = c.args.q in
    subst (λ (ws : List ℕ). Flipped (words q) ws)
    (sym
    (c.flip_fours.ensures
    ∙ ap (wired flip_fours) (c.flip_twos.ensures ∙ ap (wired flip_twos) c.flip_ones.ensures)))
    (flipped_bits (words q))
