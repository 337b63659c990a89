-- `bits::turn::spread` meets its contract: words of bytes, turned, are planes.
-- Assumes nothing.
use mathlib.Core.Path.{◌≡◌, refl}
use Prim.Native.Nat.{◌*◌}
use borrow.Author.Rules.{rules}
use Rattle.block.proofs.MadeLaws.{made}
use Rattle.bits.specs.Planes.{Word}
use Rattle.bits.proofs.TurnLaws.{spread_eight}
use Rattle.bits.proofs.turn.spread.Goals as goal

pub returns : goal.returns
returns c =
    let s = c.args.s in
    spread_eight s.now c.from_fn.result c.over_planes.new.group
    (record { at = made c.from_fn.ensures.items (λ p. p.0 ≡ s) (λ i w. Word w s.now (4 * i)) (λ p q i w same k. search rules) refl 0 })
    (λ t h. (c.over_planes.ensures.at t h).1)
