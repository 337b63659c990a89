-- `wide::associated::t_star` meets its contract: the sum so far, and what the blocks that are left add to it, is the whole.
-- Assumes nothing.
use Rattle.std.proofs.Common.{◌≡◌, false, ◌*◌, drop, replicate}
use Rattle.aes.specs.Aes.{crypted}
use Rattle.wide.proofs.AssociatedLaws.{left}
use Rattle.wide.proofs.associated.t_star.Given as goal

abbrev pub invariant-loop-x : goal.invariant-loop-x
invariant-loop-x l =
    left (crypted false l.keys.keys l.keys.rounds) l.sum l.m (drop (16 * l.x-index) l.ad)
    ≡ left (crypted false l.keys.keys l.keys.rounds) (replicate 16 0) l.initial.m l.ad
