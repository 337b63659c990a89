-- `field::powers::power` meets its contract. It calls itself with the half of k, so that the measure is k; the halving's laws are in FieldLaws.
-- Assumes nothing.
use Rattle.field.proofs.powers.+power.Given as goal

abbrev pub decreases-power : goal.decreases-power
decreases-power l = l.k
