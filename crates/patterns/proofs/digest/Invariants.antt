-- `patterns::digest` meets its contract: what is left of the message, from the digest so far, gives the whole digest.
-- Assumes nothing.
use Rattle.std.proofs.Common.{◌≡◌, ◌<◌, drop}
use Rattle.patterns.specs.Digest.{digest_from}
use Rattle.patterns.proofs.digest.Given as goal

abbrev pub invariant-loop-x : goal.invariant-loop-x
invariant-loop-x l = (l.h < 2147483647) × (digest_from l.h (drop l.x-index l.s) ≡ digest_from 0 l.s)
