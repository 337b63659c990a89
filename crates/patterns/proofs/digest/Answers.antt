-- `patterns::digest` meets its contract: what is left of the message, from the digest so far, gives the whole digest.
-- Assumes nothing.
use Rattle.std.proofs.Common.{ℕ, ◌+◌, List, drop, sym, ap, ◌∙◌, arith}
use Rattle.std.proofs.lemmas.List.{at_drop_more, at_drop_all}
use Rattle.patterns.specs.Digest.{digest_from}
use Rattle.patterns.proofs.digest.Goals as goal

pub loop-x-preserved : goal.loop-x-preserved
unfolding digest_from
loop-x-preserved c =
    let l = c.loop-x in
    let s : List ℕ = c.args.s.now in (
      omega (arith, c.digest_step-h.ensures),
      ap (λ (h : ℕ). digest_from h (drop (l.x-index + 1) s)) c.digest_step-h.ensures
          ∙ sym (at_drop_more (digest_from l.h) s l.x-index 0 (omega arith)) ∙ l.invariant.1,
    )

pub returns : goal.returns
unfolding digest_from
returns c = sym (at_drop_all (digest_from c.loop-x.h) c.args.s.now c.loop-x.x-index (omega arith)) ∙ c.loop-x.invariant.1
