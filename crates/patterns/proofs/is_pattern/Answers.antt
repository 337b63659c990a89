-- `patterns::is_pattern` meets its contract: all bytes with their places pass, or one does not.
-- Assumes nothing.
use Rattle.std.proofs.Common.{ℕ, ◌≡◌, ◌<◌, Bool, true, false, List, length, MatchBool, get_or, rules, arith, zero-add, subst, ap, ◌∙◌}
use Rattle.std.specs.List.{HoldsAt, AllWithin, enumerate_from}
use Rattle.std.proofs.lemmas.Iterator.{cases_from_all, YieldsList-from_slice}
use Rattle.std.proofs.lemmas.Iterator.Consumers.{YieldsList-from_enumerate}
use Rattle.std.proofs.lemmas.List.FromFn.{length-enumerate_from, get_or-enumerate_from}
use Rattle.patterns.specs.Pattern.{pattern_byte, Pattern}
use Rattle.patterns.proofs.is_pattern.Goals as goal

module _ (by from : ℕ) (s : List ℕ) where
  abbrev Fits : ℕ × ℕ → Type 0
  Fits p = p.1 ≡ pattern_byte by from p.0

  abbrev Fails : ℕ × ℕ → Type 0
  Fails p = Fits p → ⊥

  paired : (k : ℕ) → k < length s → get_or (enumerate_from 0 s) k (0, 0) ≡ (k, get_or s k 0)
  paired k h = get_or-enumerate_from 0 s k (0, 0) h ∙ ap (λ (j : ℕ). (j, get_or s k 0)) (zero-add k)

  decided : (r : Bool)
      → MatchBool r (AllWithin Fits (enumerate_from 0 s) 0 (length (enumerate_from 0 s)))
      ((k : ℕ) × (k < length (enumerate_from 0 s)) × HoldsAt Fails (enumerate_from 0 s) k)
      → (r ≡ true → Pattern by from s) × (r ≡ false → Pattern by from s → ⊥)
  decided true all = (
    λ _ k h. subst Fits (paired k h) (all k (0, 0) (omega arith) (omega (arith, length-enumerate_from 0 s))),
    λ e. cc,
  )
  decided false (k, h, fails) = (
    λ e. cc,
    λ _ p.
        let within : k < length s = omega (arith, length-enumerate_from 0 s) in
        subst Fails (paired k within) (fails (0, 0)) (p k within),
  )

pub returns : goal.returns
returns c =
    let a = c.args in
    decided a.by a.from a.s.now c.all.result
    (cases_from_all _ _ _ (Fits a.by a.from a.s.now) (Fails a.by a.from a.s.now) c.all.ensures.ran
    (YieldsList-from_enumerate (YieldsList-from_slice a.s.now cc) cc)
    (λ x q k. search rules) (λ x q k. search rules))
