-- `block::copy` meets its contract: after i turns i bytes of the text stand in their place.
-- Assumes nothing.
use Rattle.std.proofs.Common.{◌≡◌, ℕ, ◌+◌, ◌≤◌, List, ◌++◌, length, get_or, take, drop, set, sym, refl, ap, ◌∙◌, append_assoc, le_of_eq, add-one}
use Rattle.std.proofs.Common.{arith, take_all}
use lib.Seq.{paste, paste-zero, paste-suc}
use Rattle.block.proofs.copy.Goals as goal

pub loop-i-init : goal.loop-i-init
loop-i-init c = paste-zero c.args.s.now c.args.at c.args.text.now

pub loop-i-preserved : goal.loop-i-preserved
loop-i-preserved c =
    let a = c.args in
    let s : List ℕ = a.s.now in
    let t : List ℕ = a.text.now in
    let i : ℕ = c.loop-i.i in
    let h : a.at + length t ≤ length s = c.requires in
    ap (λ (z : List ℕ). set z (a.at + i) (get_or t i 0)) c.loop-i.invariant
    ∙ paste-suc s a.at t i 0 (omega arith) (omega arith)
    ∙ ap (λ (n : ℕ). paste s a.at t n) (sym (add-one i))

pub returns : goal.returns
returns c =
    let a = c.args in
    let s : List ℕ = a.s.now in
    let t : List ℕ = a.text.now in
    let e : c.loop-i.i ≡ length t = omega arith in
    let d : List ℕ = drop (a.at + length t) s in
    c.loop-i.invariant
    ∙ ap (λ (n : ℕ). paste s a.at t n) e
    ∙ ap (λ (z : List ℕ). take a.at s ++ z ++ d) (take_all (length t) t (le_of_eq refl))
    ∙ append_assoc (take a.at s) t d
