-- `schedule::changed` meets its contract: each return is a case of `temp`, by the tests before it.
-- Assumes nothing.
use mathlib.Core.Path.{◌≡◌, refl, sym, ap, ◌∙◌}
use mathlib.Core.Bool.{true, false}
use mathlib.Core.List.{List}
use Prim.Native.Nat.{ℕ, ◌/◌, ◌%◌}
use native.Mathlib.Omega.{arith}
use borrow.Author.Tests.{eq-eqb, ne_eqb, lt-ltb, le-ltb}
use borrow.Author.Rules.{rules}
use lib.Dec.{eqb, ltb}
use lib.ListN.{length}
use Rattle.block.specs.Xor.{◌⊕◌}
use Rattle.schedule.specs.KeyExpansion.{Rcon, rot_word}
use Rattle.schedule.proofs.Laws.{temp_by, with_rcon, quotient}
use Rattle.schedule.proofs.changed.Goals as goal

pub overflow_sub-result : goal.overflow_sub-result
overflow_sub-result c = let a = c.args in (quotient a.nk a.i (omega arith) (omega arith) (omega arith)).0

pub returns-then-i-nk-eq0 : goal.returns-then-i-nk-eq0
unfolding rot_word
returns-then-i-nk-eq0 c =
    let a = c.args in
    let m = a.i % a.nk in
    let l : length c.sub_word-r.result ≡ 4 = search rules in
    sym (with_rcon c.sub_word-r.result (a.i / a.nk) l)
    ∙ ap (λ (r : List ℕ). r ⊕ Rcon (a.i / a.nk)) c.sub_word-r.ensures
    ∙ sym (temp_by a.nk a.i a.t true (ltb 6 a.nk) (eqb m 4) (eq-eqb m 0 c.if-i-nk-eq0.true) refl refl)

pub returns-then-nk-le6 : goal.returns-then-nk-le6
returns-then-nk-le6 c =
    let a = c.args in
    let m = a.i % a.nk in
    sym (temp_by a.nk a.i a.t false false (eqb m 4) (ne_eqb m 0 c.if-i-nk-eq0.false) (le-ltb 6 a.nk c.if-nk-le6.true) refl)

pub returns-then-i-nk-eq4 : goal.returns-then-i-nk-eq4
returns-then-i-nk-eq4 c =
    let a = c.args in
    let m = a.i % a.nk in
    c.sub_word.ensures
    ∙ sym
    (temp_by a.nk a.i a.t false true true (ne_eqb m 0 c.if-i-nk-eq0.false) (lt-ltb 6 a.nk c.if-nk-le6.false) (eq-eqb m 4 c.if-i-nk-eq4.true))

pub returns : goal.returns
returns c =
    let a = c.args in
    let m = a.i % a.nk in
    sym (temp_by a.nk a.i a.t false true false (ne_eqb m 0 c.if-i-nk-eq0.false) (lt-ltb 6 a.nk c.if-nk-le6.false) (ne_eqb m 4 c.if-i-nk-eq4.false))
