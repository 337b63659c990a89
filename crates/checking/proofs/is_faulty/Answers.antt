-- `checking::is_faulty` meets its contract: each return is a case of the test on the slot's record.
-- Assumes nothing.
use mathlib.Core.Path.{◌≡◌, sym, ap, ◌∙◌}
use mathlib.Core.Bool.{true}
use mathlib.Core.List.{List}
use Prim.Native.Nat.{ℕ}
use lib.Dec.{ltb}
use Rattle.std.proofs.Common.{rules}
use Rattle.records.specs.Record.{num, sound}
use Rattle.slots.specs.Slots.{slots, slot, find}
use Rattle.checking.proofs.CheckLaws.{lower_than, faulty_unsound, faulty_free, faulty_used}
use Rattle.checking.proofs.is_faulty.Goals as goal
use Rattle.checking.proofs.is_faulty.Goals.{Else-not-is_sound}

pub returns-then-not-is_sound : goal.returns-then-not-is_sound
returns-then-not-is_sound c =
    let a = c.args in
    sym (faulty_unsound a.store.now a.k (sym (c.is_sound.ensures ∙ ap sound c.record_at-r.ensures) ∙ c.if-not-is_sound.true))

-- past the first test the slot is sound
sounded : (c : Else-not-is_sound) → sound (slot c.args.store.now c.args.k) ≡ true
sounded c = sym (c.is_sound.ensures ∙ ap sound c.record_at-r.ensures) ∙ c.if-not-is_sound.false

pub returns-then-n-eq0 : goal.returns-then-n-eq0
returns-then-n-eq0 c =
    let a = c.args in
    let n = c.number-n.ensures ∙ ap num c.record_at-r.ensures in
    sym (faulty_free a.store.now a.k (sounded (goal.at.returns-then-n-eq0 c).Else-not-is_sound) (sym n ∙ c.if-n-eq0.true))

pub returns : goal.returns
returns c =
    let a = c.args in
    let s : List ℕ = a.store.now in
    let r : List ℕ = slot s a.k in
    let n : c.number-n.result ≡ num r = c.number-n.ensures ∙ ap num c.record_at-r.ensures in
    let m : ℕ = find s c.number-n.result in
    lower_than m (slots s) a.k c.find.result c.is_some_and.result _ c.find.ensures c.requires (λ x q. search rules) c.is_some_and.ensures
    ∙ ap (λ (i : ℕ). ltb (find s i) a.k) n
    ∙ sym (faulty_used s a.k (sounded (goal.at.returns c).Else-not-is_sound) (λ (z : num r ≡ 0). c.if-n-eq0.false (n ∙ z)))
