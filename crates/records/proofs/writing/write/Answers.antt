-- `records::writing::write` meets its contract: lead, text and zeros, one after the other.
-- Assumes nothing.
use mathlib.Core.Path.{ap, ◌∙◌}
use mathlib.Core.List.{List, ◌++◌}
use Prim.Native.Nat.{ℕ, ◌-◌}
use native.Mathlib.Omega.{arith}
use lib.ListN.{length, replicate}
use Rattle.records.specs.Record.{text_most, record_of}
use Rattle.records.proofs.WriteLaws.{length-lead, writing}
use Rattle.records.proofs.writing.write.Goals as goal

pub copy-requires : goal.copy-requires
copy-requires c =
    omega (arith, c.put.auto.s, c.requires)

pub overflow_add-l : goal.overflow_add-l
overflow_add-l c =
    omega (arith, c.requires)

pub clear-requires : goal.clear-requires
clear-requires c =
    omega (arith, c.copy.auto.s, c.put.auto.s, c.requires)

pub shape_of-r : goal.shape_of-r
shape_of-r c =
    c.clear.auto.s ∙ c.copy.auto.s ∙ c.put.auto.s

pub returns : goal.returns
unfolding record_of
returns c =
    let a = c.args in
    let h : List ℕ = c.lead.result in
    c.clear.ensures
    ∙ writing a.r.now h a.text.now c.put.new.s c.copy.new.s c.requires.0
    (ap length c.lead.ensures ∙ length-lead a.n a.v a.m _) c.requires.1 c.put.ensures c.copy.ensures
    ∙ ap (λ (x : List ℕ). x ++ (a.text.now ++ replicate (text_most - length a.text.now) 0)) c.lead.ensures
