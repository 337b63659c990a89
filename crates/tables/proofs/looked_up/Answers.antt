-- `tables::looked_up` meets its contract: a list of N bytes is the table of its bytes.
-- Assumes nothing.
use mathlib.Core.Path.{◌≡◌, sym, ap, ◌∙◌}
use mathlib.Core.List.{List, map}
use Prim.Native.Nat.{ℕ}
use borrow.Author.Rules.{rules}
use lib.ListN.{length}
use Rattle.block.specs.Tab.{byte}
use Rattle.block.proofs.TabLaws.{tab_eta, map_tab}
use Rattle.tables.proofs.looked_up.Goals as goal

pub returns : goal.returns
returns g c =
    let f : ℕ → ℕ = λ x. byte c.args.t.now x in
    let s : List ℕ = c.args.s in
    let l : length s ≡ g.row.N = search rules in
    c.all_looked_up.ensures ∙ sym (ap (map f) (tab_eta g.row.N s 0 l)) ∙ map_tab f (λ i. byte s i) g.row.N
