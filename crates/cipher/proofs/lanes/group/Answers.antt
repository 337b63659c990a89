-- `cipher::lanes::group` meets its contract: the lanes are the blocks, before and after.
-- Assumes nothing.
use mathlib.Core.Path.{sym, ap, ◌∙◌}
use mathlib.Core.List.{List, ◌++◌, map}
use Prim.Native.Nat.{ℕ, ◌+◌, ◌*◌}
use native.Mathlib.Omega.{arith}
use lib.ListN.{take, drop}
use Rattle.block.specs.Blocks.{join}
use Rattle.block.proofs.TabLaws.{tab_ext, map_tab}
use Rattle.planes.specs.Lanes.{lane}
use Rattle.planes.proofs.Laws.{lanes_blocks}
use Rattle.cipher.specs.Cipher.{crypted}
use Rattle.cipher.proofs.lanes.group.Goals as goal

pub returns : goal.returns
returns c =
    let s : List ℕ = c.args.s.now in
    let n = c.args.n in
    let at = c.args.at in
    let f : List ℕ → List ℕ = crypted c.args.back c.args.keys.keys c.args.keys.rounds in
    let b : List ℕ = c.spread.new.d in
    let a : List ℕ = c.crypt_lanes.new.a in
    c.gather.ensures
    ∙ ap (λ (bs : List (List ℕ)). take at s ++ join bs ++ drop (at + 16 * n) s)
    (tab_ext n (lane a) (λ l. f (lane b l)) (λ l h. c.crypt_lanes.ensures l (omega arith))
    ∙ sym (map_tab f (lane b) n)
    ∙ ap (map f) (lanes_blocks b s at n c.spread.ensures))
