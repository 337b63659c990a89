-- `eme2::transform` meets its contract: the key's fields, then what the calls ensure.
-- Assumes nothing.
use mathlib.Core.Path.{ap, ◌∙◌}
use mathlib.Core.List.{List}
use Prim.Native.Nat.{ℕ, ◌≤◌}
use native.Mathlib.Omega.{arith}
use lib.ListN.{length}
use Rattle.aes.specs.Aes.{key_size}
use Rattle.eme2.proofs.KeyLaws.{length-Key1, key_long, transformed}
use Rattle.eme2.proofs.transform.Goals as goal

pub overflow_sub-end : goal.overflow_sub-end
overflow_sub-end c = omega (arith, key_long c.args.key.now c.requires.0)

pub key_setup-keys-requires : goal.key_setup-keys-requires
key_setup-keys-requires c =
    let k : List ℕ = c.args.key.now in
    let h : 32 ≤ length k = omega (arith, key_long k c.requires.0) in
    ap key_size (length-Key1 k h) ∙ c.requires.0

pub overflow_add-end : goal.overflow_add-end
overflow_add-end c = omega (arith, key_long c.args.key.now c.requires.0)

pub load-requires : goal.load-requires
load-requires c = omega (arith, key_long c.args.key.now c.requires.0)

pub load-requires-2 : goal.load-requires-2
load-requires-2 c = omega (arith, key_long c.args.key.now c.requires.0)

pub returns : goal.returns
returns c =
    let a = c.args in
    let k : List ℕ = a.key.now in
    let r = c.key_setup-keys.result in
    transformed k (omega (arith, key_long k c.requires.0)) a.back a.ad.now a.message.now r.keys r.rounds
    c.load.result c.t_star-t.result c.load-2.result c.wide.new.s c.key_setup-keys.ensures.keys c.key_setup-keys.ensures.rounds
    c.load.ensures c.t_star-t.ensures c.load-2.ensures c.wide.ensures
