-- `schedule::key_setup` meets its contract: the key at the front of 240 zeros, expanded there, is what the round keys are read from.
-- Assumes nothing.
use Rattle.std.proofs.Common.{ℕ, List, ◌++◌, drop, replicate, length, ap, ◌∙◌}
use Rattle.schedule.proofs.Laws.{set_up}
use Rattle.schedule.proofs.key_setup.Goals as goal

pub returns-clause-keys : goal.returns-clause-keys
returns-clause-keys c =
    let key : List ℕ = c.args.key.now in
    let zeros : List ℕ = replicate 240 0 in
    c.round_keys.ensures
    ∙ set_up key (c.copy_from_slice.new.self ++ drop (length key) zeros) c.expand.new.w c.requires
    (ap (λ (k : List ℕ). k ++ drop (length key) zeros) c.copy_from_slice.ensures.after)
    c.expand.ensures
