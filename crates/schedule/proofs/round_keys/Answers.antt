-- `schedule::round_keys` meets its contract: the blocks of the bytes, one after the other.
-- Assumes nothing.
use Rattle.std.proofs.Common.{ℕ, ◌/◌, List, ap, ◌∙◌}
use Rattle.std.specs.Simd.{first_chunks}
use Rattle.schedule.proofs.Laws.{blocks_at}
use Rattle.schedule.proofs.round_keys.Goals as goal

pub returns : goal.returns
returns c =
    let w : List ℕ = c.args.w.now in
    c.copy_from_slice.ensures.after
    ∙ c.as_chunks.ensures.front
    ∙ ap (λ (n : ℕ). first_chunks 16 (n / 16) w) c.told-w
    ∙ blocks_at 15 0 w
