-- `planes::sub_shift` meets its contract: SubBytes goes byte by byte, so it may come after ShiftRows.
-- Assumes nothing.
use native.Mathlib.Omega.{arith}
use Rattle.sbox.specs.Sub.{sub, sub_bytes}
use Rattle.rounds.specs.Steps.{shift_rows}
use Rattle.planes.specs.Planes.{picked}
use Rattle.planes.proofs.Laws.{map_lanes}
use Rattle.planes.proofs.sub_shift.Goals as goal

pub returns : goal.returns
unfolding picked shift_rows sub_bytes
returns c =
    map_lanes sub (picked 4) c.args.s.now c.pick.new.d c.sub_all.new.s (omega arith)
    c.sub_all.ensures c.pick.ensures
