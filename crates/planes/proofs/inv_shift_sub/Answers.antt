-- `planes::inv_shift_sub` meets its contract: k = 12 picks what InvShiftRows picks, and InvSubBytes goes byte by byte.
-- Assumes nothing.
use native.Mathlib.Omega.{arith}
use Rattle.sbox.specs.Sub.{inv_sub, inv_sub_bytes}
use Rattle.rounds.specs.Steps.{inv_shift_rows}
use Rattle.planes.specs.Planes.{picked}
use Rattle.planes.proofs.Laws.{map_lanes}
use Rattle.planes.proofs.inv_shift_sub.Goals as goal

pub returns : goal.returns
unfolding picked inv_shift_rows inv_sub_bytes
returns c =
    map_lanes inv_sub (picked 12) c.args.s.now c.pick.new.d
    c.inv_sub_all.new.s (omega arith)
    c.inv_sub_all.ensures c.pick.ensures
