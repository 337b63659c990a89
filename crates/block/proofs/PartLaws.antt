-- A part of a slice that a call has changed, as the list that it makes of the whole.
-- Assumes nothing.
use Rattle.std.proofs.Common.{◌≡◌, ℕ, ◌-◌, ◌≤◌, List, ◌++◌, take, drop, ap}
use borrow.Rule.Slice.PartMut.{put_mid, Post-is}

-- the part starts at a and ends at e, and became t
pub part_changed : (a e : ℕ) (s t : List ℕ) → a ≤ e → put_mid a (e - a) s t ≡ take a s ++ (t ++ drop e s)
part_changed a e s t h = ap (λ (d : List ℕ). take a s ++ (t ++ d)) (Post-is a e s h)
