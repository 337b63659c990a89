-- An array of u8 by value is a list of bytes: what a function is told of such a parameter, or of such a result of a call, says so.
-- Assumes nothing.
use Rattle.std.proofs.Common.{ℕ, zero, suc, ◌<◌, List, [], ◌∷◌, get_or, lit<, w8}
use mir.Val.{Val}
use denote.Laws.{Is}
use denote.Shadow.{shadow}
use denote.Plain.{UInt}
use denote.Array.{Array, each}
use Rattle.block.specs.Bytes.{Bytes, Block}

each_below : (xs : List ℕ) (us : List Val) → shadow (each ℕ (UInt w8).own_val xs us) → (i : ℕ) → get_or xs i 0 < 256
each_below [] us p i = lit< tt
each_below (x ∷ xs) [] p i = absurd p
each_below (x ∷ xs) (u ∷ us) p zero = p.0.1
each_below (x ∷ xs) (u ∷ us) p (suc i) = each_below xs us p.1 i

pub array_bytes : (n : ℕ) (xs : List ℕ) (vs : List Val) → Is (Array (UInt w8) n) xs vs → Bytes xs
array_bytes n xs vs p = record { below = each_below xs p.0 p.1.1 }

pub array_block : (xs : List ℕ) (vs : List Val) → Is (Array (UInt w8) 16) xs vs → Block xs
array_block xs vs p = record { size = p.1.0.1; bytes = array_bytes 16 xs vs p }
