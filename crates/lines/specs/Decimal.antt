-- A number in decimal, as ASCII.
-- Assumes nothing.
use Rattle.std.specs.Prelude.{cond, List, [], ◌∷◌, ◌++◌, ℕ, zero, suc, ◌+◌, ◌-◌, ◌*◌, ◌/◌, ◌%◌, ltb}

-- a digit below ten as ASCII
abbrev pub digit : ℕ → ℕ
digit d = 48 + d

-- the digits of n, the last one cut off at most f times. What stands before it is computed only where it is asked for
unfoldable pub digits : ℕ → ℕ → List ℕ
digits zero n = digit n ∷ []
digits (suc f) n = let before : List ℕ = digits f (n / 10) in cond (ltb n 10) (digit n ∷ []) (before ++ (digit (n % 10) ∷ []))

-- no zero in front, and 0 for zero. A number above nine falls with each digit that is cut off, so that n times is enough
unfoldable pub decimal : ℕ → List ℕ
decimal n = digits n n

-- the number that digits stand for, where those before them stand for v
unfoldable pub read_from : ℕ → List ℕ → ℕ
read_from v [] = v
read_from v (d ∷ ds) = read_from (10 * v + (d - 48)) ds
