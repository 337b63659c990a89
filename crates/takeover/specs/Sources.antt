-- 02, order 3: what the conversion of a data unit under XTS-AES comes to, before add's own tests: 15, 16, or the deciphered unit.
-- Assumes nothing.
use Rattle.std.specs.Prelude.{◌≡◌, true, cond, not, List, ℕ, length}
use Rattle.numbers.specs.declared.Refusal.TheVariants.{XtsKeyLength, UnitLength}
use Rattle.store.specs.Conversions.{Source, refuses, gives}
use Rattle.xts.specs.Xts.{key_taken, bad_unit, number, xts}

-- a unit that is refused with neither
abbrev pub Taken : (k u : List ℕ) → Type 0
Taken k u = number (length k) (length u) ≡ 0

-- unit number i, with the bytes u, under the XTS key k
unfoldable pub xts_source : (k : List ℕ) (i : ℕ) (u : List ℕ) → Source
xts_source k i u =
    cond (not (key_taken (length k))) (refuses XtsKeyLength) (cond (bad_unit (length u)) (refuses UnitLength) (gives (xts true k i u)))
