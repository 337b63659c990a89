-- Gates as data. A list of gates is run over the words that are known, the newest first: each gate's answer joins them at the front, and its
-- two numbers are places among those known before it.
-- Assumes nothing.
use Rattle.std.specs.Prelude.{List, [], ◌∷◌, ℕ, get_or}
use Rattle.std.specs.Int.Bits.{bit_xor, bit_and}

pub data Gate : Type 0 where
  xor : ℕ → ℕ → Gate
  and : ℕ → ℕ → Gate

abbrev pub gate : Gate → List ℕ → ℕ
gate (xor i j) ws = bit_xor (get_or ws i 0) (get_or ws j 0)
gate (and i j) ws = bit_and (get_or ws i 0) (get_or ws j 0)

abbrev pub run : List Gate → List ℕ → List ℕ
run [] ws = ws
run (g ∷ p) ws = run p (gate g ws ∷ ws)

abbrev pub picks : List ℕ → List ℕ → List ℕ
picks [] ws = []
picks (i ∷ is) ws = get_or ws i 0 ∷ picks is ws

-- the words at the places `is`, once the gates are run
unfoldable pub stage : List Gate → List ℕ → List ℕ → List ℕ
stage p is ws = picks is (run p ws)

-- a word of ones: xor with it turns every bit over
abbrev pub ones : ℕ
ones = 0xffffffff
