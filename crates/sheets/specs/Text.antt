-- 01, the store: the text of a record in clear, and the record that holds a text under the new key. Under mark 1 or 2 the stored text is
-- enciphered under that key with the whole lead, as stored, for associated data. EME2 is used by what its call makes of a message
-- (`afterwards`), for every key and every length, and never opened.
-- Assumes nothing.
use Rattle.std.specs.Prelude.{true, false, cond, List, ℕ, eqb, length}
use Rattle.eme2.specs.Transform.{afterwards}
use Rattle.records.specs.Record.{mark, lead_of, stored, lead, record_of}

-- the text in clear, with the old key o and the new key w
unfoldable pub text_of : List ℕ → List ℕ → List ℕ → List ℕ
text_of o w r = cond (eqb (mark r) 0) (stored r) (afterwards true (cond (eqb (mark r) 1) o w) (lead_of r) (stored r))

-- sheet n at revision v with text t, under the new key w with the new lead
unfoldable pub sheet : List ℕ → ℕ → ℕ → List ℕ → List ℕ
sheet w n v t = record_of n v 2 (afterwards false w (lead n v 2 (length t)) t)
