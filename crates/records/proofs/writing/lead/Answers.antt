-- `records::writing::lead` meets its contract, byte by byte.
-- Assumes nothing.
use Rattle.std.proofs.Common.{◌≡◌, ℕ, ◌/◌, ◌%◌, List, ◌∷◌, replicate, ◌∙◌, arith}
use Rattle.std.specs.Int.{w32, w64, to_le_bytes}
use Rattle.block.specs.Tab.{byte}
use Rattle.records.specs.Record.{lead}
use Rattle.records.proofs.writing.lead.Goals as goal

twice : (x : ℕ) → x / 65536 ≡ x / 256 / 256
twice x = omega arith

thrice : (x : ℕ) → x / 16777216 ≡ x / 256 / 256 / 256
thrice x = omega arith

-- the bytes of three numbers in their places
placed : (n v m l : ℕ) (ns vs ls : List ℕ) → ns ≡ to_le_bytes w32 n → vs ≡ to_le_bytes w32 v → ls ≡ to_le_bytes w64 l
    → byte ns 0
    ∷ byte ns 1
    ∷ byte ns 2
    ∷ byte ns 3
    ∷ byte vs 0
    ∷ byte vs 1
    ∷ m
    ∷ 0
    ∷ byte ls 0
    ∷ byte ls 1
    ∷ byte vs 2
    ∷ byte vs 3
    ∷ replicate 4 0
    ≡ lead n v m l
unfolding lead
placed n v m l ns vs ls a b c =
    (λ i.
    byte (a i) 0
    ∷ byte (a i) 1
    ∷ byte (a i) 2
    ∷ byte (a i) 3
    ∷ byte (b i) 0
    ∷ byte (b i) 1
    ∷ m
    ∷ 0
    ∷ byte (c i) 0
    ∷ byte (c i) 1
    ∷ byte (b i) 2
    ∷ byte (b i) 3
    ∷ replicate 4 0)
    ∙ (λ i.
    n % 256
    ∷ n / 256 % 256
    ∷ twice n i % 256
    ∷ thrice n i % 256
    ∷ v % 256
    ∷ v / 256 % 256
    ∷ m
    ∷ 0
    ∷ l % 256
    ∷ l / 256 % 256
    ∷ twice v i % 256
    ∷ thrice v i % 256
    ∷ replicate 4 0)

pub returns : goal.returns
returns c =
    let a = c.args in
    placed a.n a.v a.m a.l _ _ _ c.to_le_bytes-n.ensures c.to_le_bytes-v.ensures c.to_le_bytes-l.ensures
