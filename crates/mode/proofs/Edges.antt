-- 01, both sides of each edge: the rows of the table hold, each by computation.
-- Assumes nothing.
use Rattle.std.specs.Prelude.{refl}
use Rattle.block.specs.Xor.{◌⊕◌}
use Rattle.block.specs.Blocks.{blocks}
use Rattle.block.specs.Double.{double, pad}
use Rattle.sbox.proofs.Examples.{D12}
use Rattle.mode.specs.Wide.{total, padded, middle, MP, CCCs}
use Rattle.mode.specs.Edges.{Edges}

pub edges : Edges
unfolding ◌⊕◌ double pad blocks total padded middle MP CCCs
edges = record {
  D1 = refl;
  D2 = refl;
  D3 = refl;
  D4 = refl;
  D5 = refl;
  D6 = refl;
  D7 = refl;
  D8 = refl;
  D9 = refl;
  D10 = refl;
  D11 = refl;
  D12 = D12;
}
