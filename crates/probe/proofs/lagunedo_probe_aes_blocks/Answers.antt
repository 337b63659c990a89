-- `probe::lagunedo_probe_aes_blocks` meets its contract: past the test of the key, the round keys are those of the key.
-- Assumes nothing.
use Rattle.std.proofs.Common.{◌≡◌, Bool, true, cond, List, map, ℕ, length, sym, ap, ap₂, ◌∙◌}
use Rattle.block.specs.Blocks.{on_blocks}
use Rattle.aes.specs.Aes.{key_size, crypted, aes}
use Rattle.aes.specs.Promise.{crypted_aes}
use Rattle.probe.proofs.lagunedo_probe_aes_blocks.Goals as goal

pub returns : goal.returns
returns c =
    let a = c.args in
    let k : List ℕ = a.key.now in
    let s : List ℕ = a.buffer.now in
    let size : true ≡ key_size (length k) = sym c.if-not-key_size.false ∙ c.key_size.ensures in (
      ap (λ (t : Bool). cond t 0 1) size,
      c.crypt_blocks.ensures
          ∙ ap₂ (λ (keys : List (List ℕ)) (n : ℕ). on_blocks (map (crypted a.back keys n)) s) c.key_setup.ensures.keys c.key_setup.ensures.rounds
          ∙ ap (λ (f : List ℕ → List ℕ). on_blocks (map f) s) (λ i x. crypted_aes a.back k x i)
          ∙ ap (λ (t : Bool). cond t (on_blocks (map (aes a.back k)) s) s) size,
    )
