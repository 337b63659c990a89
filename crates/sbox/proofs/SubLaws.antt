-- SubBytes and InvSubBytes of a block give a block, and undo each other.
-- Assumes nothing.
use mathlib.Core.Path.{◌≡◌, ◌∙◌}
use mathlib.Core.List.{List}
use Prim.Native.Nat.{ℕ}
use Rattle.block.specs.Tab.{byte}
use Rattle.block.specs.Bytes.{Bytes, Block}
use Rattle.block.proofs.TabLaws.{tab_ext, tab_eta, bytes-tab, block_tab}
use Rattle.sbox.specs.Sub.{sub, inv_sub, sub_bytes, inv_sub_bytes, sub_word}
use Rattle.sbox.specs.Rule.{sub_byte, inv_sub-byte}
use Rattle.sbox.proofs.RuleLaws.{inv_sub-sub, sub-inv_sub}

pub block_sub_bytes : {s : List ℕ} → Block s → Block (sub_bytes s)
unfolding sub_bytes
block_sub_bytes {s} b = block_tab (λ i. sub (byte s i)) (λ i h. sub_byte (byte s i) (b.bytes.below i))

pub block_inv_sub_bytes : {s : List ℕ} → Block s → Block (inv_sub_bytes s)
unfolding inv_sub_bytes
block_inv_sub_bytes {s} b = block_tab (λ i. inv_sub (byte s i)) (λ i h. inv_sub-byte (byte s i) (b.bytes.below i))

pub bytes-sub_word : (w : List ℕ) → Bytes w → Bytes (sub_word w)
unfolding sub_word
bytes-sub_word w b = bytes-tab 4 (λ i. sub (byte w i)) (λ i h. sub_byte (byte w i) (b.below i))

pub inv_sub_bytes-sub_bytes : {s : List ℕ} → Block s → inv_sub_bytes (sub_bytes s) ≡ s
unfolding sub_bytes inv_sub_bytes
inv_sub_bytes-sub_bytes {s} b =
    tab_ext 16 (λ i. inv_sub (sub (byte s i))) (λ i. byte s i) (λ i h. inv_sub-sub (byte s i) (b.bytes.below i)) ∙ tab_eta 16 s 0 b.size

pub sub_bytes-inv_sub_bytes : {s : List ℕ} → Block s → sub_bytes (inv_sub_bytes s) ≡ s
unfolding sub_bytes inv_sub_bytes
sub_bytes-inv_sub_bytes {s} b =
    tab_ext 16 (λ i. sub (inv_sub (byte s i))) (λ i. byte s i) (λ i h. sub-inv_sub (byte s i) (b.bytes.below i)) ∙ tab_eta 16 s 0 b.size
