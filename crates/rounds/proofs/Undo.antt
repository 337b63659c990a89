-- Each step is undone by its inverse, and a block stays a block.
-- Assumes nothing.
use mathlib.Core.Path.{◌≡◌, ◌∙◌}
use mathlib.Core.List.{List}
use Prim.Native.Nat.{ℕ}
use Rattle.block.specs.Tab.{byte}
use Rattle.block.specs.Bytes.{Block}
use Rattle.block.proofs.Table.{agree}
use Rattle.block.proofs.TabLaws.{tab_eta, block_tab}
use Rattle.sbox.specs.Field.{◌•◌}
use Rattle.rounds.specs.Steps.{shifted, shifted_back, shift_rows, inv_shift_rows, mix_columns, inv_mix_columns}
use Rattle.rounds.proofs.Columns.{four, columns_product, columns_one, block_columns_times}

-- ---- ShiftRows

pub block_shift_rows : {s : List ℕ} → Block s → Block (shift_rows s)
unfolding shift_rows
block_shift_rows {s} b = block_tab (λ i. byte s (shifted i)) (λ i h. b.bytes.below (shifted i))

pub block_inv_shift_rows : {s : List ℕ} → Block s → Block (inv_shift_rows s)
unfolding inv_shift_rows
block_inv_shift_rows {s} b = block_tab (λ i. byte s (shifted_back i)) (λ i h. b.bytes.below (shifted_back i))

pub inv_shift_rows-shift_rows : {s : List ℕ} → Block s → inv_shift_rows (shift_rows s) ≡ s
unfolding shift_rows inv_shift_rows
inv_shift_rows-shift_rows {s} b = tab_eta 16 s 0 b.size

pub shift_rows-inv_shift_rows : {s : List ℕ} → Block s → shift_rows (inv_shift_rows s) ≡ s
unfolding shift_rows inv_shift_rows
shift_rows-inv_shift_rows {s} b = tab_eta 16 s 0 b.size

-- ---- MixColumns

pub block_mix_columns : {s : List ℕ} → Block s → Block (mix_columns s)
unfolding mix_columns
block_mix_columns {s} b = block_columns_times 0x02 0x03 0x01 0x01 b

pub block_inv_mix_columns : {s : List ℕ} → Block s → Block (inv_mix_columns s)
unfolding inv_mix_columns
block_inv_mix_columns {s} b = block_columns_times 0x0e 0x0b 0x0d 0x09 b

-- ---- MixColumns and InvMixColumns undo each other: what the columns ask of the eight numbers, each by a test of all bytes

pub inv_mix_columns-mix_columns : {s : List ℕ} → Block s → inv_mix_columns (mix_columns s) ≡ s
unfolding mix_columns inv_mix_columns ◌•◌
inv_mix_columns-mix_columns {s} b =
    columns_product 0x0e 0x0b 0x0d 0x09 0x02 0x03 0x01 0x01 1 0 0 0
    (agree (four 0x0e 0x0b 0x0d 0x09 0x02 0x01 0x01 0x03) (λ x. 1 • x) 256 tt)
    (agree (four 0x0e 0x0b 0x0d 0x09 0x03 0x02 0x01 0x01) (λ x. 0 • x) 256 tt)
    (agree (four 0x0e 0x0b 0x0d 0x09 0x01 0x03 0x02 0x01) (λ x. 0 • x) 256 tt)
    (agree (four 0x0e 0x0b 0x0d 0x09 0x01 0x01 0x03 0x02) (λ x. 0 • x) 256 tt)
    s b
    ∙ columns_one s b

pub mix_columns-inv_mix_columns : {s : List ℕ} → Block s → mix_columns (inv_mix_columns s) ≡ s
unfolding mix_columns inv_mix_columns ◌•◌
mix_columns-inv_mix_columns {s} b =
    columns_product 0x02 0x03 0x01 0x01 0x0e 0x0b 0x0d 0x09 1 0 0 0
    (agree (four 0x02 0x03 0x01 0x01 0x0e 0x09 0x0d 0x0b) (λ x. 1 • x) 256 tt)
    (agree (four 0x02 0x03 0x01 0x01 0x0b 0x0e 0x09 0x0d) (λ x. 0 • x) 256 tt)
    (agree (four 0x02 0x03 0x01 0x01 0x0d 0x0b 0x0e 0x09) (λ x. 0 • x) 256 tt)
    (agree (four 0x02 0x03 0x01 0x01 0x09 0x0d 0x0b 0x0e) (λ x. 0 • x) 256 tt)
    s b
    ∙ columns_one s b
