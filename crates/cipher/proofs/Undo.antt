-- A block stays a block, and each direction undoes the other, round by round.
-- Assumes nothing.
use mathlib.Core.Path.{◌≡◌, ap, ◌∙◌}
use mathlib.Core.Bool.{Bool, true, false, not}
use mathlib.Core.List.{List}
use Prim.Native.Nat.{ℕ, zero, suc, ◌-◌, ◌≤◌}
use native.Mathlib.Omega.{arith}
use lib.ListN.{length}
use Rattle.block.specs.Xor.{◌⊕◌}
use Rattle.block.specs.Bytes.{Block}
use Rattle.block.proofs.XorLaws.{length_⊕, ⊕_undo, block_⊕}
use Rattle.sbox.specs.Sub.{sub_bytes, inv_sub_bytes}
use Rattle.sbox.proofs.SubLaws.{block_sub_bytes, block_inv_sub_bytes, inv_sub_bytes-sub_bytes, sub_bytes-inv_sub_bytes}
use Rattle.rounds.specs.Steps.{shift_rows, inv_shift_rows, mix_columns, inv_mix_columns}
use Rattle.rounds.proofs.Undo.{block_shift_rows, block_inv_shift_rows, block_mix_columns, block_inv_mix_columns}
use Rattle.rounds.proofs.Undo.{inv_shift_rows-shift_rows, shift_rows-inv_shift_rows, inv_mix_columns-mix_columns, mix_columns-inv_mix_columns}
use Rattle.cipher.specs.Cipher.{round_key, through_rounds, cipher, inverse_from, inv_cipher, crypted}

-- the round keys 0 to n are blocks
abbrev pub Keys : List (List ℕ) → ℕ → Type 0
Keys keys n = (j : ℕ) → j ≤ n → Block (round_key keys j)

-- ---- SubBytes then ShiftRows, and back

sub_shift_block : {s : List ℕ} → Block s → Block (shift_rows (sub_bytes s))
sub_shift_block b = block_shift_rows (block_sub_bytes b)

shift_sub_block : {s : List ℕ} → Block s → Block (inv_sub_bytes (inv_shift_rows s))
shift_sub_block b = block_inv_sub_bytes (block_inv_shift_rows b)

shift_sub_sub_shift : {s : List ℕ} → Block s → inv_sub_bytes (inv_shift_rows (shift_rows (sub_bytes s))) ≡ s
shift_sub_sub_shift b = ap inv_sub_bytes (inv_shift_rows-shift_rows (block_sub_bytes b)) ∙ inv_sub_bytes-sub_bytes b

sub_shift_shift_sub : {s : List ℕ} → Block s → shift_rows (sub_bytes (inv_sub_bytes (inv_shift_rows s))) ≡ s
sub_shift_shift_sub b = ap shift_rows (sub_bytes-inv_sub_bytes (block_inv_shift_rows b)) ∙ shift_rows-inv_shift_rows b

-- ---- the rounds

block_rounds : (keys : List (List ℕ)) (j : ℕ) → Keys keys j → {s : List ℕ} → Block s → Block (through_rounds keys j s)
unfolding through_rounds
block_rounds keys zero ks b = b
block_rounds keys (suc j) ks b = block_⊕ (block_mix_columns (sub_shift_block (block_rounds keys j (λ i h. ks i (omega arith)) b))) (ks (suc j) (omega arith))

block_inverse_from : (keys : List (List ℕ)) (j : ℕ) → Keys keys j → {s : List ℕ} → Block s → Block (inverse_from keys j s)
unfolding inverse_from
block_inverse_from keys zero ks b = block_⊕ (shift_sub_block b) (ks zero (omega arith))
block_inverse_from keys (suc j) ks b =
    block_inverse_from keys j (λ i h. ks i (omega arith)) (block_inv_mix_columns (block_⊕ (shift_sub_block b) (ks (suc j) (omega arith))))

-- the rounds 1 to j and the last SubBytes and ShiftRows, then the inverse rounds
back_through : (keys : List (List ℕ)) (j : ℕ) → Keys keys j → {b : List ℕ} → Block b
    → inverse_from keys j (shift_rows (sub_bytes (through_rounds keys j (b ⊕ round_key keys 0)))) ≡ b
unfolding through_rounds inverse_from
back_through keys zero ks {b} h =
    ap (λ (s : List ℕ). s ⊕ round_key keys 0) (shift_sub_sub_shift (block_⊕ h (ks zero (omega arith)))) ∙ ⊕_undo b (round_key keys 0)
back_through keys (suc j) ks {b} h =
    let ks' : Keys keys j = λ i l. ks i (omega arith) in
    let before : List ℕ = shift_rows (sub_bytes (through_rounds keys j (b ⊕ round_key keys 0))) in
    let hb : Block before = sub_shift_block (block_rounds keys j ks' (block_⊕ h (ks zero (omega arith)))) in
    ap (λ (s : List ℕ). inverse_from keys j (inv_mix_columns (s ⊕ round_key keys (suc j))))
    (shift_sub_sub_shift (block_⊕ (block_mix_columns hb) (ks (suc j) (omega arith))))
    ∙ ap (λ (s : List ℕ). inverse_from keys j (inv_mix_columns s)) (⊕_undo (mix_columns before) (round_key keys (suc j)))
    ∙ ap (inverse_from keys j) (inv_mix_columns-mix_columns hb)
    ∙ back_through keys j ks' h

-- and the other way round
through_back : (keys : List (List ℕ)) (j : ℕ) → Keys keys j → {s : List ℕ} → Block s
    → shift_rows (sub_bytes (through_rounds keys j (inverse_from keys j s ⊕ round_key keys 0))) ≡ s
unfolding through_rounds inverse_from
through_back keys zero ks {s} h =
    ap (λ (t : List ℕ). shift_rows (sub_bytes t)) (⊕_undo (inv_sub_bytes (inv_shift_rows s)) (round_key keys 0)) ∙ sub_shift_shift_sub h
through_back keys (suc j) ks {s} h =
    let ks' : Keys keys j = λ i l. ks i (omega arith) in
    let hs : Block (inv_sub_bytes (inv_shift_rows s) ⊕ round_key keys (suc j)) = block_⊕ (shift_sub_block h) (ks (suc j) (omega arith)) in
    ap (λ (t : List ℕ). shift_rows (sub_bytes (mix_columns t ⊕ round_key keys (suc j)))) (through_back keys j ks' (block_inv_mix_columns hs))
    ∙ ap (λ (t : List ℕ). shift_rows (sub_bytes (t ⊕ round_key keys (suc j)))) (mix_columns-inv_mix_columns hs)
    ∙ ap (λ (t : List ℕ). shift_rows (sub_bytes t)) (⊕_undo (inv_sub_bytes (inv_shift_rows s)) (round_key keys (suc j)))
    ∙ sub_shift_shift_sub h

-- ---- Cipher and InvCipher, over the direction

pub block_crypted : (back : Bool) (keys : List (List ℕ)) (nr : ℕ) → Keys keys nr → {b : List ℕ} → Block b → Block (crypted back keys nr b)
unfolding cipher inv_cipher
block_crypted false keys nr ks {b} h =
    block_⊕ (sub_shift_block (block_rounds keys (nr - 1) (λ i l. ks i (omega arith)) (block_⊕ h (ks 0 (omega arith))))) (ks nr (omega arith))
block_crypted true keys nr ks {b} h = block_inverse_from keys (nr - 1) (λ i l. ks i (omega arith)) (block_⊕ h (ks nr (omega arith)))

pub crypted_undone : (back : Bool) (keys : List (List ℕ)) (nr : ℕ) → Keys keys nr → {b : List ℕ} → Block b
    → crypted (not back) keys nr (crypted back keys nr b) ≡ b
unfolding cipher inv_cipher
crypted_undone false keys nr ks {b} h =
    let s : List ℕ = shift_rows (sub_bytes (through_rounds keys (nr - 1) (b ⊕ round_key keys 0))) in
    ap (inverse_from keys (nr - 1)) (⊕_undo s (round_key keys nr)) ∙ back_through keys (nr - 1) (λ i l. ks i (omega arith)) h
crypted_undone true keys nr ks {b} h =
    ap (λ (s : List ℕ). s ⊕ round_key keys nr) (through_back keys (nr - 1) (λ i l. ks i (omega arith)) (block_⊕ h (ks nr (omega arith))))
    ∙ ⊕_undo b (round_key keys nr)

-- ---- the length, whatever the round keys and the block

length-inverse_from : (keys : List (List ℕ)) (j : ℕ) (s : List ℕ) → length (inverse_from keys j s) ≡ 16
unfolding inverse_from inv_sub_bytes
length-inverse_from keys zero s = length_⊕ (inv_sub_bytes (inv_shift_rows s)) (round_key keys 0)
length-inverse_from keys (suc j) s = length-inverse_from keys j (inv_mix_columns (inv_sub_bytes (inv_shift_rows s) ⊕ round_key keys (suc j)))

pub length-crypted : (back : Bool) (keys : List (List ℕ)) (nr : ℕ) (b : List ℕ) → length (crypted back keys nr b) ≡ 16
unfolding cipher inv_cipher shift_rows
length-crypted false keys nr b = length_⊕ (shift_rows (sub_bytes (through_rounds keys (nr - 1) (b ⊕ round_key keys 0)))) (round_key keys nr)
length-crypted true keys nr b = length-inverse_from keys (nr - 1) (b ⊕ round_key keys nr)
