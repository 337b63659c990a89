-- One round more, and one inverse round less, of the definitions, as the loops count them.
-- Assumes nothing.
use mathlib.Core.Path.{◌≡◌, refl, sym, ap, ◌∙◌}
use mathlib.Core.List.{List, []}
use Prim.Native.Nat.{ℕ, suc, ◌+◌, ◌-◌, ◌≤◌, ◌<◌}
use native.Mathlib.Omega.{arith}
use Rattle.std.proofs.Common.{length, get_or, take, drop, length-drop}
use Rattle.std.proofs.lemmas.List.{get_or-take, length-take-le}
use Rattle.std.proofs.lemmas.Grind.{get_or_after_one}
use Rattle.block.specs.Xor.{◌⊕◌}
use Rattle.sbox.specs.Sub.{sub_bytes, inv_sub_bytes}
use Rattle.rounds.specs.Steps.{shift_rows, mix_columns, inv_shift_rows, inv_mix_columns}
use Rattle.cipher.specs.Cipher.{round_key, through_rounds, inverse_from}

pub no_round : (keys : List (List ℕ)) (s : List ℕ) → s ≡ through_rounds keys 0 s
unfolding through_rounds
no_round keys s = refl

-- the key at index i of the keys of rounds 1 to n
pub key_at : (keys : List (List ℕ)) (n i : ℕ) → i < n → get_or (take n (drop 1 keys)) i [] ≡ round_key keys (i + 1)
key_at keys n i h =
    get_or-take n (drop 1 keys) i [] h ∙ get_or_after_one keys i [] ∙ ap (λ (j : ℕ). round_key keys j) (omega arith)

pub length_keys : (keys : List (List ℕ)) (n : ℕ) → n + 1 ≤ length keys → length (take n (drop 1 keys)) ≡ n
length_keys keys n h = length-take-le n (drop 1 keys) (omega (arith, length-drop 1 keys))

pub round_done : (keys : List (List ℕ)) (i : ℕ) (s : List ℕ)
    → mix_columns (shift_rows (sub_bytes (through_rounds keys i s))) ⊕ round_key keys (i + 1) ≡ through_rounds keys (i + 1) s
unfolding through_rounds
round_done keys i s =
    let n : suc i ≡ i + 1 = omega arith in
    ap (λ (j : ℕ). mix_columns (shift_rows (sub_bytes (through_rounds keys i s))) ⊕ round_key keys j) (sym n) ∙ ap (λ (j : ℕ). through_rounds keys j s) n

pub round_undone : (keys : List (List ℕ)) (j : ℕ) (s : List ℕ) → 0 < j
    → inverse_from keys (j - 1) (inv_mix_columns (inv_sub_bytes (inv_shift_rows s) ⊕ round_key keys j)) ≡ inverse_from keys j s
unfolding inverse_from
round_undone keys j s h =
    let m : suc (j - 1) ≡ j = omega arith in
    ap (λ (i : ℕ). inverse_from keys (j - 1) (inv_mix_columns (inv_sub_bytes (inv_shift_rows s) ⊕ round_key keys i))) (sym m)
    ∙ ap (λ (i : ℕ). inverse_from keys i s) m

pub last_undone : (keys : List (List ℕ)) (s : List ℕ) → inv_sub_bytes (inv_shift_rows s) ⊕ round_key keys 0 ≡ inverse_from keys 0 s
unfolding inverse_from
last_undone keys s = refl
