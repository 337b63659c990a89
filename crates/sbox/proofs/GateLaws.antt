-- Gates between planes are those gates for every byte of the planes: what the tests of `GateRuleLaws` say of one byte, lifted to all.
-- Assumes nothing.
use mathlib.Core.Path.{◌≡◌, refl, sym, ap, ap₂, ◌∙◌}
use mathlib.Core.List.{List, [], ◌∷◌, ◌++◌, map}
use Prim.Native.Nat.{ℕ, zero, suc, ◌+◌, ◌*◌, ◌/◌, ◌%◌, ◌^◌, ◌<◌}
use native.Mathlib.Nat.{pow-suc}
use native.Mathlib.Omega.{arith}
use lib.Bits.{bit_xor, bit_and}
use lib.Dec.{lit<}
use lib.ListN.{length, get_or}
use Rattle.block.proofs.Table.{agree}
use Rattle.bits.specs.Planes.{bit, byte_at, Each}
use Rattle.bits.proofs.BitLaws.{bit_zero, bit_lt, bit_xor_lem, bit_and_lem}
use Rattle.sbox.specs.Field.{inverse}
use Rattle.sbox.specs.Rule.{of_bits, affine}
use Rattle.sbox.proofs.RuleLaws.{sub_rule}
use Rattle.sbox.specs.Sub.{sub, inv_sub}
use Rattle.sbox.specs.Gates.{Gate, xor, and, gate, run, picks, stage, ones}
use Rattle.sbox.specs.InverseGates.{top_gates, top_outs, norm_gates, norm_outs, low_gates, low_outs, product_gates, product_outs, bottom_gates, bottom_outs}
use Rattle.sbox.specs.AffineGates.{affine_gates, affine_outs, unaffine_gates, unaffine_outs}
use Rattle.sbox.specs.GateRule.{bits_of, from_sums, inverted}
use Rattle.sbox.proofs.GateRuleLaws.{inverse_gates, affine_gates_lem, unaffine_gates_lem}

module _ (k : ℕ) where
  -- bit k of every word
  abbrev lane : List ℕ → List ℕ
  lane ws = map (λ w. bit w k) ws

  get_or-lane : (ws : List ℕ) (i : ℕ) → get_or (lane ws) i 0 ≡ bit (get_or ws i 0) k
  get_or-lane [] i = sym (bit_zero k)
  get_or-lane (w ∷ ws) zero = refl
  get_or-lane (w ∷ ws) (suc i) = get_or-lane ws i

  gate_lane : (g : Gate) (ws : List ℕ) → bit (gate g ws) k ≡ gate g (lane ws)
  gate_lane (xor i j) ws = bit_xor_lem (get_or ws i 0) (get_or ws j 0) k ∙ sym (ap₂ (λ (x y : ℕ). bit_xor x y) (get_or-lane ws i) (get_or-lane ws j))
  gate_lane (and i j) ws = bit_and_lem (get_or ws i 0) (get_or ws j 0) k ∙ sym (ap₂ (λ (x y : ℕ). bit_and x y) (get_or-lane ws i) (get_or-lane ws j))

  run_lane : (p : List Gate) (ws : List ℕ) → lane (run p ws) ≡ run p (lane ws)
  run_lane [] ws = refl
  run_lane (g ∷ p) ws = run_lane p (gate g ws ∷ ws) ∙ ap (λ (x : ℕ). run p (x ∷ lane ws)) (gate_lane g ws)

  picks_lane : (is ws : List ℕ) → lane (picks is ws) ≡ picks is (lane ws)
  picks_lane [] ws = refl
  picks_lane (i ∷ is) ws = ap₂ (λ (x : ℕ) (xs : List ℕ). x ∷ xs) (sym (get_or-lane ws i)) (picks_lane is ws)

  stage_lane : (p : List Gate) (is ws : List ℕ) → lane (stage p is ws) ≡ stage p is (lane ws)
  unfolding stage
  stage_lane p is ws = picks_lane is (run p ws) ∙ ap (picks is) (run_lane p ws)

  append_lane : (a b : List ℕ) → lane (a ++ b) ≡ lane a ++ lane b
  append_lane [] b = refl
  append_lane (x ∷ a) b = ap (λ (l : List ℕ). bit x k ∷ l) (append_lane a b)

  sums_lane : (s : List ℕ) → lane (from_sums s) ≡ from_sums (lane s)
  sums_lane s =
      let n : List ℕ = stage norm_gates norm_outs s in
      let l : List ℕ = stage low_gates low_outs n in
      stage_lane bottom_gates bottom_outs (stage product_gates product_outs (l ++ s))
      ∙ ap (stage bottom_gates bottom_outs)
      (stage_lane product_gates product_outs (l ++ s)
      ∙ ap (stage product_gates product_outs)
      (append_lane l s
      ∙ ap (λ (x : List ℕ). x ++ lane s) (stage_lane low_gates low_outs n ∙ ap (stage low_gates low_outs) (stage_lane norm_gates norm_outs s))))

  inverted_lane : (b : List ℕ) → lane (inverted b) ≡ inverted (lane b)
  unfolding inverted
  inverted_lane b = sums_lane (stage top_gates top_outs b) ∙ ap from_sums (stage_lane top_gates top_outs b)

  -- the bits of a byte are those of its lane
  lane_bits : (ws : List ℕ) → bits_of (length ws) (of_bits (lane ws)) ≡ lane ws
  lane_bits [] = refl
  lane_bits (w ∷ ws) =
      let h : bit w k < 2 = bit_lt w k in
      let l : (bit w k + 2 * of_bits (lane ws)) % 2 ≡ bit w k = omega arith in
      let r : (bit w k + 2 * of_bits (lane ws)) / 2 ≡ of_bits (lane ws) = omega arith in
      ap₂ (λ (x y : ℕ). x ∷ bits_of (length ws) y) l r ∙ ap (λ (t : List ℕ). bit w k ∷ t) (lane_bits ws)

  lane_lt : (ws : List ℕ) → of_bits (lane ws) < 2 ^ length ws
  lane_lt [] = lit< tt
  lane_lt (w ∷ ws) = omega (arith, bit_lt w k, lane_lt ws, pow-suc 2 (length ws))

  bit_ones : k < 32 → bit ones k ≡ 1
  unfolding bit
  bit_ones h = agree (λ i. bit ones i) (λ i. 1) 32 tt k h

-- ---- of all bytes

module _ (q : List ℕ) (e : length q ≡ 8) where
  byte_lt : (k : ℕ) → byte_at q k < 256
  unfolding byte_at
  byte_lt k = omega (arith, lane_lt k q, ap (λ (n : ℕ). 2 ^ n) e)

  eight_bits : (k : ℕ) → lane k q ≡ bits_of 8 (byte_at q k)
  unfolding byte_at
  eight_bits k = sym (lane_bits k q) ∙ ap (λ (n : ℕ). bits_of n (of_bits (lane k q))) e

  inverse_each : (r : List ℕ) → r ≡ inverted q → (k : ℕ) → byte_at r k ≡ inverse (byte_at q k)
  unfolding byte_at
  inverse_each r p k =
      ap (λ (l : List ℕ). of_bits (lane k l)) p
      ∙ ap of_bits (inverted_lane k q ∙ ap inverted (eight_bits k))
      ∙ inverse_gates (byte_at q k) (byte_lt k)

  step_bits : (p : List Gate) (is r : List ℕ) → r ≡ stage p is (ones ∷ q) → (k : ℕ) → k < 32
      → byte_at r k ≡ of_bits (stage p is (1 ∷ bits_of 8 (byte_at q k)))
  unfolding byte_at
  step_bits p is r h k l =
      ap (λ (x : List ℕ). of_bits (lane k x)) h
      ∙ ap of_bits (stage_lane k p is (ones ∷ q) ∙ ap₂ (λ (x : ℕ) (xs : List ℕ). stage p is (x ∷ xs)) (bit_ones k l) (eight_bits k))

-- the inverse, then the affine step
pub sub_each : (q b r : List ℕ) → length q ≡ 8 → length b ≡ 8 → b ≡ inverted q → r ≡ stage affine_gates affine_outs (ones ∷ b) → Each sub q r
sub_each q b r l m e h = record {
  at = λ k n.
      step_bits b m affine_gates affine_outs r h k n
      ∙ affine_gates_lem (byte_at b k) (byte_lt b m k)
      ∙ ap affine (inverse_each q l b e k)
      ∙ sym (sub_rule (byte_at q k) (byte_lt q l k));
}

-- the affine step undone, then the inverse
pub inv_sub_each : (q u r : List ℕ) → length q ≡ 8 → length u ≡ 8 → u ≡ stage unaffine_gates unaffine_outs (ones ∷ q) → r ≡ inverted u → Each inv_sub q r
inv_sub_each q u r l m e h = record {
  at = λ k n.
      inverse_each u m r h k
      ∙ ap inverse (step_bits q l unaffine_gates unaffine_outs u e k n)
      ∙ unaffine_gates_lem (byte_at q k) (byte_lt q l k);
}

-- the five parts, from what each promises
pub five : (q s n l p b : List ℕ) → s ≡ stage top_gates top_outs q → n ≡ stage norm_gates norm_outs s → l ≡ stage low_gates low_outs n
    → p ≡ stage product_gates product_outs (l ++ s) → b ≡ stage bottom_gates bottom_outs p → b ≡ inverted q
unfolding inverted
five q s n l p b hs hn hl hp hb =
    hb
    ∙ ap (stage bottom_gates bottom_outs)
    (hp ∙ ap (λ (x : List ℕ). stage product_gates product_outs (x ++ s)) (hl ∙ ap (stage low_gates low_outs) hn))
    ∙ ap from_sums hs
