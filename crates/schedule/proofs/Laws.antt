-- Laws of the key schedule: its words, what it adds in one turn, how many bytes it makes of each key size, and that the round keys are blocks
-- of it.
-- Assumes nothing.
use mathlib.Core.Path.{◌≡◌, refl, sym, ap, ap₂, ◌∙◌, subst}
use mathlib.Core.Bool.{Bool, true, false, cond, ◌&&◌}
use mathlib.Core.List.{List, [], ◌∷◌, ◌++◌}
use Prim.Native.Nat.{ℕ, zero, suc, ◌+◌, ◌-◌, ◌*◌, ◌/◌, ◌%◌, ◌≤◌, ◌<◌}
use native.Mathlib.Nat.{le-div_iff_mul-le, div-lt_iff_lt-mul}
use native.Mathlib.Omega.{arith}
use borrow.Author.Tests.{eqb-true}
use lib.Bits.{bit_xor, xor_zero_r}
use lib.Dec.{ltb, ltb→lt, eqb}
use lib.ListN.{length, get_or, take, drop, replicate, length-append, length-drop, length-replicate}
use lib.Seq.{length-take-le, take-append-le, drop-append-le, drop-append-add, take_at, drop_at, drop-drop}
use Rattle.std.specs.Simd.{first_chunks}
use Rattle.block.specs.Tab.{tab, byte}
use Rattle.block.specs.Bytes.{Bytes, Block}
use Rattle.block.specs.Blocks.{block_at}
use Rattle.block.specs.Xor.{◌⊕◌}
use Rattle.block.proofs.BoolLaws.{either}
use Rattle.block.proofs.BytesLaws.{drop_replicate, bytes_cons, bytes_zeros, bytes_append, bytes_take, bytes_drop}
use Rattle.block.proofs.Table.{each}
use Rattle.block.proofs.TabLaws.{get_or-tab, tab_ext, bytes-tab}
use Rattle.block.proofs.XorLaws.{length_⊕, ⊕_tab, bytes_⊕}
use Rattle.block.proofs.BlockLaws.{length-block_at}
use Rattle.sbox.specs.Sub.{sub_word}
use Rattle.sbox.proofs.SubLaws.{bytes-sub_word}
use Rattle.schedule.specs.Size.{key_size, Nk, Nr}
use Rattle.schedule.specs.KeyExpansion.{word, rcon, Rcon, rot_word, temp, next_word, expanded, key_expansion, round_keys}

-- ---- the sizes of a key: the one place that looks at them

pub key_sizes : (n : ℕ) → key_size n ≡ true → (4 ≤ n / 4) × (n / 4 ≤ 8) × (4 * (n / 4) ≡ n)
key_sizes n = either (eqb n 16) (eqb n 32) (λ e. omega (arith, eqb-true n 16 e)) (λ e. omega (arith, eqb-true n 32 e))

-- ---- words

length-word : (w : List ℕ) (i : ℕ) → 4 * i + 4 ≤ length w → length (word w i) ≡ 4
length-word w i h = length-take-le 4 (drop (4 * i) w) (omega (arith, length-drop (4 * i) w))

-- a word and a round constant, which has its first byte alone
pub with_rcon : (r : List ℕ) (j : ℕ) → length r ≡ 4 → r ⊕ Rcon j ≡ bit_xor (byte r 0) (byte rcon (j - 1)) ∷ byte r 1 ∷ byte r 2 ∷ byte r 3 ∷ []
with_rcon r j l =
    ⊕_tab 4 r (Rcon j) l refl
    ∙ ap (λ (t : List ℕ). bit_xor (byte r 0) (byte rcon (j - 1)) ∷ t)
    (λ i. xor_zero_r (byte r 1) i ∷ xor_zero_r (byte r 2) i ∷ xor_zero_r (byte r 3) i ∷ [])

-- ---- what is xored, by the tests of 5.2

pub temp_by : (nk i : ℕ) (t : List ℕ) (a b d : Bool) → eqb (i % nk) 0 ≡ a → ltb 6 nk ≡ b → eqb (i % nk) 4 ≡ d
    → temp nk i t ≡ cond a (sub_word (rot_word t) ⊕ Rcon (i / nk)) (cond (b && d) (sub_word t) t)
unfolding temp
temp_by nk i t a b d p q r = rw (p, q, r)

-- which round constant
pub quotient : (nk i : ℕ) → 4 ≤ nk → nk ≤ i → i < 11 * nk → (1 ≤ i / nk) × (i / nk < 11)
quotient nk i h k l =
    let p : 0 < nk = omega arith in
    ((le-div_iff_mul-le {x = 1} {y = i} p).1 (omega arith), (div-lt_iff_lt-mul {x = i} {y = 11} p).1 l)

-- ---- the expansion

length-next_word : (nk i : ℕ) (w : List ℕ) → 4 * (i - nk) + 4 ≤ length w → length (next_word nk i w) ≡ 4
unfolding next_word
length-next_word nk i w h = length_⊕ (word w (i - nk)) (temp nk i (word w (i - 1))) ∙ length-word w (i - nk) h

length-expanded : (nk : ℕ) (key : List ℕ) → 1 ≤ nk → length key ≡ 4 * nk → (n : ℕ) → length (expanded nk key n) ≡ 4 * (nk + n)
unfolding expanded
length-expanded nk key h l zero = omega arith
length-expanded nk key h l (suc n) =
    let e = length-expanded nk key h l n in
    length-append (expanded nk key n) (next_word nk (nk + n) (expanded nk key n))
    ∙ omega (arith, length-next_word nk (nk + n) (expanded nk key n) (omega arith))

-- of every key size: as many bytes as a round key for each round, and one more, take
pub length-key_expansion : (key : List ℕ) → key_size (length key) ≡ true → length (key_expansion key) ≡ 16 * (Nr key + 1)
unfolding key_expansion
length-key_expansion key h =
    let s = key_sizes (length key) h in
    let long : (n : ℕ) → length (expanded (Nk key) key n) ≡ 4 * (Nk key + n) = length-expanded (Nk key) key (omega arith) (omega arith) in
    rw long (omega arith)

-- eleven round keys of a key of 16 bytes, fifteen of one of 32
pub round_key_count : (key : List ℕ)
    → (length key ≡ 16 → length (key_expansion key) ≡ 16 * 11) × (length key ≡ 32 → length (key_expansion key) ≡ 16 * 15)
round_key_count key =
    (λ h. length-key_expansion key (ap key_size h) ∙ omega arith, λ h. length-key_expansion key (ap key_size h) ∙ omega arith)

-- the words before w[i] make it, whatever stands after them
word_append : (p q : List ℕ) (j : ℕ) → 4 * j + 4 ≤ length p → word (p ++ q) j ≡ word p j
word_append p q j h =
    ap (λ (l : List ℕ). take 4 l) (drop-append-le (4 * j) p q (omega arith))
    ∙ take-append-le 4 (drop (4 * j) p) q (omega (arith, length-drop (4 * j) p))

next_append : (nk i : ℕ) (p q : List ℕ) → 1 ≤ nk → nk ≤ i → 4 * i ≤ length p → next_word nk i (p ++ q) ≡ next_word nk i p
unfolding next_word
next_append nk i p q h k l =
    ap₂ (λ (x y : List ℕ). x ⊕ temp nk i y) (word_append p q (i - nk) (omega arith)) (word_append p q (i - 1) (omega arith))

-- the buffer with w[i] the next word to make: the words before it, and then what was there
abbrev pub made : ℕ → List ℕ → ℕ → List ℕ
made nk w i = expanded nk (take (4 * nk) w) (i - nk) ++ drop (4 * i) w

module _ (nk i : ℕ) (w : List ℕ) (h : 1 ≤ nk) (k : nk ≤ i) (l : 4 * i ≤ length w) where
  length_front : length (expanded nk (take (4 * nk) w) (i - nk)) ≡ 4 * i
  length_front = length-expanded nk (take (4 * nk) w) h (length-take-le (4 * nk) w (omega arith)) (i - nk) ∙ omega arith

  pub made_turn : take (4 * i) (made nk w i) ++ next_word nk i (made nk w i) ++ drop (4 * i + 4) (made nk w i) ≡ made nk w (i + 1)
  unfolding expanded
  made_turn =
      let p : List ℕ = expanded nk (take (4 * nk) w) (i - nk) in
      let q : List ℕ = drop (4 * i) w in
      let n : i + 1 - nk ≡ suc (i - nk) = omega arith in
      let m : nk + (i - nk) ≡ i = omega arith in
      let d : 4 * i + 4 ≡ 4 * (i + 1) = omega arith in
      ap₂ (λ (x y : List ℕ). x ++ y ++ drop (4 * i + 4) (p ++ q)) (take_at p q (4 * i) length_front) (next_append nk i p q h k (omega (arith, length_front)))
      ∙ ap (λ (z : List ℕ). p ++ next_word nk i p ++ z)
      (sym (drop-drop 4 (4 * i) (p ++ q)) ∙ ap (λ (z : List ℕ). drop 4 z) (drop_at p q (4 * i) length_front) ∙ drop-drop 4 (4 * i) w)
      ∙ ap₂ (λ (j e : ℕ). p ++ next_word nk j p ++ drop e w) (sym m) d
      ∙ ap (λ (j : ℕ). expanded nk (take (4 * nk) w) j ++ drop (4 * (i + 1)) w) (sym n)

-- ---- key setup: the key put at the front of 240 zeros, and expanded there

drop_past : (p z : List ℕ) (m : ℕ) → length p ≤ m → drop m (p ++ drop (length p) z) ≡ drop m z
drop_past p z m h =
    let e : length p + (m - length p) ≡ m = omega arith in
    ap (λ (n : ℕ). drop n (p ++ drop (length p) z)) (sym e)
    ∙ drop-append-add p (drop (length p) z) (m - length p)
    ∙ drop-drop (m - length p) (length p) z
    ∙ ap (λ (n : ℕ). drop n z) e

-- n blocks from `at` on
pub blocks_at : (n at : ℕ) (w : List ℕ) → first_chunks 16 n (drop at w) ≡ tab n (λ j. block_at w (at + 16 * j))
blocks_at zero at w = refl
blocks_at (suc n) at w =
    let here : at ≡ at + 16 * 0 = omega arith in
    ap₂ (λ (b : List ℕ) (bs : List (List ℕ)). b ∷ bs) (ap (block_at w) here)
    (ap (first_chunks 16 n) (drop-drop 16 at w)
    ∙ blocks_at n (at + 16) w
    ∙ tab_ext n (λ j. block_at w (at + 16 + 16 * j)) (λ j. block_at w (at + 16 * suc j))
    (λ j h. let e : at + 16 + 16 * j ≡ at + 16 * suc j = omega arith in ap (block_at w) e))

-- the bytes that the round keys are read from
abbrev padded : List ℕ → List ℕ
padded key = key_expansion key ++ replicate (240 - 16 * (Nr key + 1)) 0

pub set_up : (key w v : List ℕ) → key_size (length key) ≡ true → w ≡ key ++ drop (length key) (replicate 240 0)
    → v ≡ expanded (Nk key) (take (4 * Nk key) w) (3 * Nk key + 28) ++ drop (4 * (4 * Nk key + 28)) w
    → tab 15 (λ j. block_at v (16 * j)) ≡ round_keys key
unfolding key_expansion round_keys
set_up key w v h e f =
    let s = key_sizes (length key) h in
    let n : 3 * Nk key + 28 ≡ 4 * (Nr key + 1) - Nk key = omega arith in
    let m : 240 - 4 * (4 * Nk key + 28) ≡ 240 - 16 * (Nr key + 1) = omega arith in
    ap (λ (v : List ℕ). tab 15 (λ j. block_at v (16 * j)))
    (f
    ∙ ap₂ (λ (k r : List ℕ). expanded (Nk key) k (3 * Nk key + 28) ++ r)
    (ap (λ (w : List ℕ). take (4 * Nk key) w) e ∙ take_at key (drop (length key) (replicate 240 0)) (4 * Nk key) (sym s.2))
    (ap (λ (w : List ℕ). drop (4 * (4 * Nk key + 28)) w) e
    ∙ drop_past key (replicate 240 0) (4 * (4 * Nk key + 28)) (omega arith)
    ∙ drop_replicate (4 * (4 * Nk key + 28)) 240 0 (omega arith))
    ∙ ap₂ (λ (i j : ℕ). expanded (Nk key) key i ++ replicate j 0) n m)

-- ---- bytes

bytes-cond : (t : Bool) {a b : List ℕ} → Bytes a → Bytes b → Bytes (cond t a b)
bytes-cond true h k = h
bytes-cond false h k = k

bytes-rcon : Bytes rcon
bytes-rcon = bytes-tab 10 (λ i. byte rcon i) (λ i h. ltb→lt (byte rcon i) 256 (each (λ i. ltb (byte rcon i) 256) 10 tt i h))

bytes-temp : (nk i : ℕ) (t : List ℕ) → Bytes t → Bytes (temp nk i t)
unfolding temp rot_word
bytes-temp nk i t b =
    bytes-cond (eqb (i % nk) 0)
    (bytes_⊕ (sub_word (rot_word t)) (Rcon (i / nk))
    (bytes-sub_word (rot_word t) (bytes-tab 4 (λ i. byte t ((i + 1) % 4)) (λ i h. b.below ((i + 1) % 4))))
    (bytes_cons (bytes-rcon.below (i / nk - 1)) (bytes_zeros 3)))
    (bytes-cond (ltb 6 nk && eqb (i % nk) 4) (bytes-sub_word t b) b)

bytes-expanded : (nk : ℕ) (key : List ℕ) → Bytes key → (n : ℕ) → Bytes (expanded nk key n)
unfolding expanded next_word
bytes-expanded nk key b zero = b
bytes-expanded nk key b (suc n) =
    let e : List ℕ = expanded nk key n in
    let h : Bytes e = bytes-expanded nk key b n in
    let w : (i : ℕ) → Bytes (word e i) = λ i. bytes_take 4 (drop (4 * i) e) (bytes_drop (4 * i) e h) in
    let t : List ℕ = temp nk (nk + n) (word e (nk + n - 1)) in
    bytes_append e (word e (nk + n - nk) ⊕ t) h
    (bytes_⊕ (word e (nk + n - nk)) t (w (nk + n - nk)) (bytes-temp nk (nk + n) (word e (nk + n - 1)) (w (nk + n - 1))))

-- ---- the round keys

-- the round key of each round, 0 to Nr, is the schedule's own
pub round_key_words : (key : List ℕ) → key_size (length key) ≡ true → (j : ℕ) → j ≤ Nr key
    → get_or (round_keys key) j [] ≡ block_at (key_expansion key) (16 * j)
unfolding round_keys
round_key_words key h j l =
    let w : List ℕ = key_expansion key in
    let z : List ℕ = replicate (240 - 16 * (Nr key + 1)) 0 in
    let e : length w ≡ 16 * (Nr key + 1) = length-key_expansion key h in
    get_or-tab 15 (λ j. block_at (w ++ z) (16 * j)) j [] (omega (arith, key_sizes (length key) h))
    ∙ ap (λ (v : List ℕ). take 16 v) (drop-append-le (16 * j) w z (omega arith))
    ∙ take-append-le 16 (drop (16 * j) w) z (omega (arith, length-drop (16 * j) w))

pub round_keys_blocks : (key : List ℕ) → key_size (length key) ≡ true → Bytes key → (j : ℕ) → j < 15 → Block (get_or (round_keys key) j [])
unfolding key_expansion round_keys
round_keys_blocks key h b j l =
    let s = key_sizes (length key) h in
    let n : ℕ = 4 * (Nr key + 1) - Nk key in
    let z : ℕ = 240 - 16 * (Nr key + 1) in
    let e : length (padded key) ≡ 240 =
    length-append (key_expansion key) (replicate z 0)
    ∙ omega (arith, length-key_expansion key h, length-replicate {A = ℕ} z 0) in
    subst Block (sym (get_or-tab 15 (λ j. block_at (padded key) (16 * j)) j [] l))
    (record {
      size = length-block_at (padded key) (16 * j) (omega arith);
      bytes =
          bytes_take 16 (drop (16 * j) (padded key))
          (bytes_drop (16 * j) (padded key)
          (bytes_append (key_expansion key) (replicate z 0) (bytes-expanded (Nk key) key b n) (bytes_zeros z)));
    })
