-- Laws of planes: what one put changes, what the blocks are once all planes are put, and each step by its planes.
-- Assumes nothing.
use mathlib.Core.Path.{◌≡◌, refl, sym, ap, ap₂, ◌∙◌}
use mathlib.Core.Bool.{Bool, true, false, cond}
use mathlib.Core.List.{List, ◌∷◌, ◌++◌, map, append_assoc, append-nil}
use Rattle.std.proofs.Common.{subst}
use Rattle.std.proofs.lemmas.List.{ext_get_or}
use Prim.Native.Nat.{ℕ, zero, suc, ◌+◌, ◌-◌, ◌*◌, ◌/◌, ◌%◌, ◌≤◌, ◌<◌}
use native.Mathlib.Nat.{add_comm, add-zero, mul-le-mul}
use native.Mathlib.Numerals.{add-one}
use native.Mathlib.Omega.{arith}
use borrow.Author.Count.{below_more}
use borrow.Author.Tests.{ltb-true, le-ltb}
use lib.Dec.{ltb}
use lib.Bits.{bit_xor}
use lib.ListN.{length, take, drop, replicate, length-append, get_or-replicate, get_or-append, take-append-drop}
use lib.Seq.{length-take-le, get_or-take, get_or-drop, get_or-append-add, take_at, drop_at, drop-drop}
use Rattle.block.specs.Tab.{tab, byte}
use Rattle.block.specs.Bytes.{Block}
use Rattle.block.specs.Xor.{◌⊕◌}
use Rattle.block.specs.Blocks.{block_at, with_block, blocks, join}
use Rattle.block.proofs.TabLaws.{get_or-tab, tab_ext, tab_eta, get_or-map, block_tab}
use Rattle.block.proofs.XorLaws.{length_⊕, get_or-⊕}
use Rattle.block.proofs.BlockLaws.{length-block_at, length-with_block}
use Rattle.sbox.specs.Field.{xtime, ◌•◌}
use Rattle.rounds.specs.Steps.{at, columns_times, mix_columns, inv_mix_columns, each_times_x}
use Rattle.rounds.proofs.Columns.{sum, five_and_four, inv_mix_by_mix}
use Rattle.planes.specs.Lanes.{lane, Lanewise}
use Rattle.planes.specs.Planes.{Plane, below, picked}

-- ---- the bytes of a block, of a lane, of a list after a put

byte_block : (s : List ℕ) (at l : ℕ) → l < 16 → byte (block_at s at) l ≡ byte s (at + l)
byte_block s at l h = get_or-take 16 (drop at s) l 0 h ∙ get_or-drop at s l 0

byte_lane : (s : List ℕ) (l p : ℕ) → p < 16 → byte (lane s l) p ≡ byte s (16 * p + l)
unfolding lane
byte_lane s l p h = get_or-tab 16 (λ p. byte s (16 * p + l)) p 0 h

byte_after : (p q : List ℕ) (n i : ℕ) → length p ≡ n → byte (p ++ q) (n + i) ≡ byte q i
byte_after p q n i e = ap (λ (m : ℕ). byte (p ++ q) (m + i)) (sym e) ∙ get_or-append-add p q i 0

module _ (d y : List ℕ) (at : ℕ) (h : at + 16 ≤ length d) (k : length y ≡ 16) where
  front : length (take at d) ≡ at
  front = length-take-le at d (omega arith)

  fronts : length (take at d ++ y) ≡ at + 16
  fronts = length-append (take at d) y ∙ ap₂ (λ (m n : ℕ). m + n) front k

  put_before : (i : ℕ) → i < at → byte (with_block d at y) i ≡ byte d i
  put_before i l =
      get_or-append (take at d ++ y) (drop (at + 16) d) 0 i (omega (arith, fronts))
      ∙ get_or-append (take at d) y 0 i (omega (arith, front))
      ∙ get_or-take at d i 0 l

  put_there : (i : ℕ) → i < 16 → byte (with_block d at y) (at + i) ≡ byte y i
  put_there i l =
      get_or-append (take at d ++ y) (drop (at + 16) d) 0 (at + i) (omega (arith, fronts)) ∙ byte_after (take at d) y at i front

  put_after : (i : ℕ) → at + 16 ≤ i → byte (with_block d at y) i ≡ byte d i
  put_after i l =
      let e : i ≡ at + 16 + (i - (at + 16)) = omega arith in
      ap (λ (n : ℕ). byte (with_block d at y) n) e
      ∙ byte_after (take at d ++ y) (drop (at + 16) d) (at + 16) (i - (at + 16)) fronts
      ∙ get_or-drop (at + 16) d (i - (at + 16)) 0
      ∙ ap (λ (n : ℕ). byte d n) (sym e)

-- two lists with the same bytes there have the same block there
same_block : (s t : List ℕ) (at : ℕ) → at + 16 ≤ length s → at + 16 ≤ length t → ((l : ℕ) → l < 16 → byte s (at + l) ≡ byte t (at + l))
    → block_at s at ≡ block_at t at
same_block s t at h k e =
    let n : length (block_at s at) ≡ 16 = length-block_at s at h in
    ext_get_or 0 (block_at s at) (block_at t at) (n ∙ sym (length-block_at t at k))
    (λ l i. byte_block s at l (omega arith) ∙ e l (omega arith) ∙ sym (byte_block t at l (omega arith)))

-- ---- a pass: one plane a turn

module _ (d y : List ℕ) (p : ℕ) (n : length d ≡ 256) (k : length y ≡ 16) (h : p < 16) where
  room : 16 * p + 16 ≤ length d
  room = omega arith

  size : length (with_block d (16 * p) y) ≡ 256
  size = length-with_block d (16 * p) y room k ∙ n

  plane_put : block_at (with_block d (16 * p) y) (16 * p) ≡ y
  plane_put =
      let l : length (block_at (with_block d (16 * p) y) (16 * p)) ≡ 16 = length-block_at (with_block d (16 * p) y) (16 * p) (omega (arith, size)) in
      ext_get_or 0 (block_at (with_block d (16 * p) y) (16 * p)) y (l ∙ sym k)
      (λ i j. byte_block (with_block d (16 * p) y) (16 * p) i (omega arith) ∙ put_there d y (16 * p) room k i (omega arith))

  plane_before : (q : ℕ) → q < p → block_at (with_block d (16 * p) y) (16 * q) ≡ block_at d (16 * q)
  plane_before q j =
      same_block (with_block d (16 * p) y) d (16 * q) (omega (arith, size)) (omega arith)
      (λ l i. put_before d y (16 * p) room k (16 * q + l) (omega arith))

  plane_after : (q : ℕ) → p < q → q < 16 → block_at (with_block d (16 * p) y) (16 * q) ≡ block_at d (16 * q)
  plane_after q j g =
      same_block (with_block d (16 * p) y) d (16 * q) (omega (arith, size)) (omega arith)
      (λ l i. put_after d y (16 * p) room k (16 * q + l) (omega arith))

-- of d₀ the first p planes are made anew, and the others stand as they came
pub record Anew (made : ℕ → List ℕ → List ℕ → Type 0) (d₀ d : List ℕ) (p : ℕ) : Type 0 where
  pub done : (q : ℕ) → q < p → made q (block_at d₀ (16 * q)) (block_at d (16 * q))
  pub left : (q : ℕ) → p ≤ q → q < 16 → block_at d (16 * q) ≡ block_at d₀ (16 * q)

pub anew_none : {made : ℕ → List ℕ → List ℕ → Type 0} {d : List ℕ} → Anew made d d 0
anew_none = record { done = λ q k. absurd (omega arith); left = λ q i j. refl }

pub anew_more : {made : ℕ → List ℕ → List ℕ → Type 0} {d₀ d : List ℕ} {p : ℕ} → Anew made d₀ d p → p < 16 → length d ≡ 256
    → (x y d' : List ℕ) → length y ≡ 16 → x ≡ block_at d (16 * p) → d' ≡ with_block d (16 * p) y → made p x y → Anew made d₀ d' (p + 1)
anew_more {made} {d₀} {d} {p} m h n x y d' k e f t =
    let at : (q : ℕ) → block_at d' (16 * q) ≡ block_at (with_block d (16 * p) y) (16 * q) = λ q. ap (λ (u : List ℕ). block_at u (16 * q)) f in
    record {
      done =
          below_more (λ q. made q (block_at d₀ (16 * q)) (block_at d' (16 * q))) p
          (λ q i. subst (λ (b : List ℕ). made q (block_at d₀ (16 * q)) b) (sym (at q ∙ plane_before d y p n k h q i)) (m.done q i))
          (subst (λ (b : List ℕ). made p (block_at d₀ (16 * p)) b) (sym (at p ∙ plane_put d y p n k h))
          (subst (λ (b : List ℕ). made p b y) (e ∙ m.left p (omega arith) h) t));
      left = λ q i j. at q ∙ plane_after d y p n k h q (omega arith) j ∙ m.left q (omega arith) j;
    }

-- each of the planes is that of the blocks x: then each lane is one of them
pub lanes_made : (x : ℕ → List ℕ) (d : List ℕ) → ((l : ℕ) → l < 16 → length (x l) ≡ 16)
    → ((p : ℕ) → p < 16 → Plane p x (block_at d (16 * p))) → (l : ℕ) → l < 16 → lane d l ≡ x l
unfolding lane
lanes_made x d k h l j =
    tab_ext 16 (λ p. byte d (16 * p + l)) (λ p. byte (x l) p) (λ p i. sym (byte_block d (16 * p) l j) ∙ h p i l j) ∙ tab_eta 16 (x l) 0 (k l j)

-- ---- a step by its planes

-- plane q has byte q of each of the lanes
pub plane_lane : (s : List ℕ) (q : ℕ) → q < 16 → Plane q (lane s) (block_at s (16 * q))
plane_lane s q h l k = byte_block s (16 * q) l k ∙ sym (byte_lane s l q h)

-- k rows' worth further, modulo 16
pub pick_plane : (k : ℕ) (s : List ℕ) (p : ℕ) → p < 16 → Plane p (λ l. picked k (lane s l)) (block_at s (16 * ((p + k * (p % 4)) % 16)))
unfolding picked
pick_plane k s p h l j =
    plane_lane s ((p + k * (p % 4)) % 16) (omega arith) l j
    ∙ sym (get_or-tab 16 (λ i. byte (lane s l) ((i + k * (i % 4)) % 16)) p 0 h)

-- how far that goes at most
pub pick_bound : (k p : ℕ) → k < 16 → k * (p % 4) ≤ 16 * 4
pick_bound k p h = mul-le-mul {n₂ = 16} {m₂ = 4} (omega arith) (omega arith)

byte_xor : (a b : List ℕ) (l : ℕ) → length a ≡ 16 → length b ≡ 16 → byte (a ⊕ b) l ≡ bit_xor (byte a l) (byte b l)
byte_xor a b l h k = get_or-⊕ a b l (h ∙ sym k)

byte_times : (a : List ℕ) (l : ℕ) → l < 16 → byte (each_times_x a) l ≡ xtime (byte a l)
byte_times a l h = get_or-tab 16 (λ i. xtime (byte a i)) l 0 h

-- the sum of four products, of the bytes of four planes
columns_plane : (a b d e : ℕ) (s x y z w : List ℕ) (p : ℕ) → p < 16
    → Plane (below p 0) (lane s) x → Plane (below p 1) (lane s) y → Plane (below p 2) (lane s) z → Plane (below p 3) (lane s) w
    → (l : ℕ) → l < 16 → sum (a • byte x l) (b • byte y l) (d • byte z l) (e • byte w l) ≡ byte (columns_times a b d e (lane s l)) p
unfolding columns_times
columns_plane a b d e s x y z w p h px py pz pw l k =
    let t : List ℕ = lane s l in
    let own : below p 0 ≡ p % 4 + 4 * (p / 4) = omega arith in
    ap₂ (λ (m n : ℕ). bit_xor m n) (ap (λ (m : ℕ). a • m) (px l k ∙ ap (λ (m : ℕ). byte t m) own))
    (ap₂ (λ (m n : ℕ). bit_xor m n) (ap (λ (m : ℕ). b • m) (py l k))
    (ap₂ (λ (m n : ℕ). bit_xor m n) (ap (λ (m : ℕ). d • m) (pz l k)) (ap (λ (m : ℕ). e • m) (pw l k))))
    ∙ sym (get_or-tab 16
    (λ i. sum (a • at t (i % 4) (i / 4)) (b • at t ((i % 4 + 1) % 4) (i / 4)) (d • at t ((i % 4 + 2) % 4) (i / 4)) (e • at t ((i % 4 + 3) % 4) (i / 4)))
    p 0 h)

-- MixColumns: 02 is x, 03 is x and 1
pub mix_plane : (s x y z w : List ℕ) (p : ℕ) → p < 16 → length y ≡ 16 → length z ≡ 16 → length w ≡ 16
    → Plane (below p 0) (lane s) x → Plane (below p 1) (lane s) y → Plane (below p 2) (lane s) z → Plane (below p 3) (lane s) w
    → Plane p (λ l. mix_columns (lane s l)) (each_times_x x ⊕ (each_times_x y ⊕ y ⊕ (z ⊕ w)))
unfolding mix_columns ◌•◌
mix_plane s x y z w p h ly lz lw px py pz pw l k =
    let u : List ℕ = each_times_x y ⊕ y in
    let lu : length u ≡ 16 = length_⊕ (each_times_x y) y in
    byte_xor (each_times_x x) (u ⊕ (z ⊕ w)) l refl (length_⊕ u (z ⊕ w) ∙ lu)
    ∙ ap₂ (λ (m n : ℕ). bit_xor m n) (byte_times x l k)
    (byte_xor u (z ⊕ w) l lu (length_⊕ z w ∙ lz)
    ∙ ap₂ (λ (m n : ℕ). bit_xor m n) (byte_xor (each_times_x y) y l refl ly ∙ ap (λ (m : ℕ). bit_xor m (byte y l)) (byte_times y l k)) (byte_xor z w l lz lw))
    ∙ columns_plane 2 3 1 1 s x y z w p h px py pz pw l k

-- times (05, 00, 04, 00): the plane, and 04 of its sum with the one two rows below
pub prepare_plane : (s x z : List ℕ) (p : ℕ) → p < 16 → Block x → Block z → Plane (below p 0) (lane s) x → Plane (below p 2) (lane s) z
    → Plane p (λ l. columns_times 5 0 4 0 (lane s l)) (x ⊕ each_times_x (each_times_x (x ⊕ z)))
prepare_plane s x z p h bx bz px pz l k =
    let y : List ℕ = block_at s (16 * below p 1) in
    let w : List ℕ = block_at s (16 * below p 3) in
    byte_xor x (each_times_x (each_times_x (x ⊕ z))) l bx.size refl
    ∙ ap (λ (m : ℕ). bit_xor (byte x l) m)
    (byte_times (each_times_x (x ⊕ z)) l k ∙ ap xtime (byte_times (x ⊕ z) l k ∙ ap xtime (byte_xor x z l bx.size bz.size)))
    ∙ five_and_four (byte x l) (byte z l) (byte y l) (byte w l) (bx.bytes.below l) (bz.bytes.below l)
    ∙ columns_plane 5 0 4 0 s x y z w p h px (plane_lane s (below p 1) (omega arith)) pz (plane_lane s (below p 3) (omega arith)) l k

-- AddRoundKey: a plane has one byte of the key
pub add_plane : (s : List ℕ) (p : ℕ) → length s ≡ 256 → p < 16 → (k : List ℕ) → length k ≡ 16
    → Plane p (λ l. lane s l ⊕ k) (block_at s (16 * p) ⊕ replicate 16 (byte k p))
unfolding lane
add_plane s p n h k lk l j =
    byte_xor (block_at s (16 * p)) (replicate 16 (byte k p)) l (length-block_at s (16 * p) (omega arith)) refl
    ∙ ap₂ (λ (m n : ℕ). bit_xor m n) (plane_lane s p h l j) (get_or-replicate 16 l (byte k p) 0 j)
    ∙ sym (byte_xor (lane s l) k p refl lk)

-- the n blocks of s from `at` on, then blocks of zeros
abbrev pub padded : List ℕ → ℕ → ℕ → ℕ → List ℕ
padded s at n l = cond (ltb l n) (block_at s (at + 16 * l)) (replicate 16 0)

pub length-padded : (s : List ℕ) (at n l : ℕ) → at + 16 * n ≤ length s → length (padded s at n l) ≡ 16
length-padded s at n l h = go (ltb l n) (λ t. length-block_at s (at + 16 * l) (omega (arith, ltb-true l n t)))
  where
    go : (t : Bool) → (t ≡ true → length (block_at s (at + 16 * l)) ≡ 16) → length (cond t (block_at s (at + 16 * l)) (replicate 16 0)) ≡ 16
    go true k = k refl
    go false k = refl

-- byte p of each of them
pub spread_plane : (s : List ℕ) (at n p : ℕ) → p < 16
    → Plane p (padded s at n) (tab 16 (λ i. cond (ltb i n) (byte s (at + p + 16 * i)) 0))
spread_plane s at n p h l k =
    let e : at + p + 16 * l ≡ at + 16 * l + p = omega arith in
    get_or-tab 16 (λ i. cond (ltb i n) (byte s (at + p + 16 * i)) 0) l 0 k
    ∙ ap (λ (b : ℕ). cond (ltb l n) b 0) (ap (λ (n : ℕ). byte s n) e ∙ sym (byte_block s (at + 16 * l) p h))
    ∙ go (ltb l n)
  where
    go : (t : Bool) → cond t (byte (block_at s (at + 16 * l)) p) 0 ≡ byte (cond t (block_at s (at + 16 * l)) (replicate 16 0)) p
    go true = refl
    go false = sym (get_or-replicate 16 p 0 0 h)

-- a table that is 0 from n on ends as zeros do
zeros_after : (m n : ℕ) (f : ℕ → ℕ) → ((i : ℕ) → n ≤ i → f i ≡ 0) → drop n (replicate m 0) ≡ drop n (tab m f)
zeros_after zero n f h = refl
zeros_after (suc m) zero f h =
    ap₂ (λ (x : ℕ) (t : List ℕ). x ∷ t) (sym (h zero (omega arith))) (zeros_after m zero (λ i. f (suc i)) (λ i k. h (suc i) (omega arith)))
zeros_after (suc m) (suc n) f h = zeros_after m n (λ i. f (suc i)) (λ i k. h (suc i) (omega arith))

pub strided_done : (f : ℕ → ℕ) (n : ℕ)
    → take n (tab 16 (λ i. cond (ltb i n) (f i) 0)) ++ drop n (replicate 16 0) ≡ tab 16 (λ i. cond (ltb i n) (f i) 0)
strided_done f n =
    let g : ℕ → ℕ = λ i. cond (ltb i n) (f i) 0 in
    ap (λ (t : List ℕ). take n (tab 16 g) ++ t) (zeros_after 16 n g (λ i h. ap (λ (t : Bool). cond t (f i) 0) (le-ltb i n h)))
    ∙ take-append-drop n (tab 16 g)

-- ---- a function of each byte, after a step

lane_map : (f : ℕ → ℕ) (d : List ℕ) (l : ℕ) → length d ≡ 256 → l < 16 → lane (map f d) l ≡ tab 16 (λ p. f (byte (lane d l) p))
unfolding lane
lane_map f d l h k =
    tab_ext 16 (λ p. byte (map f d) (16 * p + l)) (λ p. f (byte d (16 * p + l))) (λ p j. get_or-map f d (16 * p + l) (omega arith))

pub map_lanes : (f : ℕ → ℕ) (g : List ℕ → List ℕ) (s t d : List ℕ) → length t ≡ 256 → d ≡ map f t → Lanewise g s t
    → Lanewise (λ b. tab 16 (λ p. f (byte (g b) p))) s d
map_lanes f g s t d h e k l j =
    ap (λ (u : List ℕ). lane u l) e ∙ lane_map f t l h j ∙ ap (λ (b : List ℕ). tab 16 (λ p. f (byte b p))) (k l j)

-- ---- the lanes as blocks

pub block_lane : (s : List ℕ) → ((i : ℕ) → byte s i < 256) → (l : ℕ) → Block (lane s l)
unfolding lane
block_lane s h l = block_tab (λ p. byte s (16 * p + l)) (λ p k. h (16 * p + l))

pub inv_mix_lanes : (s t d : List ℕ) → ((i : ℕ) → byte s i < 256) → Lanewise (columns_times 5 0 4 0) s t → Lanewise mix_columns t d
    → Lanewise inv_mix_columns s d
inv_mix_lanes s t d h f g l k = g l k ∙ ap mix_columns (f l k) ∙ inv_mix_by_mix (lane s l) (block_lane s h l)

blocks_tab : (n : ℕ) (s : List ℕ) → blocks n s ≡ tab n (λ i. block_at s (16 * i))
unfolding blocks
blocks_tab zero s = refl
blocks_tab (suc n) s =
    ap (λ (t : List (List ℕ)). take 16 s ∷ t)
    (blocks_tab n (drop 16 s)
    ∙ tab_ext n (λ i. block_at (drop 16 s) (16 * i)) (λ i. block_at s (16 * suc i))
    (λ i h. let e : 16 + 16 * i ≡ 16 * suc i = omega arith in ap (λ (t : List ℕ). take 16 t) (drop-drop (16 * i) 16 s ∙ ap (λ (m : ℕ). drop m s) e)))

pub lanes_blocks : (d s : List ℕ) (at n : ℕ) → ((l : ℕ) → l < n → lane d l ≡ block_at s (at + 16 * l)) → tab n (lane d) ≡ blocks n (drop at s)
lanes_blocks d s at n h =
    tab_ext n (lane d) (λ l. block_at (drop at s) (16 * l)) (λ l k. h l k ∙ ap (λ (t : List ℕ). take 16 t) (sym (drop-drop (16 * l) at s)))
    ∙ sym (blocks_tab n (drop at s))

-- ---- the blocks put back, one a turn

pub strided_lane : (s : List ℕ) (l : ℕ) → tab 16 (λ i. byte s (l + 16 * i)) ≡ lane s l
unfolding lane
strided_lane s l =
    tab_ext 16 (λ i. byte s (l + 16 * i)) (λ i. byte s (16 * i + l)) (λ i h. ap (λ (n : ℕ). byte s n) (add_comm l (16 * i)))

length-lane : (s : List ℕ) (l : ℕ) → length (lane s l) ≡ 16
unfolding lane
length-lane s l = refl

-- d with the first l lanes of s in their place from `at` on
abbrev pub gathered : List ℕ → List ℕ → ℕ → ℕ → List ℕ
gathered s d at l = take at d ++ join (tab l (lane s)) ++ drop (at + 16 * l) d

join_more : (f : ℕ → List ℕ) (n : ℕ) → join (tab (suc n) f) ≡ join (tab n f) ++ f n
unfolding join
join_more f zero = append-nil (f zero)
join_more f (suc n) =
    ap (λ (t : List ℕ). f zero ++ t) (join_more (λ i. f (suc i)) n) ∙ sym (append_assoc (f zero) (join (tab n (λ i. f (suc i)))) (f (suc n)))

length-join : (f : ℕ → List ℕ) → ((i : ℕ) → length (f i) ≡ 16) → (n : ℕ) → length (join (tab n f)) ≡ 16 * n
unfolding join
length-join f h zero = refl
length-join f h (suc n) =
    length-append (f zero) (join (tab n (λ i. f (suc i)))) ∙ omega (arith, h zero, length-join (λ i. f (suc i)) (λ i. h (suc i)) n)

-- a block put next to a front part that is done
put_next : (p d y : List ℕ) (m : ℕ) → length p ≡ m → with_block (p ++ drop m d) m y ≡ p ++ y ++ drop (m + 16) d
put_next p d y m e =
    ap₂ (λ (t r : List ℕ). t ++ y ++ r) (take_at p (drop m d) m e)
    (sym (drop-drop 16 m (p ++ drop m d)) ∙ ap (λ (t : List ℕ). drop 16 t) (drop_at p (drop m d) m e) ∙ drop-drop 16 m d)

pub gather_none : (s d : List ℕ) (at : ℕ) → d ≡ gathered s d at 0
unfolding join
gather_none s d at =
    sym
    (ap₂ (λ (t : List ℕ) (n : ℕ). t ++ drop n d) (append-nil (take at d)) (add-zero at) ∙ take-append-drop at d)

pub gather_turn : (s d : List ℕ) (at l : ℕ) → at ≤ length d → with_block (gathered s d at l) (at + 16 * l) (lane s l) ≡ gathered s d at (l + 1)
gather_turn s d at l h =
    let j : List ℕ = join (tab l (lane s)) in
    let n : length (take at d ++ j) ≡ at + 16 * l =
    length-append (take at d) j ∙ omega (arith, length-take-le at d h, length-join (lane s) (length-lane s) l) in
    let e : at + 16 * l + 16 ≡ at + 16 * (l + 1) = omega arith in
    put_next (take at d ++ j) d (lane s l) (at + 16 * l) n
    ∙ ap₂ (λ (t : List ℕ) (m : ℕ). t ++ drop m d)
    (append_assoc (take at d) j (lane s l)
    ∙ ap (λ (t : List ℕ). take at d ++ t) (sym (join_more (lane s) l) ∙ ap (λ (m : ℕ). join (tab m (lane s))) (sym (add-one l))))
    e
