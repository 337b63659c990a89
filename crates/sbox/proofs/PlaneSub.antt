-- Bytes that go into planes and come out of planes of which each byte is f of what went in.
-- Assumes nothing.
use mathlib.Core.Path.{◌≡◌, sym, ap, ◌∙◌}
use mathlib.Core.List.{List, [], ◌∷◌, ◌++◌, map, append_assoc}
use Prim.Native.Nat.{ℕ, zero, suc, ◌+◌, ◌*◌, ◌/◌, ◌%◌, ◌≤◌, ◌<◌}
use native.Mathlib.Nat.{zero-add}
use native.Mathlib.Omega.{arith}
use lib.ListN.{length, take, drop, length-map}
use lib.Seq.{ext_get_or, length-take-le, take_at, drop_at, drop-drop, take-add}
use Rattle.std.proofs.lemmas.List.{take-map, drop-map}
use Rattle.std.specs.Int.{w32, from_le_bytes, to_le_bytes}
use Rattle.block.specs.Tab.{tab, byte}
use Rattle.block.proofs.TabLaws.{tab_ext, tab_eta, get_or-map}
use Rattle.bits.specs.Planes.{byte_of, Each, EachOf, Spread, Placed, Word}

module _ (f : ℕ → ℕ) (n : ℕ) (s s' g h : List ℕ) (few : n ≤ 8) (into : Spread n s g) (each : EachOf f g h) (out : Spread n s' h) where
  pub spread_byte : (i : ℕ) → i < 16 * n → byte s' i ≡ f (byte s i)
  spread_byte i k =
      let j : ℕ = i / 16 in
      let t : ℕ = i % 16 / 4 in
      let c : ℕ = i % 4 in
      let hj : j < n = omega arith in
      let ht : t < 4 = omega arith in
      let hc : c < 4 = omega arith in
      let e : 16 * j + (4 * t + c) ≡ i = omega arith in
      ap (λ (x : ℕ). byte s' x) (sym e)
      ∙ sym (out.at j t c hj ht hc)
      ∙ (each.at t ht).at (8 * c + j) (omega arith)
      ∙ ap f (into.at j t c hj ht hc ∙ ap (λ (x : ℕ). byte s x) e)

  pub spread_map : length s ≡ 16 * n → length s' ≡ 16 * n → s' ≡ map f s
  spread_map l m =
      ext_get_or 0 s' (map f s) (m ∙ sym (length-map s f ∙ l)) (λ i k. spread_byte i (omega arith) ∙ sym (get_or-map f s i (omega arith)))

  pub spread_tab : length s' ≡ 16 * n → s' ≡ tab (16 * n) (λ i. f (byte s i))
  spread_tab m = sym (tab_eta (16 * n) s' 0 m) ∙ tab_ext (16 * n) (λ i. byte s' i) (λ i. f (byte s i)) (λ i k. spread_byte i k)

-- four bytes as a word
pub word_whole : (w : List ℕ) → ((i : ℕ) → byte w i < 256) → Word (from_le_bytes w32 w) w 0
word_whole w h = record { has = go }
  where
    go : (c : ℕ) → c < 4 → byte_of (from_le_bytes w32 w) c ≡ byte w (0 + c)
    go zero k = omega (arith, h 0, h 1, h 2, h 3)
    go (suc zero) k = omega (arith, h 0, h 1, h 2, h 3)
    go (suc (suc zero)) k = omega (arith, h 0, h 1, h 2, h 3)
    go (suc (suc (suc zero))) k = omega (arith, h 0, h 1, h 2, h 3)
    go (suc (suc (suc (suc c)))) k = omega arith

-- the same of a word: x is the word of w, in planes q, and v that of the planes r
module _ (f : ℕ → ℕ) (w q r : List ℕ) (x v : ℕ) (word : Word x w 0) (into : Placed x q) (each : Each f q r) (out : Placed v r) where
  word_byte : (c : ℕ) → c < 4 → byte_of v c ≡ f (byte w c)
  word_byte c h =
      sym (out.at c h)
      ∙ each.at (8 * c) (omega arith)
      ∙ ap f (into.at c h ∙ word.has c h ∙ ap (λ (i : ℕ). byte w i) (zero-add c))

  pub word_bytes : to_le_bytes w32 v ≡ tab 4 (λ i. f (byte w i))
  word_bytes =
      let e₀ : v % 256 ≡ v / 1 % 256 = omega arith in
      λ i.
      (e₀ ∙ word_byte 0 (omega arith)) i
      ∷ word_byte 1 (omega arith) i
      ∷ word_byte 2 (omega arith) i
      ∷ word_byte 3 (omega arith) i
      ∷ []

-- ---- a list of which a part is done

-- the part from a to a + k, in a list whose first a are done
module _ (f : ℕ → ℕ) (s₀ s : List ℕ) (a k : ℕ) (h : a + k ≤ length s₀) (done : s ≡ take a (map f s₀) ++ drop a s₀) where
  abbrev M : List ℕ
  M = map f s₀

  front : length (take a M) ≡ a
  front = length-take-le a M (omega (arith, length-map s₀ f))

  pub part_here : take k (drop a s) ≡ take k (drop a s₀)
  part_here = ap (λ (z : List ℕ). take k (drop a z)) done ∙ ap (take k) (drop_at (take a M) (drop a s₀) a front)

  pub part_more : (t : List ℕ) → t ≡ map f (take k (drop a s)) → take a s ++ (t ++ drop (a + k) s) ≡ take (a + k) M ++ drop (a + k) s₀
  part_more t e =
      ap (λ (z : List ℕ). take a z ++ (t ++ drop (a + k) s)) done
      ∙ ap (λ (z : List ℕ). z ++ (t ++ drop (a + k) s)) (take_at (take a M) (drop a s₀) a front)
      ∙ ap (λ (z : List ℕ). take a M ++ (z ++ drop (a + k) s)) (e ∙ ap (map f) part_here ∙ sym (take-map f k (drop a s₀)) ∙ ap (take k) (sym (drop-map f a s₀)))
      ∙ sym (append_assoc (take a M) (take k (drop a M)) (drop (a + k) s))
      ∙ ap (λ (z : List ℕ). z ++ drop (a + k) s) (sym (take-add a k M))
      ∙ ap (λ (z : List ℕ). take (a + k) M ++ z)
      (sym (drop-drop k a s)
      ∙ ap (λ (z : List ℕ). drop k (drop a z)) done
      ∙ ap (drop k) (drop_at (take a M) (drop a s₀) a front)
      ∙ drop-drop k a s₀)
