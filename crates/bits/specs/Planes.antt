-- 32 bytes in eight words, bit i of each in word i; a group of four such, and which bytes of a list it has where.
-- Assumes nothing.
use Rattle.std.specs.Prelude.{◌≡◌, List, [], ◌∷◌, map, ℕ, zero, suc, ◌+◌, ◌*◌, ◌/◌, ◌%◌, ◌^◌, ◌<◌, length, get_or, set}
use Rattle.block.specs.Tab.{byte}
use Rattle.bits.specs.declared.BitPlanes.{BitPlanes}

-- bit i of a number, and the number of bits, the lowest first
unfoldable pub bit : ℕ → ℕ → ℕ
bit w zero = w % 2
bit w (suc i) = bit (w / 2) i

abbrev pub of_bits : List ℕ → ℕ
of_bits [] = 0
of_bits (x ∷ xs) = x + 2 * of_bits xs

-- the eight words
abbrev pub words : BitPlanes → List ℕ
words q = q.p0 ∷ q.p1 ∷ q.p2 ∷ q.p3 ∷ q.p4 ∷ q.p5 ∷ q.p6 ∷ q.p7 ∷ []

-- byte k of the 32: bit k of each of the words
unfoldable pub byte_at : List ℕ → ℕ → ℕ
byte_at ws k = of_bits (map (λ w. bit w k) ws)

-- byte c of a word
abbrev pub byte_of : ℕ → ℕ → ℕ
byte_of w c = w / 2 ^ (8 * c) % 256

-- every byte of r is f of the byte of q
pub record Each (f : ℕ → ℕ) (q r : List ℕ) : Type 0 where
  pub at : (k : ℕ) → k < 32 → byte_at r k ≡ f (byte_at q k)

-- a group is 32 words: planes t, t + 4, .. t + 28 for each t below 4
abbrev pub planes : List ℕ → ℕ → BitPlanes
planes g t = record {
  p0 = get_or g t 0;
  p1 = get_or g (t + 4) 0;
  p2 = get_or g (t + 8) 0;
  p3 = get_or g (t + 12) 0;
  p4 = get_or g (t + 16) 0;
  p5 = get_or g (t + 20) 0;
  p6 = get_or g (t + 24) 0;
  p7 = get_or g (t + 28) 0;
}

abbrev pub planes_of : List ℕ → ℕ → List ℕ
planes_of g t = words (planes g t)

-- the group with the words of q in the place of those at t: the first at t, the others from t + k on, each four places further
abbrev pub puts : List ℕ → ℕ → ℕ → List ℕ → List ℕ
puts g t k [] = g
puts g t k (x ∷ xs) = puts (set g (t + k) x) t (k + 4) xs

abbrev pub with_planes : List ℕ → ℕ → List ℕ → List ℕ
with_planes g t [] = g
with_planes g t (x ∷ xs) = puts (set g t x) t 4 xs

-- of every planes of g and those in their place in h, P holds
pub record OverPlanes (P : BitPlanes → BitPlanes → Type 0) (g h : List ℕ) : Type 0 where
  pub at : (t : ℕ) → t < 4 → P (planes g t) (planes h t)

-- every byte of every planes of h is f of the byte of g
abbrev pub EachOf : (ℕ → ℕ) → List ℕ → List ℕ → Type 0
EachOf f g h = OverPlanes (λ q r. Each f (words q) (words r)) g h

-- the group has n times 16 bytes of s: planes t of the group have, in bit j of byte c, byte 4 * t + c of block j
pub record Spread (n : ℕ) (s g : List ℕ) : Type 0 where
  pub at : (j t c : ℕ) → j < n → t < 4 → c < 4 → byte_at (planes_of g t) (8 * c + j) ≡ byte s (16 * j + (4 * t + c))

-- what `flipped` leaves of planes q: bit i of byte c of word j, and bit j of byte c of word i, are exchanged
pub record Flipped (q r : List ℕ) : Type 0 where
  pub at : (i j c : ℕ) → i < 8 → j < 8 → c < 4 → bit (get_or r i 0) (8 * c + j) ≡ bit (get_or q j 0) (8 * c + i)

-- the planes have the bytes of a word, each in bit 0 of that byte
pub record Placed (w : ℕ) (q : List ℕ) : Type 0 where
  pub at : (c : ℕ) → c < 4 → byte_at q (8 * c) ≡ byte_of w c

-- w is the word of the four bytes of s from `at` on, the lowest first
pub record Word (w : ℕ) (s : List ℕ) (at : ℕ) : Type 0 where
  pub has : (c : ℕ) → c < 4 → byte_of w c ≡ byte s (at + c)

-- s with the word's bytes from `at` on: they are there, and the bytes before are kept
pub record WordPut (w : ℕ) (s : List ℕ) (at : ℕ) (s' : List ℕ) : Type 0 where
  pub size : length s' ≡ length s
  pub has : (c : ℕ) → c < 4 → byte_of w c ≡ byte s' (at + c)
  pub before : (i : ℕ) → i < at → byte s' i ≡ byte s i

-- the 32 words of g are the bytes of s
pub record Words (s g : List ℕ) : Type 0 where
  pub at : (m : ℕ) → m < 32 → Word (get_or g m 0) s (4 * m)
