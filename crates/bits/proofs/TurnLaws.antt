-- What four planes of a group have of the bytes of a block, and of eight blocks once words of bytes are turned.
-- Assumes nothing.
use mathlib.Core.Path.{◌≡◌, ap, ◌∙◌}
use mathlib.Core.List.{List}
use Prim.Native.Nat.{ℕ, ◌+◌, ◌*◌, ◌<◌}
use native.Mathlib.Omega.{arith}
use lib.ListN.{get_or}
use Rattle.block.specs.Tab.{byte}
use Rattle.bits.specs.Planes.{byte_at, byte_of, planes_of, Flipped, Words, Spread}
use Rattle.bits.proofs.PlaneLaws.{flip_planes, flip_words}
use Rattle.bits.proofs.GroupLaws.{planes_at}

-- four bytes of s in planes, each in bit 0 of its byte
abbrev pub Four : List ℕ → ℕ → List ℕ → Type 0
Four s u ws = (c : ℕ) → c < 4 → byte_at ws (8 * c) ≡ byte s (4 * u + c)

pub spread_one : (s g : List ℕ) → ((u : ℕ) → u < 4 → Four s u (planes_of g u)) → Spread 1 s g
spread_one s g d = record { at = λ j t c hj ht hc. one j t c hj (d t ht c hc) }
  where
    one : (j t c : ℕ) → j < 1 → byte_at (planes_of g t) (8 * c) ≡ byte s (4 * t + c)
        → byte_at (planes_of g t) (8 * c + j) ≡ byte s (16 * j + (4 * t + c))
    one j t c h e =
        let p : 8 * c + j ≡ 8 * c = omega arith in
        let q : 4 * t + c ≡ 16 * j + (4 * t + c) = omega arith in
        ap (λ (k : ℕ). byte_at (planes_of g t) k) p ∙ e ∙ ap (λ (k : ℕ). byte s k) q

pub spread_eight : (s g h : List ℕ) → Words s g → ((t : ℕ) → t < 4 → Flipped (planes_of g t) (planes_of h t)) → Spread 8 s h
spread_eight s g h w f = record {
  at = λ j t c hj ht hc.
      let e : 4 * (t + 4 * j) + c ≡ 16 * j + (4 * t + c) = omega arith in
      flip_planes (get_or h t 0) (get_or h (t + 4) 0) (get_or h (t + 8) 0) (get_or h (t + 12) 0)
      (get_or h (t + 16) 0) (get_or h (t + 20) 0) (get_or h (t + 24) 0) (get_or h (t + 28) 0) (planes_of g t) (f t ht) j c hj hc
      ∙ ap (λ (x : ℕ). byte_of x c) (planes_at g t j hj)
      ∙ (w.at (t + 4 * j) (omega arith)).has c hc
      ∙ ap (λ (k : ℕ). byte s k) e;
}

pub gather_eight : (s g h : List ℕ) → ((t : ℕ) → t < 4 → Flipped (planes_of g t) (planes_of h t)) → Words s h → Spread 8 s g
gather_eight s g h f w = record {
  at = λ j t c hj ht hc.
      let e : 4 * (t + 4 * j) + c ≡ 16 * j + (4 * t + c) = omega arith in
      flip_words (get_or g t 0) (get_or g (t + 4) 0) (get_or g (t + 8) 0) (get_or g (t + 12) 0)
      (get_or g (t + 16) 0) (get_or g (t + 20) 0) (get_or g (t + 24) 0) (get_or g (t + 28) 0) (planes_of h t) (f t ht) j c hj hc
      ∙ ap (λ (x : ℕ). byte_of x c) (planes_at h t j hj)
      ∙ (w.at (t + 4 * j) (omega arith)).has c hc
      ∙ ap (λ (k : ℕ). byte s k) e;
}
