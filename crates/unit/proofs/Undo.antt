-- A unit is undone by the unit with the permutation's inverse and the other direction, stealing included, and keeps its length: once over any
-- two functions that keep blocks and undo each other on them, and over both directions.
-- Assumes nothing.
use mathlib.Core.Path.{◌≡◌, refl, sym, ap, ap₂, ◌∙◌, subst}
use mathlib.Core.Bool.{Bool, true, false, cond, not}
use mathlib.Core.List.{List, [], ◌∷◌, ◌++◌}
use mathlib.Core.Logic.{◌⊎◌, ⊎_elim}
use Prim.Native.Nat.{ℕ, suc, ◌+◌, ◌-◌, ◌*◌, ◌≤◌, ◌<◌}
use native.Mathlib.Nat.{not-suc-le-zero}
use native.Mathlib.Omega.{arith}
use lib.ListN.{length, take, drop, length-append, length-drop, take-append-drop}
use lib.Seq.{length-take-le, take_at, drop_at}
use Rattle.block.specs.Xor.{◌⊕◌}
use Rattle.block.specs.Bytes.{Bytes, Block}
use Rattle.block.specs.Blocks.{blocks, join}
use Rattle.block.specs.Double.{double, doubles}
use Rattle.block.specs.Permutation.{Undoes}
use Rattle.block.proofs.BytesLaws.{bytes_take, bytes_drop, bytes_append}
use Rattle.block.proofs.XorLaws.{⊕_undo, block_⊕}
use Rattle.block.proofs.DoubleLaws.{block_double, block_doubles}
use Rattle.block.proofs.BlockLaws.{length-blocks, blocks_join, length-join, join_blocks_take}
use Rattle.block.proofs.AllBlocks.{AllBlocks, all_sized, all_blocks, bytes_joined}
use Rattle.unit.specs.Unit.{alone, xts_block, xts_blocks, CC, Cm, CP, PP, stolen, last_two, xts_unit}
use Rattle.unit.proofs.AloneLaws.{left_of}

-- the two tweaks of stealing change places with the direction
turned : (back : Bool) (x y : List ℕ) → cond (not back) x y ≡ cond back y x
turned true x y = refl
turned false x y = refl

block_cond : (t : Bool) {x y : List ℕ} → Block x → Block y → Block (cond t x y)
block_cond true h k = h
block_cond false h k = k

pub length-xts_blocks : (f : List ℕ → List ℕ) (T : List ℕ) (Ps : List (List ℕ)) → length (xts_blocks f T Ps) ≡ length Ps
unfolding xts_blocks
length-xts_blocks f T [] = refl
length-xts_blocks f T (P ∷ Ps) = ap suc (length-xts_blocks f (double T) Ps)

-- what is left after the blocks that can be read alone, if it is anything
pub last_two_lem : (f : List ℕ → List ℕ) (back : Bool) (T d : List ℕ) → 0 < length d
    → last_two f back T d ≡ stolen f (cond back (double T) T) (cond back T (double T)) (take 16 d) (drop 16 d)
unfolding last_two
last_two_lem f back T [] h = absurd (not-suc-le-zero h)
last_two_lem f back T (x ∷ d) h = refl

pub none_last : (f : List ℕ → List ℕ) (back : Bool) (T d : List ℕ) → length d ≡ 0 → last_two f back T d ≡ d
unfolding last_two
none_last f back T [] h = refl
none_last f back T (x ∷ d) h = let z : ⊥ = omega arith in absurd z

module _ (f g : List ℕ → List ℕ) (u : Undoes f g) where
  -- ---- blocks under their tweaks

  pub block_xts_block : {T P : List ℕ} → Block T → Block P → Block (xts_block f T P)
  unfolding xts_block
  block_xts_block h_t h_p = block_⊕ (u.keeps (block_⊕ h_p h_t)) h_t

  pub xts_block_undone : {T P : List ℕ} → Block T → Block P → xts_block g T (xts_block f T P) ≡ P
  unfolding xts_block
  xts_block_undone {T} {P} h_t h_p =
      ap (λ (x : List ℕ). g x ⊕ T) (⊕_undo (f (P ⊕ T)) T) ∙ ap (λ (x : List ℕ). x ⊕ T) (u.back (block_⊕ h_p h_t)) ∙ ⊕_undo P T

  pub all_xts_blocks : {T : List ℕ} → Block T → (Ps : List (List ℕ)) → AllBlocks Ps → AllBlocks (xts_blocks f T Ps)
  unfolding xts_blocks
  all_xts_blocks h_t [] k = tt
  all_xts_blocks {T} h_t (P ∷ Ps) k = (block_xts_block h_t k.0, all_xts_blocks {T = double T} (block_double T) Ps k.1)

  xts_blocks_undone : {T : List ℕ} → Block T → (Ps : List (List ℕ)) → AllBlocks Ps → xts_blocks g T (xts_blocks f T Ps) ≡ Ps
  unfolding xts_blocks
  xts_blocks_undone h_t [] k = refl
  xts_blocks_undone {T} h_t (P ∷ Ps) k =
      ap₂ (λ (x : List ℕ) (xs : List (List ℕ)). x ∷ xs) (xts_block_undone h_t k.0) (xts_blocks_undone {T = double T} (block_double T) Ps k.1)

  -- ---- stealing, of a full block P and fewer than 16 bytes s

  module _ {T₁ T₂ P : List ℕ} (h₁ : Block T₁) (h₂ : Block T₂) (h_p : Block P) (s : List ℕ) (ls : length s < 16) (bs : Bytes s) where
    h_cc : Block (CC f T₁ T₂ P s)
    h_cc = block_xts_block h₁ h_p

    length-Cm : length (Cm f T₁ T₂ P s) ≡ length s
    length-Cm = length-take-le (length s) (CC f T₁ T₂ P s) (omega (arith, h_cc.size))

    h_pp : Block (PP f T₁ T₂ P s)
    h_pp =
        record {
          size = length-append s (CP f T₁ T₂ P s) ∙ omega (arith, length-drop (length s) (CC f T₁ T₂ P s), h_cc.size);
          bytes = bytes_append s (CP f T₁ T₂ P s) bs (bytes_drop (length s) (CC f T₁ T₂ P s) h_cc.bytes);
        }

    h_c : Block (xts_block f T₂ (PP f T₁ T₂ P s))
    h_c = block_xts_block h₂ h_pp

    length-stolen : length (stolen f T₁ T₂ P s) ≡ 16 + length s
    unfolding stolen
    length-stolen = length-append (xts_block f T₂ (PP f T₁ T₂ P s)) (Cm f T₁ T₂ P s) ∙ omega (arith, h_c.size, length-Cm)

    bytes-stolen : Bytes (stolen f T₁ T₂ P s)
    unfolding stolen
    bytes-stolen =
        bytes_append (xts_block f T₂ (PP f T₁ T₂ P s)) (Cm f T₁ T₂ P s) h_c.bytes (bytes_take (length s) (CC f T₁ T₂ P s) h_cc.bytes)

    -- the first block of what was given back is PP again, which has s in front and CP after it
    stolen_undone : stolen g T₂ T₁ (take 16 (stolen f T₁ T₂ P s)) (drop 16 (stolen f T₁ T₂ P s)) ≡ P ++ s
    unfolding stolen
    stolen_undone =
        let n : ℕ = length s in
        let C : List ℕ = xts_block f T₂ (PP f T₁ T₂ P s) in
        let m : List ℕ = Cm f T₁ T₂ P s in
        let p : List ℕ = CP f T₁ T₂ P s in
        ap₂ (λ (x y : List ℕ). xts_block g T₁ (y ++ drop (length y) (xts_block g T₂ x)) ++ take (length y) (xts_block g T₂ x))
        (take_at C m 16 h_c.size) (drop_at C m 16 h_c.size)
        ∙ ap₂ (λ (j : ℕ) (x : List ℕ). xts_block g T₁ (m ++ drop j x) ++ take j x) length-Cm (xts_block_undone h₂ h_pp)
        ∙ ap₂ (λ (x y : List ℕ). xts_block g T₁ (m ++ x) ++ y) (drop_at s p n refl) (take_at s p n refl)
        ∙ ap (λ (x : List ℕ). xts_block g T₁ x ++ s) (take-append-drop n (CC f T₁ T₂ P s))
        ∙ ap (λ (x : List ℕ). x ++ s) (xts_block_undone h₁ h_p)

  -- ---- the bytes d after the blocks that can be read alone

  record Kept (back : Bool) (T d : List ℕ) : Type 0 where
    long : length (last_two f back T d) ≡ length d
    bytes : Bytes (last_two f back T d)
    back_again : last_two g (not back) T (last_two f back T d) ≡ d

  kept : (back : Bool) {T : List ℕ} → Block T → (d : List ℕ) → Bytes d → (length d ≡ 0) ⊎ ((16 < length d) × (length d < 32)) → Kept back T d
  kept back {T} h_t d bd = ⊎_elim none some
    where
      none : length d ≡ 0 → Kept back T d
      none h =
          let e : last_two f back T d ≡ d = none_last f back T d h in
          record {
            long = ap length e;
            bytes = subst Bytes (sym e) bd;
            back_again = ap (last_two g (not back) T) e ∙ none_last g (not back) T d h;
          }

      some : (16 < length d) × (length d < 32) → Kept back T d
      some h =
          let T₁ : List ℕ = cond back (double T) T in
          let T₂ : List ℕ = cond back T (double T) in
          let P : List ℕ = take 16 d in
          let s : List ℕ = drop 16 d in
          let h₁ : Block T₁ = block_cond back (block_double T) h_t in
          let h₂ : Block T₂ = block_cond back h_t (block_double T) in
          let h_p : Block P = record { size = length-take-le 16 d (omega arith); bytes = bytes_take 16 d bd } in
          let ls : length s < 16 = omega (arith, length-drop 16 d) in
          let bs : Bytes s = bytes_drop 16 d bd in
          let E : List ℕ = stolen f T₁ T₂ P s in
          let e : last_two f back T d ≡ E = last_two_lem f back T d (omega arith) in
          let l : length E ≡ length d = length-stolen h₁ h₂ h_p s ls bs ∙ omega (arith, length-drop 16 d) in
          record {
            long = ap length e ∙ l;
            bytes = subst Bytes (sym e) (bytes-stolen h₁ h₂ h_p s ls bs);
            back_again =
                ap (last_two g (not back) T) e
                ∙ last_two_lem g (not back) T E (omega arith)
                ∙ ap₂ (λ (x y : List ℕ). stolen g x y (take 16 E) (drop 16 E)) (turned back (double T) T) (turned back T (double T))
                ∙ stolen_undone h₁ h₂ h_p s ls bs
                ∙ take-append-drop 16 d;
          }

  -- ---- the unit

  module _ (back : Bool) {T : List ℕ} (h_t : Block T) (P : List ℕ) (h : 16 ≤ length P) (b : Bytes P) where
    abbrev n : ℕ
    n = alone (length P)

    abbrev X : List (List ℕ)
    X = xts_blocks f T (blocks (alone (length P)) P)

    abbrev d : List ℕ
    d = drop (16 * alone (length P)) P

    h_x : AllBlocks X
    h_x = all_xts_blocks h_t (blocks n P) (all_blocks n P (left_of (length P) h).within b)

    -- as many bytes as the blocks that can be read alone have
    length_X : length (join X) ≡ 16 * n
    length_X = length-join X (all_sized X h_x) ∙ omega (arith, length-xts_blocks f T (blocks n P), length-blocks n P)

    end : Kept back (doubles n T) d
    end =
        let l : length d ≡ length P - 16 * n = length-drop (16 * n) P in
        kept back (block_doubles n h_t) d (bytes_drop (16 * n) P b)
        (subst (λ (m : ℕ). (m ≡ 0) ⊎ ((16 < m) × (m < 32))) (sym l) (left_of (length P) h).left)

    pub length_unit : length (xts_unit f back T P) ≡ length P
    unfolding xts_unit
    length_unit =
        length-append (join X) (last_two f back (doubles n T) d)
        ∙ omega (arith, length_X, end.long, length-drop (16 * n) P, (left_of (length P) h).within)

    pub bytes_unit : Bytes (xts_unit f back T P)
    unfolding xts_unit
    bytes_unit = bytes_append (join X) (last_two f back (doubles n T) d) (bytes_joined X h_x) end.bytes

    -- split again, it is the same blocks and the same bytes after them
    pub unit_undone : xts_unit g (not back) T (xts_unit f back T P) ≡ P
    unfolding xts_unit
    unit_undone =
        let C : List ℕ = join X ++ last_two f back (doubles n T) d in
        let l : length C ≡ length P = length_unit in
        let m : length X ≡ n = length-xts_blocks f T (blocks n P) ∙ length-blocks n P in
        ap (λ (j : ℕ). join (xts_blocks g T (blocks (alone j) C)) ++ last_two g (not back) (doubles (alone j) T) (drop (16 * alone j) C)) l
        ∙ ap₂ (λ (xs : List (List ℕ)) (e : List ℕ). join (xts_blocks g T xs) ++ last_two g (not back) (doubles n T) e)
        (ap (λ (j : ℕ). blocks j C) (sym m) ∙ blocks_join X (last_two f back (doubles n T) d) (all_sized X h_x))
        (drop_at (join X) (last_two f back (doubles n T) d) (16 * n) length_X)
        ∙ ap₂ (λ (xs : List (List ℕ)) (e : List ℕ). join xs ++ e)
        (xts_blocks_undone h_t (blocks n P) (all_blocks n P (left_of (length P) h).within b))
        end.back_again
        ∙ join_blocks_take n P (left_of (length P) h).within
