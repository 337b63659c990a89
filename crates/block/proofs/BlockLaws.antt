-- Laws of filled lists, and of a list's blocks of 16.
-- Assumes nothing.
use Rattle.std.proofs.Common.{◌≡◌, ℕ, zero, suc, ◌+◌, ◌-◌, ◌*◌, ◌/◌, ◌<◌, ◌≤◌, List, [], ◌∷◌, ◌++◌, map, length, get_or, take, drop, set, sym, refl}
use Rattle.std.proofs.Common.{ap, ◌∙◌, ap₂, append_assoc, append-nil, le_of_lt, add-one, arith, length-append, length-drop, take-append-drop}
use Rattle.std.proofs.Common.{drop_of_length-le, length-take-le, take_all, drop-cons, take-suc, drop-drop, take_at, drop_at}
use lib.Seq.{set_at, append_snoc, get_or_at}
use Rattle.block.specs.Blocks.{block_at, with_block, full, rest, blocks, join, on_blocks}

-- ---- a list filled from the front, one element a turn

pub fill_turn : (new old : List ℕ) (i v : ℕ) → i < length new → i < length old → v ≡ get_or new i 0
    → set (take i new ++ drop i old) i v ≡ take (i + 1) new ++ drop (i + 1) old
fill_turn new old i v h k e =
    ap (λ (w : List ℕ). set (take i new ++ w) i v) (drop-cons old i 0 k)
    ∙ set_at (take i new) (get_or old i 0) (drop (suc i) old) v i (length-take-le i new (le_of_lt h))
    ∙ ap (λ (x : ℕ). take i new ++ x ∷ drop (suc i) old) e
    ∙ sym (append_snoc (take i new) (get_or new i 0) (drop (suc i) old))
    ∙ ap (λ (w : List ℕ). w ++ drop (suc i) old) (sym (take-suc new i 0 h))
    ∙ ap (λ (n : ℕ). take n new ++ drop n old) (sym (add-one i))

-- what the turn finds there, where it fills a list in its place
pub fill_next : (new old : List ℕ) (i : ℕ) → i ≤ length new → i < length old → get_or (take i new ++ drop i old) i 0 ≡ get_or old i 0
fill_next new old i h k =
    ap (λ (w : List ℕ). get_or (take i new ++ w) i 0) (drop-cons old i 0 k)
    ∙ get_or_at (take i new) (get_or old i 0) (drop (suc i) old) 0 i (length-take-le i new h)

pub fill_done : (new old : List ℕ) (n i : ℕ) → length new ≡ n → length old ≡ n → n ≤ i → i ≤ n → take i new ++ drop i old ≡ new
fill_done new old n i h k l m =
    ap₂ (λ (x y : List ℕ). x ++ y) (take_all i new (omega arith)) (drop_of_length-le old {i = i} (omega arith)) ∙ append-nil new

-- ---- the block at an offset

pub length-block_at : (s : List ℕ) (at : ℕ) → at + 16 ≤ length s → length (block_at s at) ≡ 16
length-block_at s at h = length-take-le 16 (drop at s) (omega (arith, length-drop at s))

pub length-with_block : (s : List ℕ) (at : ℕ) (b : List ℕ) → at + 16 ≤ length s → length b ≡ 16 → length (with_block s at b) ≡ length s
length-with_block s at b h k =
    simp (length-append, length-drop) (omega (arith, length-take-le at s (omega arith)))

-- ---- the first block apart

pub first_block : (s : List ℕ) → 16 ≤ length s → blocks (full s) s ≡ take 16 s ∷ blocks (full (drop 16 s)) (drop 16 s)
unfolding blocks
first_block s h =
    let n : full s ≡ suc (full (drop 16 s)) = omega (arith, ap (λ (m : ℕ). m / 16) (length-drop 16 s)) in
    ap (λ (k : ℕ). blocks k s) n

pub first_rest : (s : List ℕ) → 16 ≤ length s → rest s ≡ rest (drop 16 s)
first_rest s h =
    let m : 16 + full (drop 16 s) * 16 ≡ full s * 16 = omega (arith, ap (λ (m : ℕ). m / 16) (length-drop 16 s)) in
    sym (drop-drop (full (drop 16 s) * 16) 16 s ∙ ap (λ (j : ℕ). drop j s) m)

-- ---- all full blocks, in a loop that goes through them: what is done, and what is left, is the whole

-- the first block apart: y is what k makes of it, and k' goes on with the others
on_cons : (k k' : List (List ℕ) → List (List ℕ)) (d y : List ℕ) → 16 ≤ length d → ((xs : List (List ℕ)) → k (take 16 d ∷ xs) ≡ y ∷ k' xs)
    → on_blocks k d ≡ y ++ on_blocks k' (drop 16 d)
unfolding on_blocks join
on_cons k k' d y h e =
    let bs : List (List ℕ) = blocks (full (drop 16 d)) (drop 16 d) in
    ap₂ (λ (xs : List (List ℕ)) (r : List ℕ). join (k xs) ++ r) (first_block d h) (first_rest d h)
    ∙ ap (λ (xs : List (List ℕ)). join xs ++ rest (drop 16 d)) (e bs)
    ∙ append_assoc y (join (k' bs)) (rest (drop 16 d))

pub on_turn : (k k' : List (List ℕ) → List (List ℕ)) (at : ℕ) (s y : List ℕ) → at + 16 ≤ length s → length y ≡ 16
    → ((xs : List (List ℕ)) → k (block_at s at ∷ xs) ≡ y ∷ k' xs)
    → take (at + 16) (with_block s at y) ++ on_blocks k' (drop (at + 16) (with_block s at y)) ≡ take at s ++ on_blocks k (drop at s)
on_turn k k' at s y h l e =
    let n : length (take at s ++ y) ≡ at + 16 = length-append (take at s) y ∙ ap₂ (λ (a b : ℕ). a + b) (length-take-le at s (omega arith)) l in
    ap₂ (λ (t d : List ℕ). t ++ on_blocks k' d)
    (take_at (take at s ++ y) (drop (at + 16) s) (at + 16) n)
    (drop_at (take at s ++ y) (drop (at + 16) s) (at + 16) n ∙ sym (drop-drop 16 at s))
    ∙ append_assoc (take at s) y (on_blocks k' (drop 16 (drop at s)))
    ∙ ap (λ (r : List ℕ). take at s ++ r) (sym (on_cons k k' (drop at s) y (omega (arith, length-drop at s)) e))

pub on_done : (k : List (List ℕ) → List (List ℕ)) (at : ℕ) (s : List ℕ) → length s - at < 16 → k [] ≡ [] → take at s ++ on_blocks k (drop at s) ≡ s
unfolding on_blocks blocks join
on_done k at s h e =
    let n : full (drop at s) ≡ 0 = omega (arith, length-drop at s) in
    ap (λ (f : ℕ). take at s ++ (join (k (blocks f (drop at s))) ++ drop (f * 16) (drop at s))) n
    ∙ ap (λ (bs : List (List ℕ)). take at s ++ (join bs ++ drop at s)) e
    ∙ take-append-drop at s

-- the first n blocks apart, where each is dealt with by itself
pub on_many : (f : List ℕ → List ℕ) (n : ℕ) (d : List ℕ) → 16 * n ≤ length d
    → on_blocks (map f) d ≡ join (map f (blocks n d)) ++ on_blocks (map f) (drop (16 * n) d)
unfolding blocks join
on_many f zero d h = refl
on_many f (suc n) d h =
    let m : 16 + 16 * n ≡ 16 * suc n = omega arith in
    on_cons (map f) (map f) d (f (take 16 d)) (omega arith) (λ xs. refl)
    ∙ ap (λ (r : List ℕ). f (take 16 d) ++ r)
    (on_many f n (drop 16 d) (omega (arith, length-drop 16 d))
    ∙ ap (λ (r : List ℕ). join (map f (blocks n (drop 16 d))) ++ on_blocks (map f) r) (drop-drop (16 * n) 16 d ∙ ap (λ (j : ℕ). drop j d) m))
    ∙ sym (append_assoc (f (take 16 d)) (join (map f (blocks n (drop 16 d)))) (on_blocks (map f) (drop (16 * suc n) d)))

-- a loop that goes through n blocks a turn
pub on_group : (f : List ℕ → List ℕ) (n at : ℕ) (s s' : List ℕ) → at + 16 * n ≤ length s → length s' ≡ length s
    → s' ≡ take at s ++ join (map f (blocks n (drop at s))) ++ drop (at + 16 * n) s
    → take (at + 16 * n) s' ++ on_blocks (map f) (drop (at + 16 * n) s') ≡ take at s ++ on_blocks (map f) (drop at s)
on_group f n at s s' h k e =
    let m : ℕ = at + 16 * n in
    let j : List ℕ = join (map f (blocks n (drop at s))) in
    let l : length (take at s ++ j) ≡ m = omega (arith, ap length e, length-append (take at s ++ j) (drop m s), length-drop m s) in
    ap (λ (r : List ℕ). take m r ++ on_blocks (map f) (drop m r)) e
    ∙ ap₂ (λ (t d : List ℕ). t ++ on_blocks (map f) d)
    (take_at (take at s ++ j) (drop m s) m l)
    (drop_at (take at s ++ j) (drop m s) m l ∙ sym (drop-drop (16 * n) at s))
    ∙ append_assoc (take at s) j (on_blocks (map f) (drop (16 * n) (drop at s)))
    ∙ ap (λ (r : List ℕ). take at s ++ r) (sym (on_many f n (drop at s) (omega (arith, length-drop at s))))

-- ---- splitting a list into its full blocks and the rest, and putting it together again

length_blocks_drop : (n : ℕ) (l : List ℕ) → 16 * suc n ≤ length l → 16 * n ≤ length (drop 16 l)
length_blocks_drop n l h = omega (arith, length-drop 16 l)

pub join_blocks_take : (n : ℕ) (l : List ℕ) → 16 * n ≤ length l → join (blocks n l) ++ drop (16 * n) l ≡ l
unfolding blocks join
join_blocks_take zero l h = refl
join_blocks_take (suc n) l h =
    let m : 16 * suc n ≡ 16 + 16 * n = omega arith in
    append_assoc (take 16 l) (join (blocks n (drop 16 l))) (drop (16 * suc n) l)
    ∙ ap (λ (r : List ℕ). take 16 l ++ (join (blocks n (drop 16 l)) ++ r)) (ap (λ (k : ℕ). drop k l) m ∙ sym (drop-drop (16 * n) 16 l))
    ∙ ap (λ (r : List ℕ). take 16 l ++ r) (join_blocks_take n (drop 16 l) (length_blocks_drop n l h))
    ∙ take-append-drop 16 l

pub join_blocks : (l : List ℕ) → join (blocks (full l) l) ++ rest l ≡ l
join_blocks l =
    let m : full l * 16 ≡ 16 * full l = omega arith in
    ap (λ (k : ℕ). join (blocks (full l) l) ++ drop k l) m ∙ join_blocks_take (full l) l (omega arith)

pub length_rest : (l : List ℕ) → length (rest l) < 16
length_rest l = omega (arith, length-drop (full l * 16) l)

pub length-blocks : (n : ℕ) (l : List ℕ) → length (blocks n l) ≡ n
unfolding blocks
length-blocks zero l = refl
length-blocks (suc n) l = ap suc (length-blocks n (drop 16 l))

-- blocks of 16, put together with a short rest, are what the whole is split into
abbrev pub Sized : List (List ℕ) → Type 0
Sized [] = Unit {0}
Sized (b ∷ bs) = (length b ≡ 16) × Sized bs

pub sized_map : (f : List ℕ → List ℕ) → ((x : List ℕ) → length (f x) ≡ 16) → (bs : List (List ℕ)) → Sized (map f bs)
sized_map f size [] = tt
sized_map f size (b ∷ bs) = (size b, sized_map f size bs)

pub blocks_join : (bs : List (List ℕ)) (s : List ℕ) → Sized bs → blocks (length bs) (join bs ++ s) ≡ bs
unfolding blocks join
blocks_join [] s h = refl
blocks_join (b ∷ bs) s h =
    let e : b ++ join bs ++ s ≡ b ++ (join bs ++ s) = append_assoc b (join bs) s in
    ap₂ (λ (x : List ℕ) (xs : List (List ℕ)). x ∷ xs)
    (ap (λ (l : List ℕ). take 16 l) e ∙ take_at b (join bs ++ s) 16 h.0)
    (ap (λ (l : List ℕ). blocks (length bs) (drop 16 l)) e
    ∙ ap (blocks (length bs)) (drop_at b (join bs ++ s) 16 h.0)
    ∙ blocks_join bs s h.1)

pub length-join : (bs : List (List ℕ)) → Sized bs → length (join bs) ≡ length bs * 16
unfolding join
length-join [] h = refl
length-join (b ∷ bs) h = length-append b (join bs) ∙ omega (arith, h.0, length-join bs h.1)

pub full_join : (bs : List (List ℕ)) (s : List ℕ) → Sized bs → length s < 16 → full (join bs ++ s) ≡ length bs
full_join bs s h k = omega (arith, length-append (join bs) s, length-join bs h)

pub rest_join : (bs : List (List ℕ)) (s : List ℕ) → Sized bs → length s < 16 → rest (join bs ++ s) ≡ s
rest_join bs s h k =
    ap (λ (n : ℕ). drop (n * 16) (join bs ++ s)) (full_join bs s h k) ∙ drop_at (join bs) s (length bs * 16) (length-join bs h)

pub blocks_of : (bs : List (List ℕ)) (s : List ℕ) → Sized bs → length s < 16 → blocks (full (join bs ++ s)) (join bs ++ s) ≡ bs
blocks_of bs s h k = ap (λ (n : ℕ). blocks n (join bs ++ s)) (full_join bs s h k) ∙ blocks_join bs s h

pub on_join : (f : List (List ℕ) → List (List ℕ)) (bs : List (List ℕ)) (s : List ℕ) → Sized bs → length s < 16
    → on_blocks f (join bs ++ s) ≡ join (f bs) ++ s
unfolding on_blocks
on_join f bs s h k = ap₂ (λ (xs : List (List ℕ)) (r : List ℕ). join (f xs) ++ r) (blocks_of bs s h k) (rest_join bs s h k)

pub sized_blocks : (n : ℕ) (l : List ℕ) → 16 * n ≤ length l → Sized (blocks n l)
unfolding blocks
sized_blocks zero l h = tt
sized_blocks (suc n) l h = (length-take-le 16 l (omega arith), sized_blocks n (drop 16 l) (length_blocks_drop n l h))
