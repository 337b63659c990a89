-- Laws of tests: one that would hold and fail, and two that are joined by `||` or `&&`. Those of a test joined with `true` or `false`, and of
-- `not`, are the kit's: `mathlib.Core.Bool` and `borrow.Author.Tests`.
-- Assumes nothing.
use Rattle.std.proofs.Common.{◌≡◌, Bool, true, false, ◌&&◌, ◌||◌, sym, refl, ◌∙◌, true≢false}
use mathlib.Core.Bool.{false≢true}

pub clash : (b : Bool) → b ≡ true → b ≡ false → ⊥
clash b e f = true≢false (sym e ∙ f)

pub refuted : (b : Bool) → (b ≡ true → ⊥) → b ≡ false
refuted true h = absurd (h refl)
refuted false h = refl

pub neither : (a b : Bool) → a || b ≡ false → (a ≡ false) × (b ≡ false)
neither true b e = absurd (true≢false e)
neither false b e = (refl, e)

pub either : {P : Type 0} (a b : Bool) → (a ≡ true → P) → (b ≡ true → P) → a || b ≡ true → P
either true b f g e = f refl
either false b f g e = g e

pub both : (a b : Bool) → a && b ≡ true → (a ≡ true) × (b ≡ true)
both true b e = (refl, e)
both false b e = absurd (false≢true e)
