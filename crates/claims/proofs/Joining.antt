-- Events one after another are those of both parts.
-- Assumes nothing.
use mathlib.Core.Path.{◌≡◌, refl}
use mathlib.Core.List.{List, [], ◌∷◌, ◌++◌}
use Prim.Native.Nat.{ℕ}
use Rattle.claims.specs.Machine.{Event, AllAllowed, State, Step, next_by, final_by}

pub final_join : (o w : List ℕ) (f : Step) (es later : List Event) (st : State) → final_by o w f (es ++ later) st ≡ final_by o w f later (final_by o w f es st)
final_join o w f [] later st = refl
final_join o w f (e ∷ es) later st = final_join o w f es later (next_by o w f e st)

pub allowed_left : (es later : List Event) → AllAllowed (es ++ later) → AllAllowed es
allowed_left [] later h = tt
allowed_left (e ∷ es) later h = (h.0, allowed_left es later h.1)

pub allowed_right : (es later : List Event) → AllAllowed (es ++ later) → AllAllowed later
allowed_right [] later h = h
allowed_right (e ∷ es) later h = allowed_right es later h.1
