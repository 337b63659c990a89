-- 02, conversions: a trace with conversions is the trace with adds in their place and the refused ones left out, from any store, with any keys and
-- whatever each conversion comes to. So every sentence of demand 3 that speaks of adds speaks of conversions too.
-- Assumes nothing.
use mathlib.Core.Path.{◌≡◌, refl, ap}
use mathlib.Core.List.{List, [], ◌∷◌}
use Prim.Native.Nat.{ℕ}
use Rattle.store.specs.Conversions.{refuses, gives}
use Rattle.claims.specs.Machine.{Event, reading, adding, converting, revising, removing, stepping, Answer, State, answer, next, answers, final}
use Rattle.claims.specs.AsAdds.{as_adds, with_refused}

module _ (o w : List ℕ) where
  -- the same store and places are left
  pub final_as_adds : (es : List Event) (st : State) → final o w es st ≡ final o w (as_adds es) st
  final_as_adds [] st = refl
  final_as_adds (reading n b ∷ es) st = final_as_adds es st
  final_as_adds (adding n t ∷ es) st = final_as_adds es (next o w (adding n t) st)
  final_as_adds (converting n (refuses x) ∷ es) st = final_as_adds es st
  final_as_adds (converting n (gives t) ∷ es) st = final_as_adds es (next o w (adding n t) st)
  final_as_adds (revising n v t ∷ es) st = final_as_adds es (next o w (revising n v t) st)
  final_as_adds (removing n ∷ es) st = final_as_adds es (next o w (removing n) st)
  final_as_adds (stepping c ∷ es) st = final_as_adds es (next o w (stepping c) st)

  -- and each event is answered alike
  pub answers_as_adds : (es : List Event) (st : State) → answers o w es st ≡ with_refused es (answers o w (as_adds es) st)
  answers_as_adds [] st = refl
  answers_as_adds (reading n b ∷ es) st = ap (λ (l : List Answer). answer o w (reading n b) st ∷ l) (answers_as_adds es st)
  answers_as_adds (adding n t ∷ es) st = ap (λ (l : List Answer). answer o w (adding n t) st ∷ l) (answers_as_adds es (next o w (adding n t) st))
  answers_as_adds (converting n (refuses x) ∷ es) st =
      ap (λ (l : List Answer). answer o w (converting n (refuses x)) st ∷ l) (answers_as_adds es st)
  answers_as_adds (converting n (gives t) ∷ es) st =
      ap (λ (l : List Answer). answer o w (adding n t) st ∷ l) (answers_as_adds es (next o w (adding n t) st))
  answers_as_adds (revising n v t ∷ es) st =
      ap (λ (l : List Answer). answer o w (revising n v t) st ∷ l) (answers_as_adds es (next o w (revising n v t) st))
  answers_as_adds (removing n ∷ es) st = ap (λ (l : List Answer). answer o w (removing n) st ∷ l) (answers_as_adds es (next o w (removing n) st))
  answers_as_adds (stepping c ∷ es) st = ap (λ (l : List Answer). answer o w (stepping c) st ∷ l) (answers_as_adds es (next o w (stepping c) st))
