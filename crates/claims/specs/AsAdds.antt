-- 02, conversions: the events with an add in the place of each conversion that comes to a text, and those that are refused before that left out; and the
-- answers of these with the refusals put back.
-- Assumes nothing.
use Rattle.std.specs.Prelude.{List, [], ◌∷◌, Err}
use Rattle.store.specs.Conversions.{refuses, gives}
use Rattle.claims.specs.Machine.{Event, reading, adding, converting, revising, removing, stepping, Answer, of_stored}

abbrev pub as_adds : List Event → List Event
as_adds [] = []
as_adds (reading n b ∷ es) = reading n b ∷ as_adds es
as_adds (adding n t ∷ es) = adding n t ∷ as_adds es
as_adds (converting n (refuses x) ∷ es) = as_adds es
as_adds (converting n (gives t) ∷ es) = adding n t ∷ as_adds es
as_adds (revising n v t ∷ es) = revising n v t ∷ as_adds es
as_adds (removing n ∷ es) = removing n ∷ as_adds es
as_adds (stepping c ∷ es) = stepping c ∷ as_adds es

-- the answer a of the next event, before those of the others
abbrev next : (List Answer → List Answer) → List Answer → List Answer
next f [] = []
next f (a ∷ l) = a ∷ f l

abbrev pub with_refused : List Event → List Answer → List Answer
with_refused [] l = []
with_refused (reading n b ∷ es) l = next (with_refused es) l
with_refused (adding n t ∷ es) l = next (with_refused es) l
with_refused (converting n (refuses x) ∷ es) l = of_stored (Err x) ∷ with_refused es l
with_refused (converting n (gives t) ∷ es) l = next (with_refused es) l
with_refused (revising n v t ∷ es) l = next (with_refused es) l
with_refused (removing n ∷ es) l = next (with_refused es) l
with_refused (stepping c ∷ es) l = next (with_refused es) l
