-- What the runs of `ForC` ask of a conversion: bytes, and a sheet number of 32 bits. That what it comes to are bytes then follows.
-- Assumes nothing.
use mathlib.Core.Path.{◌≡◌, refl}
use mathlib.Core.List.{List}
use Prim.Native.Nat.{ℕ, ◌<◌}
use Rattle.block.specs.Bytes.{Bytes}
use Rattle.store.specs.Conversions.{Source, refuses, gives}
use Rattle.takeover.specs.Sources.{xts_source}
use Rattle.takeover.proofs.SourceLaws.{source_bytes}
use Rattle.claims.specs.Machine.{converting, Allowed}
use Rattle.runs.specs.Calls.{adds_xts, event}

by_source : (i : ℕ) (x : Source) → i < 4294967296 → ((t : List ℕ) → x ≡ gives t → Bytes t) → Allowed (converting i x)
by_source i (refuses y) h b = h
by_source i (gives t) h b = (h, b t refl)

pub conversion_allowed : (k : List ℕ) (d : ℕ) (u : List ℕ) (i v : ℕ) → Bytes k → Bytes u → i < 4294967296 → Allowed (event (adds_xts k d u i v))
conversion_allowed k d u i v bk bu h = by_source i (xts_source k d u) h (source_bytes k d u bk bu)
