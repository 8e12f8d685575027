use Rattle.std.proofs.Common.{ℕ, List}
use Rattle.relation.specs.Named.{place_under}
use Rattle.relation.proofs.Naming.{IsPlaceBelow}
use Rattle.relation.proofs.named.places_of.Given as goal

abbrev pub invariant-loop-place : goal.invariant-loop-place
invariant-loop-place l = (name : List ℕ) → IsPlaceBelow l.place name l.tables (place_under l.places name)
