use Rattle.std.proofs.Common.{◌≡◌, ◌++◌}
use Rattle.std.specs.List.{zip}
use Rattle.relation.specs.Work.{standing}
use Rattle.relation.proofs.drafting.standing.Given as goal

abbrev pub invariant-loop-row : goal.invariant-loop-row
invariant-loop-row l = l.placed.items ++ standing (zip l.row-iterator.a.rest.now l.row-iterator.b.rest.now) ≡ standing (zip l.rows l.spots)
