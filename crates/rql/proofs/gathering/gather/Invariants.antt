use Rattle.std.proofs.Common.{◌≡◌, ◌+◌, List, length}
use Rattle.rql.specs.AsOf.{Answers}
use Rattle.rql.proofs.Gatherings.{SoFar}
use Rattle.rql.proofs.gathering.gather.Given as goal

abbrev pub invariant-loop-place : goal.invariant-loop-place
invariant-loop-place g l = record {
  may_ask : g.A.AsOf.may_ask l.asof ≡ g.A.AsOf.may_ask l.fn.asof;
  told : (answers : Answers) → g.A.AsOf.told l.fn.asof answers → g.A.AsOf.told l.asof answers;
  goes : g.A.AsOf.goes l.fn.asof l.asof;
  faults : g.A.AsOf.faults l.asof ≡ g.A.AsOf.faults l.fn.asof;
  held : (parts : List _) × (length parts ≡ l.place + 1) × g.T.Takes.holds l.takes l.columns-inside.items.items l.state parts
      × ((answers : Answers) → g.A.AsOf.told l.fn.asof answers
      → SoFar (g.T.Takes.take l.takes) (λ snapshot. answers snapshot l.query) l.columns-inside.items.items parts l.place l.later l.snapshots);
}
