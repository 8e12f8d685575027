use Rattle.std.proofs.Common.{◌≡◌, ◌<◌, ℕ, Bool, true, false, List, Option, Some, arith, length, slice_get, subst}
use Rattle.rql.proofs.GroupFolds.{at_seam}
use Rattle.rql_intervals.specs.RunsSoFar.{AllFit, Fits, has_place}
use Rattle.rql_intervals.specs.declared.runs_so_far.Run.{Run}
use Rattle.rql_intervals.proofs.runs.rows_of_runs.Goals as goal

within : (many : ℕ) (ongoing : List ℕ) (runs : List Run) (at : ℕ) (run : Run) → AllFit many ongoing runs → slice_get runs at ≡ Some run → (run.start < many) × (run.end < many)
within many ongoing runs at run fit is =
    let P : Option Run → Type 0 = λ r. Fits many r (has_place at ongoing) in by_test (has_place at ongoing) (subst P is (fit at))
  where
    by_test : (b : Bool) → Fits many (Some run) b → (run.start < many) × (run.end < many)
    by_test true fits = (fits.0, omega (arith, fits.1))
    by_test false fits = (fits.0, omega (arith, fits.1))

pub row_of_run-requires : goal.row_of_run-requires
row_of_run-requires c =
    within (length c.args.snapshots.now) c.args.found.ongoing.items c.args.found.runs.items (length c.loop-run.yielded) c.in-Some.run' c.requires
    (at_seam c.loop-run.yielded c.loop-run.run-iterator.rest.items c.next.new.self.rest.items c.args.found.runs.items c.in-Some.run' c.loop-run.invariant.split c.in-Some.ensures.steps.0)
