use Rattle.std.proofs.Common.{◌≡◌, ◌+◌, length}
use Rattle.retro_base.specs.declared.limits.TheConstants.{MEMORY_CAPACITY, MEMORY_PAGES}
use Rattle.plain_store.specs.Plain.{zero_ground}
use Rattle.plain_run.specs.Turns.{CameThrough}
use Rattle.plain_run.proofs.driving.run_plan.Given as goal

abbrev pub invariant-loop-index : goal.invariant-loop-index
invariant-loop-index g l = record {
  long : length l.kept ≡ l.index;
  came : CameThrough l.plan (zero_ground MEMORY_PAGES MEMORY_CAPACITY) l.store l.kept (l.index + 1) 0;
}
