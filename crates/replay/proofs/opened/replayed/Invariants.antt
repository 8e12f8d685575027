use Rattle.std.proofs.Common.{◌≡◌, ◌++◌, drop, length}
use Rattle.history.specs.History.{run, captures_of}
use Rattle.history.specs.Replayed.{state_of}
use Rattle.history.specs.Right.{AreRight}
use Rattle.replay.proofs.opened.replayed.Given as goal

abbrev pub invariant-loop-change : goal.invariant-loop-change
invariant-loop-change l = record {
  whole : length l.place.pages ≡ l.place.base.page_count;
  right : AreRight l.place.base (drop l.change-index l.changes);
  state : run (state_of l.place) (drop l.change-index l.changes) ≡ run (state_of l.fn.store) l.changes;
  captures : l.place.captures ++ captures_of (state_of l.place) (drop l.change-index l.changes) ≡ l.fn.store.captures ++ captures_of (state_of l.fn.store) l.changes;
}
