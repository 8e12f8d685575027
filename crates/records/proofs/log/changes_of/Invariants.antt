use Rattle.std.proofs.Common.{◌≡◌, take, length}
use Rattle.history.specs.History.{base_after}
use Rattle.gate_log.specs.Bodies.{bodies_of}
use Rattle.records.specs.InTurn.{InTurn, reached}
use Rattle.records.specs.Log.{IsChangeBody}
use Rattle.records.proofs.log.changes_of.Given as goal

abbrev pub invariant-loop-body : goal.invariant-loop-body
invariant-loop-body l = record {
  in_turn : InTurn (IsChangeBody l.version) base_after l.base (take l.body-index (bodies_of l.bodies)) l.changes.items;
  place : l.place ≡ reached base_after l.base l.changes.items;
  count : length l.changes.items ≡ l.body-index;
}
