use Rattle.turn_tests.specs.Ready.{IsReady, Keeps}
use Rattle.turn_tests.proofs.visits.help.Given as goal

abbrev pub invariant-loop : goal.invariant-loop
invariant-loop g l = record {
  ready : IsReady l.turn.table.shared.table_id l.lines l.helper;
  same : Keeps l.fn.helper l.helper;
}
