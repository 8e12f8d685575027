use Rattle.turn.specs.Tables.{table_of}
use Rattle.store_tests.specs.Steps.{MayRound, Rests}
use Rattle.store_tests.proofs.plays.perform_all.Given as goal

abbrev pub invariant-steps : goal.invariant-steps
invariant-steps g l = record {
  session : Rests (table_of l.store.turn) l.session;
  copying : MayRound (table_of l.store.turn) l.copying;
  flushing : MayRound (table_of l.store.turn) l.flushing;
}
