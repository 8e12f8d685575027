use Rattle.std.proofs.Common.{Ok, Err, subst, sym}
use Rattle.retro.specs.Loads.{IsSummary}
use Rattle.retro.specs.Says.{IsNoStore, number_of}
use Rattle.retro.specs.Seen.{seen}
use Rattle.retro.proofs.Faulted.{writes_one}
use Rattle.retro.proofs.loading.perform.Goals as goal

pub returns-in-Err-clause-loads : goal.returns-in-Err-clause-loads
returns-in-Err-clause-loads g c = record { asked = Err c.in-Err.why; is_asked = c.in-Err.ensures.asks; runs = c.refuse.ensures.refused }

pub returns-in-Ok-run_in_memory-clause-loads : goal.returns-in-Ok-run_in_memory-clause-loads
returns-in-Ok-run_in_memory-clause-loads g c = record {
  asked = Ok c.in-Ok.plan;
  is_asked = c.in-Ok.ensures.asks;
  runs = (
    Ok c.in-Ok-run_in_memory.ended,
    c.in-Ok-run_in_memory.ensures,
    writes_one (seen g.K.Sink.held g.K.Sink.faults c.args.sink.now c.write_made.new.sink) (λ text. text.items) (IsSummary c.args.seed c.args.rounds c.in-Ok.plan c.in-Ok-run_in_memory.ended) c.summary_of.result
        (number_of c.write_made.result) c.summary_of.ensures c.write_made.ensures.ok c.write_made.ensures.err,
  );
}
