use Rattle.std.proofs.Common.{Ok, Err, ap, subst, sym}
use Rattle.std.proofs.lemmas.Result.{IfOk-weaker}
use Rattle.retro_base.specs.declared.limits.TheConstants.{MEMORY_PAGES}
use Rattle.retro.specs.Memory.{memory_opening}
use Rattle.retro.specs.Phases.{RanOver}
use Rattle.retro.specs.Says.{IsNoStore, number_of}
use Rattle.retro.specs.Seen.{seen}
use Rattle.retro.proofs.Faulted.{writes_one}
use Rattle.retro.proofs.FromEmpty.{told_from}
use Rattle.retro.proofs.running.perform.Goals as goal

pub returns-in-Err-clause-runs : goal.returns-in-Err-clause-runs
returns-in-Err-clause-runs g c = record { asked = Err c.in-Err.why; is_asked = c.in-Err.ensures.asked; runs = c.refuse.ensures.refused }

pub returns-in-Ok-run_in_memory-clause-runs : goal.returns-in-Ok-run_in_memory-clause-runs
returns-in-Ok-run_in_memory-clause-runs g c =
    let plan = c.in-Ok.plan in
    let ended = c.in-Ok-run_in_memory.ended in
    let left = c.in-Ok-run_in_memory.ensures in
    record {
      asked = Ok plan;
      is_asked = c.in-Ok.ensures.asked;
      runs = (
        Ok ended,
        left,
        writes_one (seen g.K.Sink.held g.K.Sink.faults c.args.sink.now c.write_made.new.sink) (λ text. text.items) (RanOver MEMORY_PAGES plan memory_opening (λ device. 0) ended.journal) c.transcript_of.result
            (number_of c.write_made.result)
            (IfOk-weaker c.transcript_of.result _ _ (λ text print. told_from MEMORY_PAGES plan memory_opening (λ device. 0) ended text.items left print) c.transcript_of.ensures)
            c.write_made.ensures.ok c.write_made.ensures.err,
      );
    }
