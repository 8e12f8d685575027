use Rattle.std.proofs.Common.{ℕ, subst, sym}
use Rattle.retro.specs.Loads.{Loads}
use Rattle.retro.specs.Seen.{seen}
use Rattle.retro.proofs.loading.load.Goals as goal

pub returns-clause-loads : goal.returns-clause-loads
returns-clause-loads g c =
    subst (λ (n : ℕ). Loads c.args.seed c.args.rounds (seen g.K.Sink.held g.K.Sink.faults c.args.sink.now c.perform.new.sink) n) (sym c.number.ensures.number) c.perform.ensures.loads
