use Rattle.std.proofs.Common.{refl}
use Rattle.history.specs.declared.entry.Change.TheVariants.{Commit}
use Rattle.store_core.proofs.commit.send.Goals as goal

pub returns-clause-any_moment : goal.returns-clause-any_moment
returns-clause-any_moment g c = λ plain may told.
    c.change-outcome.ensures.any_moment plain (Commit c.args.label c.args.writes) (record { is = may.is; fits = may.fits; goes = may.goes; spells = refl; follows = may.follows }) told
