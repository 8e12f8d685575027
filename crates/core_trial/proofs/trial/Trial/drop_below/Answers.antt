use Rattle.history.specs.declared.entry.Change.TheVariants.{Drop}
use Rattle.history.specs.Marks.{oldest}
use Rattle.race_model.specs.Machine.{change_failed}
use Rattle.store_core.specs.Calls.{dropped_behind}
use Rattle.core_trial.proofs.Wholes.{drop_whole}
use Rattle.core_trial.proofs.trial.Trial.drop_below.Goals as goal

pub invariant_of-self : goal.invariant_of-self
invariant_of-self g c =
    let whole = c.self.invariant in
    drop_whole g.D.Disk.is_honest g.D.Disk.state c.self.inside.core c.drop_below.new.self whole c.drop_below.result
    (dropped_behind (oldest c.self.inside.core.desk.base.marks) c.args.below whole.plain) (change_failed whole.plain (Drop c.args.below))
    (c.drop_below.ensures.done whole.opening whole.plain whole.is) (c.drop_below.ensures.failed whole.opening whole.plain whole.is) c.drop_below.ensures.stays
