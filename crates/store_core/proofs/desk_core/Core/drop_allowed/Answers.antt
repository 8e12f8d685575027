use Rattle.std.proofs.Common.{arith, ◌≤◌, ℕ, Bool, cond, sym, ap, subst}
use Rattle.std.proofs.lemmas.Bool.{le-ltb}
use Rattle.history.specs.declared.entry.Change.TheVariants.{Drop}
use Rattle.history.specs.Marks.{oldest}
use Rattle.race_model.specs.Machine.{changed}
use Rattle.store_core.specs.Core.{IsCore}
use Rattle.store_core.proofs.Dropped.{core_dropped_none}
use Rattle.store_core.proofs.desk_core.Core.drop_allowed.Goals as goal

pub returns-then-below-horizon-clause-any_moment : goal.returns-then-below-horizon-clause-any_moment
returns-then-below-horizon-clause-any_moment g c = λ opening plain is above told. c.drop_record.ensures.any_moment opening plain is told

pub returns-clause-done : goal.returns-clause-done
returns-clause-done g c = λ opening plain is.
    let low : c.args.below ≤ oldest c.args.self.now.desk.base.marks = omega (arith, c.if-below-horizon.false, ap (λ (p : ℕ × ℕ). p.0) c.horizon.ensures) in
    subst (λ (b : Bool). IsCore g.D.Disk.is_honest g.D.Disk.state opening (record { desk = c.args.self.now.desk; ledger = c.close.new.self }) (cond b (changed plain (Drop c.args.below)) plain))
    (sym (le-ltb (oldest c.args.self.now.desk.base.marks) c.args.below low))
    (core_dropped_none g.D.Disk.is_honest g.D.Disk.state opening c.args.self.now plain is c.args.who c.args.below c.requires.kept c.requires.free c.close.new.self low c.close.ensures.done c.close.ensures.fits)
