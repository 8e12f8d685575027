use Rattle.std.proofs.Common.{refl}
use Rattle.std.specs.Prelude.{Some}
use Rattle.race_model.specs.Machine.{stopped}
use Rattle.race_model.proofs.DeskKeeps.{stop_keeps}
use Rattle.desk.proofs.Steps.{desk_stopped}
use Rattle.desk.proofs.desk.RunningDesk.stop.Goals as goal

pub returns-then-is_none-clause-whole : goal.returns-then-is_none-clause-whole
returns-then-is_none-clause-whole g c =
    let whole = c.requires in
    record {
      desk = stopped whole.desk;
      is = desk_stopped g.D.Disk.is_honest g.D.Disk.state c.args.self.now whole.desk whole.is c.args.self.now.pool (Some c.args.fault) whole.is.pages refl (λ told. told) refl;
      fits = stop_keeps whole.desk whole.fits;
    }
