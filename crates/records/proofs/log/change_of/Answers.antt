use Rattle.records.proofs.Logs.{change_there, no_change_there}
use Rattle.records.proofs.log.change_of.Goals as goal

pub returns-in-Ok : goal.returns-in-Ok
returns-in-Ok c = change_there c.args.version c.args.place.now c.args.body.now c.in-Ok.entry _ c.in-Ok.ensures.found c.change_in.ensures

pub returns-in-Err : goal.returns-in-Err
returns-in-Err c = no_change_there c.args.version c.args.place.now c.args.body.now c.in-Err.error c.in-Err.ensures.only
