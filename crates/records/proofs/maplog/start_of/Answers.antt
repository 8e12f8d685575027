use Rattle.records.proofs.Maps.{start_there, no_start_there}
use Rattle.records.proofs.maplog.start_of.Goals as goal

pub returns-in-Ok : goal.returns-in-Ok
returns-in-Ok c = start_there c.args.version c.args.capacity c.args.body.now c.in-Ok.entry _ c.in-Ok.ensures c.start_in.ensures

pub returns-in-Err : goal.returns-in-Err
returns-in-Err c = no_start_there c.args.version c.args.capacity c.args.body.now c.in-Err.error c.in-Err.ensures
