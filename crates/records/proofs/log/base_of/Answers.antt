use Rattle.records.proofs.Logs.{base_there, no_base_there}
use Rattle.records.proofs.log.base_of.Goals as goal

pub returns-in-Ok : goal.returns-in-Ok
returns-in-Ok c = base_there c.args.version c.args.body.now c.in-Ok.entry _ c.in-Ok.ensures.found c.base_in.ensures

pub returns-in-Err : goal.returns-in-Err
returns-in-Err c = no_base_there c.args.version c.args.body.now c.in-Err.error c.in-Err.ensures.only
