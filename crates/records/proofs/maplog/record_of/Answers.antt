use Rattle.records.proofs.Maps.{mapping_there, no_mapping_there}
use Rattle.records.proofs.maplog.record_of.Goals as goal

pub returns-in-Ok : goal.returns-in-Ok
returns-in-Ok c = mapping_there c.args.version c.args.page_count c.args.mappings.now c.args.body.now c.in-Ok.entry _ c.in-Ok.ensures c.allowed.ensures

pub returns-in-Err : goal.returns-in-Err
returns-in-Err c = no_mapping_there c.args.version c.args.page_count c.args.mappings.now c.args.body.now c.in-Err.error c.in-Err.ensures
