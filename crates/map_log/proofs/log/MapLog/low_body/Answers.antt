use Rattle.map_log.proofs.log.MapLog.low_body.Goals as goal

pub returns-clause-body : goal.returns-clause-body
returns-clause-body c = c.low_body.ensures.body c.args.self.now.version
