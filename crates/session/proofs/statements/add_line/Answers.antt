use Rattle.session.proofs.Running.{adds_nothing, adds_outcome, lacks_memory}
use Rattle.session.proofs.statements.add_line.Goals as goal

pub returns-in-Ok-write_outcome-clause-gives : goal.returns-in-Ok-write_outcome-clause-gives
returns-in-Ok-write_outcome-clause-gives g c one base shown tells =
    let gave = c.in-Ok.ensures.gives one base shown tells in
    (gave.0, gave.1, adds_outcome (g.P.Pager.size c.args.pager.now) c.args.line.now c.args.text.now.items c.write_outcome.new.out.items gave.0 shown c.in-Ok.outcome gave.2 c.in-Ok-write_outcome.ensures tt)

pub returns-in-Err-write_outcome-clause-gives : goal.returns-in-Err-write_outcome-clause-gives
returns-in-Err-write_outcome-clause-gives g c one base shown tells =
    let gave = c.in-Ok.ensures.gives one base shown tells in
    (gave.0, gave.1, lacks_memory (g.P.Pager.size c.args.pager.now) c.args.line.now c.args.text.now.items c.write_outcome.new.out.items gave.0 shown c.in-Ok.outcome gave.2)

pub returns-in-Err-clause-gives : goal.returns-in-Err-clause-gives
returns-in-Err-clause-gives g c one base shown tells =
    let gave = c.in-Err.ensures.gives one base shown tells in
    (gave.0, gave.1, adds_nothing (g.P.Pager.size c.args.pager.now) c.args.line.now c.args.text.now.items c.args.text.now.items gave.0 shown c.in-Err.why gave.2)
