use Rattle.session.specs.Plan.{Item}
use Rattle.session.specs.declared.kept.Kept.TheVariants as kept
use Rattle.session.specs.SoFar.{with_kept}
use Rattle.session.proofs.Steps.{left_on, may_run, run_on, stepped, steps_past}
use Rattle.session.proofs.passing.Progress.step.Goals as goal

pub returns-then-self-clause-steps : goal.returns-then-self-clause-steps
returns-then-self-clause-steps g c honest size plan start tasks at is so =
    let view = g.S.Seat.view c.args.seat in
    let item : Item = record { names = c.args.names.now; task = c.args.task.now } in
    stepped size plan c.args.who.phase item.names start view _ _ (with_kept kept.NotRun c.args.self.now) _ c.keep-kept.ensures
    (steps_past size plan start view tasks c.args.self.now c.args.who item at is so c.if-self.true) so.left

pub returns-in-Ok-clause-steps : goal.returns-in-Ok-clause-steps
returns-in-Ok-clause-steps g c honest size plan start tasks at is so =
    let old = g.S.Seat.view c.args.seat in
    let new = g.S.Seat.view c.run_item-seat.result.0 in
    let item : Item = record { names = c.args.names.now; task = c.args.task.now } in
    let before = c.args.self.now in
    let may = may_run size plan start old tasks before c.args.who item at is so c.requires.own c.if-self.false c.requires.idle in
    let ran = c.run_item-seat.ensures.runs honest size plan may in
    run_on size plan start old tasks before c.args.who item at is so c.requires.own c.if-self.false new ran.0 c.run_item-seat.result.1 c.in-Ok.done _ _ ran.1 c.in-Ok.is c.take-taken.ensures

pub returns-in-Err-clause-steps : goal.returns-in-Err-clause-steps
returns-in-Err-clause-steps g c honest size plan start tasks at is so =
    let old = g.S.Seat.view c.args.seat in
    let new = g.S.Seat.view c.run_item-seat.result.0 in
    let item : Item = record { names = c.args.names.now; task = c.args.task.now } in
    let before = c.args.self.now in
    let may = may_run size plan start old tasks before c.args.who item at is so c.requires.own c.if-self.false c.requires.idle in
    left_on size plan start old tasks before c.args.who item at is so c.requires.own c.if-self.false new (c.run_item-seat.ensures.runs honest size plan may).0
