use Rattle.std.proofs.Common.{◌∙◌, ap, arith, length, length-append}
use Rattle.retro.specs.Slots.{view_at}
use Rattle.retro.proofs.Seated.{come_none}
use Rattle.retro.proofs.Stepped.{all_come, all_ran, all_rest, are_seated, are_workers, none_ran}
use Rattle.retro.proofs.phases.run_sessions.Goals as goal

pub returns-in_err-names : goal.returns-in_err-names
returns-in_err-names g c = record {
  come = come_none g.row.S.Denot g.S.Seat.view g.S.Seat.goes g.S.Seat.stays g.S.Seat.goes_on c.args.slots.now c.requires.seated;
  may = c.requires.may;
  ran = λ honest plan is. none_ran plan c.args.phase _ _ (view_at g.S.Seat.view c.args.slots.now) c.from_residual.result c.from_residual.ensures.0;
}

pub run_with_workers-requires-clause-seated : goal.run_with_workers-requires-clause-seated
run_with_workers-requires-clause-seated g c κs within =
    let whole = c.split_at_mut-seats.ensures in
    let split = c.split_at_mut-seated.ensures in
    are_seated g.S.Seat.view c.args.slots.now c.split_at_mut-seats.result.0.now c.split_at_mut-seats.result.1.now c.split_at_mut-seated.result.0.now c.split_at_mut-seated.result.1.now whole.value whole.front_len split.value
    c.requires.seated

pub run_with_workers-requires-clause-two : goal.run_with_workers-requires-clause-two
run_with_workers-requires-clause-two g c κs within =
    let whole = c.split_at_mut-seats.ensures in
    let long = ap length whole.value ∙ length-append c.split_at_mut-seats.result.0.now c.split_at_mut-seats.result.1.now in
    let front = whole.front_len in
    let all = c.requires.count in
    omega (arith, long, front, all)

pub run_with_workers-requires-clause-workers : goal.run_with_workers-requires-clause-workers
run_with_workers-requires-clause-workers g c κs within =
    let whole = c.split_at_mut-seats.ensures in
    let split = c.split_at_mut-seated.ensures in
    are_workers g.S.Seat.view c.args.slots.now c.split_at_mut-seats.result.0.now c.split_at_mut-seats.result.1.now c.split_at_mut-seated.result.0.now c.split_at_mut-seated.result.1.now whole.value whole.front_len split.value
    c.requires.seated c.requires.may

pub returns : goal.returns
returns g c =
    let two = c.split_at_mut-seats.result in
    let parts = c.split_at_mut-seated.result in
    let whole = c.split_at_mut-seats.ensures in
    let split = c.split_at_mut-seated.ensures in
    let beside = c.run_with_workers.ensures in
    let answered = c.answers.ensures in
    record {
      come = all_come g.S.Seat.view g.S.Seat.goes g.S.Seat.stays g.S.Seat.goes_on g.S.Seat.is_honest c.args.phase c.args.sessions.now c.requires.fit.0 c.args.slots.now two.0.now two.1.now parts.0.now parts.1.now c.run_with_workers.new.slots
          c.answers.new.slots c.run_with_workers.new.workers whole.value whole.front_len split.value split.front_len beside.count answered.count answered.seats c.as_slice.result.now beside.ran beside.worked c.requires.seated;
      may = all_rest g.S.Seat.view g.S.Seat.goes g.S.Seat.stays g.S.Seat.goes_on g.S.Seat.is_honest c.args.phase c.args.sessions.now c.requires.fit.0 c.args.slots.now two.0.now two.1.now parts.0.now parts.1.now c.run_with_workers.new.slots
          c.answers.new.slots c.run_with_workers.new.workers whole.value whole.front_len split.value split.front_len beside.count answered.count answered.seats c.as_slice.result.now beside.ran beside.worked c.requires.seated c.requires.may;
      ran = λ honest plan is.
          all_ran g.S.Seat.view g.S.Seat.goes g.S.Seat.stays g.S.Seat.goes_on g.S.Seat.is_honest c.args.phase c.args.sessions.now c.requires.fit.0 c.args.slots.now two.0.now two.1.now parts.0.now parts.1.now c.run_with_workers.new.slots
          c.answers.new.slots c.run_with_workers.new.workers whole.value whole.front_len split.value split.front_len beside.count answered.count answered.seats c.as_slice.result.now beside.ran beside.worked c.requires.seated plan is
          (c.as_slice.ensures ∙ c.in_ok-names.ensures) honest c.answers.result answered.answered;
    }
