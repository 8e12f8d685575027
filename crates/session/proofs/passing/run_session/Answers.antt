use Rattle.std.proofs.Common.{◌+◌, refl, subst, take, ◌∙◌}
use Rattle.std.proofs.lemmas.List.{take_all}
use Rattle.session.specs.SoFar.{SoFar}
use Rattle.session.proofs.Steps.{done_of, ends, left_of, one_more, starts}
use Rattle.session.proofs.passing.run_session.Goals as goal

pub loop-index-init : goal.loop-index-init
loop-index-init g c =
    let start = g.S.Seat.view c.args.seat in
    let size = start.opened.base.page_count in
    record {
      idle = c.requires.idle;
      session = refl;
      goes = g.S.Seat.stays c.args.seat;
      so_far = λ honest plan of ready.
          starts size plan c.args.phase c.args.names.now start refl ready _ c.new-progress.ensures;
    }

pub returns-then-is_err-clause-ran : goal.returns-then-is_err-clause-ran
returns-then-is_err-clause-ran g c honest plan of ready =
    let start = g.S.Seat.view c.args.seat in
    let size = start.opened.base.page_count in
    let before = c.loop-index.invariant in
    let there = (g.S.Seat.honest_stays c.args.seat c.loop-index.seat before.goes).0 honest in
    let stepped = one_more size plan start (g.S.Seat.view c.loop-index.seat) (g.S.Seat.view c.step-next.result.0) c.args.phase c.args.place c.args.names.now c.args.tasks.now c.loop-index.index c.index-tasks-index.result
    c.loop-index.progress c.step-next.new.self c.step-next.result.1 of c.loop-index-test.true c.index-tasks-index.is (c.step-next.ensures.steps there) (before.so_far honest plan of ready) in
    (left_of size plan c.args.phase c.args.names.now start (g.S.Seat.view c.step-next.result.0) (take (c.loop-index.index + 1) c.args.tasks.now) c.step-next.new.self c.step-next.result.1 c.if-is_err.ensures.value stepped, tt)

pub loop-index-preserved : goal.loop-index-preserved
loop-index-preserved g c =
    let start = g.S.Seat.view c.args.seat in
    let size = start.opened.base.page_count in
    let before = c.loop-index.invariant in
    record {
      idle = c.step-next.ensures.idle;
      session = c.step-next.ensures.session ∙ before.session;
      goes = g.S.Seat.goes_on c.args.seat c.loop-index.seat c.step-next.result.0 before.goes c.step-next.ensures.goes;
      so_far = λ honest plan of ready.
          let there = (g.S.Seat.honest_stays c.args.seat c.loop-index.seat before.goes).0 honest in
          done_of size plan c.args.phase c.args.names.now start (g.S.Seat.view c.step-next.result.0) (take (c.loop-index.index + 1) c.args.tasks.now) c.step-next.new.self c.step-next.result.1 c.if-is_err.ensures.value
          (one_more size plan start (g.S.Seat.view c.loop-index.seat) (g.S.Seat.view c.step-next.result.0) c.args.phase c.args.place c.args.names.now c.args.tasks.now c.loop-index.index c.index-tasks-index.result
          c.loop-index.progress c.step-next.new.self c.step-next.result.1 of c.loop-index-test.true c.index-tasks-index.is (c.step-next.ensures.steps there) (before.so_far honest plan of ready));
    }

pub returns-clause-ran : goal.returns-clause-ran
returns-clause-ran g c honest plan of ready =
    let start = g.S.Seat.view c.args.seat in
    let size = start.opened.base.page_count in
    let now = g.S.Seat.view c.loop-index.seat in
    let all = subst (λ tasks. SoFar size plan c.args.phase c.args.names.now start now tasks c.loop-index.progress) (take_all c.loop-index.index c.args.tasks.now c.loop-index-test.false) (c.loop-index.invariant.so_far honest plan of ready) in
    (all.left, ends size plan c.args.phase c.args.place c.args.names.now c.args.tasks.now start now c.loop-index.progress c.requires.own of all)
