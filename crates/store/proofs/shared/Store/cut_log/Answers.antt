use Rattle.std.proofs.Common.{refl, arith}
use Rattle.store.specs.Seats.{always}
use Rattle.store.proofs.Entering.{has_own, may_give, still_whole}
use Rattle.store.proofs.Leaving.{whole_core}
use Rattle.store.proofs.Passing.{fresh_there, may_record, passes_quiet, passes_whole}
use Rattle.store.proofs.Meeting.{gives_same}
use Rattle.store.proofs.Serving.{cuts}
use Rattle.store.proofs.shared.Store.cut_log.Goals as goal

pub cut_log-answer-requires-clause-core : goal.cut_log-answer-requires-clause-core
cut_log-answer-requires-clause-core g c = whole_core g.D.Disk.is_honest g.D.Disk.state c.enter-side.result c.enter-side.ensures.stands

pub cut_log-answer-requires-clause-place : goal.cut_log-answer-requires-clause-place
cut_log-answer-requires-clause-place g c = may_record g.D.Disk.is_honest g.D.Disk.state g.D.Disk.faults _ c.args.seat.now c.enter-side.new.seat c.enter-side.result c.enter-side.ensures c.args.who c.requires.own c.requires.serve

pub leave-requires : goal.leave-requires
leave-requires g c = gives_same g.D.Disk.is_honest g.D.Disk.state g.D.Disk.faults _ c.args.seat.now c.enter-side.new.seat c.enter-side.result c.enter-side.ensures

pub returns-then-bytes-free-clause-ready : goal.returns-then-bytes-free-clause-ready
returns-then-bytes-free-clause-ready g c =
    let v = c.leave.ensures c.args.seat.now c.enter-side.result c.enter-side.ensures in
    let p = passes_quiet g.D.Disk.is_honest g.D.Disk.state g.D.Disk.faults _ c.args.seat.now c.leave.new.seat c.enter-side.result c.enter-side.result c.requires.ready.0 v refl in
    (v.ready, passes_whole _ c.args.seat.now c.leave.new.seat p c.requires.ready.1)

pub returns-then-bytes-free-clause-cuts : goal.returns-then-bytes-free-clause-cuts
returns-then-bytes-free-clause-cuts g c = record {
  before = c.enter-side.result;
  after = c.enter-side.result;
  visited = c.leave.ensures c.args.seat.now c.enter-side.result c.enter-side.ensures;
  does = record { enough = λ le. (refl, refl); short = λ lt. absurd (let f = c.free.ensures in let b = c.if-bytes-free.true in omega (arith, lt, f, b)) };
}

pub leave-requires-2 : goal.leave-requires-2
leave-requires-2 g c = may_give g.D.Disk.is_honest g.D.Disk.state g.D.Disk.faults _ c.args.seat.now c.enter-side.new.seat c.enter-side.result c.enter-side.ensures c.args.who always (record { core = c.cut_log-answer.new.self; start = c.enter-side.result.start }) (has_own g.D.Disk.is_honest g.D.Disk.state g.D.Disk.faults _ c.args.seat.now c.enter-side.new.seat c.enter-side.result c.enter-side.ensures c.args.who always c.requires.own c.requires.ready.1 tt) (cuts g.D.Disk.is_honest g.D.Disk.state g.D.Disk.faults c.args.who c.enter-side.result (record { core = c.cut_log-answer.new.self; start = c.enter-side.result.start }) refl c.enter-side.ensures.stands g.D.Disk.remembers g.D.Disk.clock c.cut_log-answer.result (fresh_there g.D.Disk.is_honest g.D.Disk.state g.D.Disk.faults _ c.args.seat.now c.enter-side.new.seat c.enter-side.result c.enter-side.ensures c.args.who c.requires.own c.requires.serve) c.count_fits.ensures (record { pages = c.cut_log-answer.ensures.pages; honest = c.cut_log-answer.ensures.same.honest; cause = c.cut_log-answer.ensures.cause; ledger = c.cut_log-answer.ensures.ledger; untouched = c.cut_log-answer.ensures.untouched; done = c.cut_log-answer.ensures.done; none = c.cut_log-answer.ensures.none; failed = c.cut_log-answer.ensures.failed; any_moment = c.cut_log-answer.ensures.any_moment }))

pub returns-clause-ready : goal.returns-clause-ready
returns-clause-ready g c =
    let v = c.leave-2.ensures c.args.seat.now c.enter-side.result c.enter-side.ensures in
    (v.ready, still_whole g.D.Disk.is_honest g.D.Disk.state g.D.Disk.faults _ c.args.seat.now c.enter-side.new.seat c.enter-side.result c.enter-side.ensures c.leave-2.new.seat (record { core = c.cut_log-answer.new.self; start = c.enter-side.result.start }) c.args.who always (has_own g.D.Disk.is_honest g.D.Disk.state g.D.Disk.faults _ c.args.seat.now c.enter-side.new.seat c.enter-side.result c.enter-side.ensures c.args.who always c.requires.own c.requires.ready.1 tt) (cuts g.D.Disk.is_honest g.D.Disk.state g.D.Disk.faults c.args.who c.enter-side.result (record { core = c.cut_log-answer.new.self; start = c.enter-side.result.start }) refl c.enter-side.ensures.stands g.D.Disk.remembers g.D.Disk.clock c.cut_log-answer.result (fresh_there g.D.Disk.is_honest g.D.Disk.state g.D.Disk.faults _ c.args.seat.now c.enter-side.new.seat c.enter-side.result c.enter-side.ensures c.args.who c.requires.own c.requires.serve) c.count_fits.ensures (record { pages = c.cut_log-answer.ensures.pages; honest = c.cut_log-answer.ensures.same.honest; cause = c.cut_log-answer.ensures.cause; ledger = c.cut_log-answer.ensures.ledger; untouched = c.cut_log-answer.ensures.untouched; done = c.cut_log-answer.ensures.done; none = c.cut_log-answer.ensures.none; failed = c.cut_log-answer.ensures.failed; any_moment = c.cut_log-answer.ensures.any_moment })) v)

pub returns-clause-cuts : goal.returns-clause-cuts
returns-clause-cuts g c = record {
  before = c.enter-side.result;
  after = (record { core = c.cut_log-answer.new.self; start = c.enter-side.result.start });
  visited = c.leave-2.ensures c.args.seat.now c.enter-side.result c.enter-side.ensures;
  does = record { enough = λ le. absurd (let f = c.free.ensures in let b = c.if-bytes-free.false in omega (arith, le, f, b)); short = λ lt. (record { pages = c.cut_log-answer.ensures.pages; honest = c.cut_log-answer.ensures.same.honest; cause = c.cut_log-answer.ensures.cause; ledger = c.cut_log-answer.ensures.ledger; untouched = c.cut_log-answer.ensures.untouched; done = c.cut_log-answer.ensures.done; none = c.cut_log-answer.ensures.none; failed = c.cut_log-answer.ensures.failed; any_moment = c.cut_log-answer.ensures.any_moment }) };
}
