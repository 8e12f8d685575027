use Rattle.std.proofs.Common.{◌≡◌, ◌++◌, ◌∙◌, ℕ, None, [], ap, inl, refl, subst, sym}
use Rattle.retro_base.specs.declared.who.Who.{Who}
use Rattle.store.specs.Seen.{view_of, work_in}
use Rattle.turn.specs.Seats.{mine}
use Rattle.turn.specs.Tables.{table_of}
use Rattle.store.specs.WorkerRounds.{FoundStopped, HasEnded, WorkerEnds, WorkerGives, lines_left, worker}
use Rattle.store.specs.Workers.{IsWorker}
use Rattle.store.proofs.Recalled.{waits_seen}
use Rattle.store.proofs.WorkerEnds.{ends, fresh_on, may_work, of_worker, was_fresh}
use Rattle.store.proofs.worker.run_unless_stopped.Goals as goal

pub run-requires-clause-may : goal.run-requires-clause-may
run-requires-clause-may g c =
    let s0 = c.args.seat.now in
    let s1 = c.stopped.new.seat in
    let e = c.stopped.ensures in
    let view = view_of g.D.Disk.state g.D.Disk.faults None [] in
    let nobody : Who = record { phase = 0; session = 0; item = 0 } in
    let waits = waits_seen g.D.Disk.state g.D.Disk.faults _ s0 s1 c.requires.ready.0 e.same e.waits nobody None [] in
    may_work s1 (subst IsWorker (sym e.same.same.number) (of_worker c.args.worker s0.number c.requires.worker)) (e.work ∙ c.requires.idle)
    (fresh_on (view s0) (view s1) waits.moves (was_fresh (view s0) (view s1) waits.moves (sym e.stopped ∙ c.if-stopped.false) c.requires.may))

pub returns-then-stopped-clause-leaves : goal.returns-then-stopped-clause-leaves
returns-then-stopped-clause-leaves g c =
    let e = c.stopped.ensures in
    let nobody : Who = record { phase = 0; session = 0; item = 0 } in
    inl (waits_seen g.D.Disk.state g.D.Disk.faults _ c.args.seat.now c.stopped.new.seat c.requires.ready.0 e.same e.waits nobody None [])

pub returns-clause-leaves : goal.returns-clause-leaves
returns-clause-leaves g c =
    let s0 = c.args.seat.now in
    let s1 = c.stopped.new.seat in
    let s2 = c.run.new.seat in
    let e = c.stopped.ensures in
    let view = view_of g.D.Disk.state g.D.Disk.faults None [] in
    let nobody : Who = record { phase = 0; session = 0; item = 0 } in
    let waits = waits_seen g.D.Disk.state g.D.Disk.faults _ s0 s1 c.requires.ready.0 e.same e.waits nobody None [] in
    ends (worker c.args.phase s0.number) (view s0) (view s1) (view s2) c.run.result (ap (work_in None (view s0).front) c.requires.idle) waits
    (was_fresh (view s0) (view s1) waits.moves (sym e.stopped ∙ c.if-stopped.false) c.requires.may)
    (subst (λ (n : ℕ). WorkerGives (worker c.args.phase n) (view s1) (view s2) c.run.result) e.same.same.number c.run.ensures.gives)

pub returns-then-stopped-clause-works : goal.returns-then-stopped-clause-works
returns-then-stopped-clause-works g c =
    let e = c.stopped.ensures in
    FoundStopped refl (record { ready = e.ready; stays = e.same; waits = e.waits }) (sym e.stopped ∙ c.if-stopped.true)

pub returns-clause-works : goal.returns-clause-works
returns-clause-works g c =
    let s1 = c.stopped.new.seat in
    let s2 = c.run.new.seat in
    let e = c.stopped.ensures in
    let number = e.same.same.number in
    HasEnded s1 c.run.result refl (record { ready = e.ready; stays = e.same; waits = e.waits }) (sym e.stopped ∙ c.if-stopped.false)
    (subst (λ (n : ℕ). WorkerEnds g.D.Disk.is_honest g.D.Disk.state g.D.Disk.faults (table_of c.args.store.now.turn) g.D.Disk.remembers g.D.Disk.clock (worker c.args.phase n) c.args.done.now.flag.id c.args.worker c.run.result s1 s2) number c.run.ensures.ends)
    (subst (λ (n : ℕ). (mine s2).lines ≡ (mine s1).lines ++ lines_left (worker c.args.phase n) c.run.result) number c.run.ensures.lines)
