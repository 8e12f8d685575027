use Rattle.std.proofs.Common.{◌≡◌, inl, inr, sym, subst}
use Rattle.std.proofs.lemmas.Option.{get_or_from_slice_get}
use Rattle.std.specs.Prelude.{None}
use Rattle.turn.specs.Seats.{IsSame, mine}
use Rattle.turn.specs.Tables.{table_of}
use Rattle.store.specs.Closing.{resting}
use Rattle.store.specs.Seats.{IsReady, IsWhole, Sat}
use Rattle.store.specs.declared.pace.Worker.TheVariants.{Copier}
use Rattle.store.specs.WorkerRounds.{HasWorked, IsFreshOrStopped, WorkerLeaves, number_of, worker}
use Rattle.store.proofs.LastCopied.{found_in, one_copied}
use Rattle.store.proofs.shared.Store.copy_last.Goals as goal

pub run_unless_stopped-answer-requires-clause-ready : goal.run_unless_stopped-answer-requires-clause-ready
run_unless_stopped-answer-requires-clause-ready g c =
    let found = c.in-Some.ensures.some in
    subst (λ (s : Sat g.row.D.Denot). IsReady (table_of c.args.self.now.turn) s × IsWhole s) (sym (get_or_from_slice_get c.args.seats.now c.in-Some.place found.0 c.index-seats-place.result found.1))
    (c.requires.ready c.in-Some.place found.0 found.1)

pub run_unless_stopped-answer-requires-clause-worker : goal.run_unless_stopped-answer-requires-clause-worker
run_unless_stopped-answer-requires-clause-worker g c =
    let found = c.in-Some.ensures.some in
    subst (λ (s : Sat g.row.D.Denot). s.number ≡ number_of Copier) (sym (get_or_from_slice_get c.args.seats.now c.in-Some.place found.0 c.index-seats-place.result found.1)) found.2

pub run_unless_stopped-answer-requires-clause-idle : goal.run_unless_stopped-answer-requires-clause-idle
run_unless_stopped-answer-requires-clause-idle g c =
    let found = c.in-Some.ensures.some in
    subst (λ (s : Sat g.row.D.Denot). (mine s).work ≡ None) (sym (get_or_from_slice_get c.args.seats.now c.in-Some.place found.0 c.index-seats-place.result found.1))
    (c.requires.may c.in-Some.place found.0 found.1 found.2).0

pub run_unless_stopped-answer-requires-clause-may : goal.run_unless_stopped-answer-requires-clause-may
run_unless_stopped-answer-requires-clause-may g c =
    let found = c.in-Some.ensures.some in
    subst (λ (s : Sat g.row.D.Denot). IsFreshOrStopped (resting g.D.Disk.state g.D.Disk.faults s)) (sym (get_or_from_slice_get c.args.seats.now c.in-Some.place found.0 c.index-seats-place.result found.1))
    (c.requires.may c.in-Some.place found.0 found.1 found.2).1

pub returns-clause-ready : goal.returns-clause-ready
returns-clause-ready g c = λ k s there.
    elim (found_in c.args.seats.now c.in-Some.place c.run_unless_stopped-answer.new.seat k s there) [
      | inl was ↦ c.requires.ready k s was
      | inr it ↦ subst (λ (t : Sat g.row.D.Denot). IsReady (table_of c.args.self.now.turn) t × IsWhole t) it c.run_unless_stopped-answer.ensures.ready
    ]

pub returns-clause-copied : goal.returns-clause-copied
returns-clause-copied g c =
    let found = c.in-Some.ensures.some in
    let e = c.run_unless_stopped-answer.ensures in
    let is = get_or_from_slice_get c.args.seats.now c.in-Some.place found.0 c.index-seats-place.result found.1 in
    one_copied g.D.Disk.is_honest g.D.Disk.state g.D.Disk.faults (table_of c.args.self.now.turn) g.D.Disk.remembers g.D.Disk.clock c.args.phase c.args.seats.now c.in-Some.place found.0 c.run_unless_stopped-answer.new.seat found.1 found.2
    (subst (λ (s : Sat g.row.D.Denot). IsSame s c.run_unless_stopped-answer.new.seat) is e.same)
    (subst (λ (s : Sat g.row.D.Denot). WorkerLeaves (worker c.args.phase s.number) (resting g.D.Disk.state g.D.Disk.faults s) (resting g.D.Disk.state g.D.Disk.faults c.run_unless_stopped-answer.new.seat)) is e.leaves)
    (record {
      flag = c.new-done.result.flag.id;
      answer = c.run_unless_stopped-answer.result;
      works = subst (λ (s : Sat g.row.D.Denot). HasWorked g.D.Disk.is_honest g.D.Disk.state g.D.Disk.faults (table_of c.args.self.now.turn) g.D.Disk.remembers g.D.Disk.clock (worker c.args.phase s.number) c.new-done.result.flag.id Copier c.run_unless_stopped-answer.result s c.run_unless_stopped-answer.new.seat) is e.works;
    })
