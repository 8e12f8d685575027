use Rattle.std.proofs.Common.{Ok, false, subst, refl, arith}
use Rattle.turn.specs.Tables.{table_of}
use Rattle.store.specs.Rounds.{EnteredIt, WasThere}
use Rattle.store.proofs.Copying.{Asks, AtLast, asks_passes, copies_done, copies_none, copies_refused, copy_ends, entered_held, fault_told, not_disk, not_laid, passes_both, unnoted}
use Rattle.store.proofs.Passing.{passes_whole, serve_on}
use Rattle.store.proofs.shared.Store.copy_round.Goals as goal

pub returns-then-not-offered-clause-ready : goal.returns-then-not-offered-clause-ready
returns-then-not-offered-clause-ready g c = let p = asks_passes g.D.Disk.is_honest g.D.Disk.state g.D.Disk.faults (table_of c.args.self.now.turn) g.D.Disk.remembers g.D.Disk.clock c.args.who c.args.batch.now c.offered.new.batch c.args.seat.now c.offered.new.seat c.requires.ready.0 false (subst (λ b. Asks g.D.Disk.is_honest g.D.Disk.state g.D.Disk.faults (table_of c.args.self.now.turn) g.D.Disk.remembers g.D.Disk.clock c.args.who c.args.batch.now c.offered.new.batch b c.args.seat.now c.offered.new.seat) c.if-not-offered.true c.offered.ensures.asks) in (p.ready, passes_whole (table_of c.args.self.now.turn) c.args.seat.now c.offered.new.seat p c.requires.ready.1)

pub returns-then-not-offered-clause-round : goal.returns-then-not-offered-clause-round
returns-then-not-offered-clause-round g c = copies_none g.D.Disk.is_honest g.D.Disk.state g.D.Disk.faults (table_of c.args.self.now.turn) g.D.Disk.remembers g.D.Disk.clock c.args.who c.args.batch.now c.offered.new.batch c.args.seat.now c.offered.new.seat c.requires.ready.0 (subst (λ b. Asks g.D.Disk.is_honest g.D.Disk.state g.D.Disk.faults (table_of c.args.self.now.turn) g.D.Disk.remembers g.D.Disk.clock c.args.who c.args.batch.now c.offered.new.batch b c.args.seat.now c.offered.new.seat) c.if-not-offered.true c.offered.ensures.asks)

pub copied-requires-clause-batch : goal.copied-requires-clause-batch
copied-requires-clause-batch g c = c.offered.ensures.batch c.if-not-offered.false

pub acknowledged-requires-clause-there : goal.acknowledged-requires-clause-there
acknowledged-requires-clause-there g c =
    let h = entered_held g.D.Disk.is_honest g.D.Disk.state g.D.Disk.faults (table_of c.args.self.now.turn) g.D.Disk.remembers g.D.Disk.clock c.offered.new.batch (subst (λ x. AtLast g.D.Disk.is_honest g.D.Disk.state g.D.Disk.faults (table_of c.args.self.now.turn) g.D.Disk.remembers g.D.Disk.clock c.offered.new.batch (Ok x) c.offered.new.seat c.copied.new.seat) c.in-Ok-Entered.field-0-is c.in-Ok-Entered.ensures.carries) in
    rw c.in-Ok-Entered.field-0-is (h.0, let a = h.0 in let b = h.1 in omega (arith, a, b))

pub noted-requires-clause-ready : goal.noted-requires-clause-ready
noted-requires-clause-ready g c = let p = passes_both g.D.Disk.is_honest g.D.Disk.state g.D.Disk.faults (table_of c.args.self.now.turn) g.D.Disk.remembers g.D.Disk.clock c.args.who c.args.batch.now c.offered.new.batch c.args.seat.now c.offered.new.seat c.requires.ready.0 (subst (λ b. Asks g.D.Disk.is_honest g.D.Disk.state g.D.Disk.faults (table_of c.args.self.now.turn) g.D.Disk.remembers g.D.Disk.clock c.args.who c.args.batch.now c.offered.new.batch b c.args.seat.now c.offered.new.seat) c.if-not-offered.false c.offered.ensures.asks) c.copied.new.seat c.copied.ensures.passes in (p.ready, passes_whole (table_of c.args.self.now.turn) c.args.seat.now c.copied.new.seat p c.requires.ready.1)

pub noted-requires-clause-serve : goal.noted-requires-clause-serve
noted-requires-clause-serve g c = serve_on (table_of c.args.self.now.turn) c.args.seat.now c.copied.new.seat (passes_both g.D.Disk.is_honest g.D.Disk.state g.D.Disk.faults (table_of c.args.self.now.turn) g.D.Disk.remembers g.D.Disk.clock c.args.who c.args.batch.now c.offered.new.batch c.args.seat.now c.offered.new.seat c.requires.ready.0 (subst (λ b. Asks g.D.Disk.is_honest g.D.Disk.state g.D.Disk.faults (table_of c.args.self.now.turn) g.D.Disk.remembers g.D.Disk.clock c.args.who c.args.batch.now c.offered.new.batch b c.args.seat.now c.offered.new.seat) c.if-not-offered.false c.offered.ensures.asks) c.copied.new.seat c.copied.ensures.passes) c.args.who c.requires.serve

pub noted-requires-clause-told : goal.noted-requires-clause-told
noted-requires-clause-told g c = fault_told g.D.Disk.is_honest g.D.Disk.state g.D.Disk.faults (table_of c.args.self.now.turn) g.D.Disk.remembers g.D.Disk.clock c.offered.new.batch c.in-Err.field-0 c.in-DiskFault.device c.in-DiskFault.count c.in-DiskFault.is (c.copied.ensures.fits c.in-Err.field-0 c.in-DiskFault.device c.in-DiskFault.count c.in-Err.is c.in-DiskFault.is) c.in-Err.ensures.carries

pub returns-in-Ok-Entered-clause-round : goal.returns-in-Ok-Entered-clause-round
returns-in-Ok-Entered-clause-round g c = copies_done g.D.Disk.is_honest g.D.Disk.state g.D.Disk.faults (table_of c.args.self.now.turn) g.D.Disk.remembers g.D.Disk.clock c.args.who c.args.batch.now c.offered.new.batch c.args.seat.now c.offered.new.seat c.requires.ready.0 (subst (λ b. Asks g.D.Disk.is_honest g.D.Disk.state g.D.Disk.faults (table_of c.args.self.now.turn) g.D.Disk.remembers g.D.Disk.clock c.args.who c.args.batch.now c.offered.new.batch b c.args.seat.now c.offered.new.seat) c.if-not-offered.false c.offered.ensures.asks) c.acknowledged.new.seat
    (EnteredIt _ c.copied.new.seat (subst (λ x. AtLast g.D.Disk.is_honest g.D.Disk.state g.D.Disk.faults (table_of c.args.self.now.turn) g.D.Disk.remembers g.D.Disk.clock c.offered.new.batch (Ok x) c.offered.new.seat c.copied.new.seat) c.in-Ok-Entered.field-0-is c.in-Ok-Entered.ensures.carries) c.acknowledged.ensures.acks)

pub returns-in-Ok-Entered-clause-ready : goal.returns-in-Ok-Entered-clause-ready
returns-in-Ok-Entered-clause-ready g c =
    let r = copies_done g.D.Disk.is_honest g.D.Disk.state g.D.Disk.faults (table_of c.args.self.now.turn) g.D.Disk.remembers g.D.Disk.clock c.args.who c.args.batch.now c.offered.new.batch c.args.seat.now c.offered.new.seat c.requires.ready.0 (subst (λ b. Asks g.D.Disk.is_honest g.D.Disk.state g.D.Disk.faults (table_of c.args.self.now.turn) g.D.Disk.remembers g.D.Disk.clock c.args.who c.args.batch.now c.offered.new.batch b c.args.seat.now c.offered.new.seat) c.if-not-offered.false c.offered.ensures.asks) c.acknowledged.new.seat
    (EnteredIt _ c.copied.new.seat (subst (λ x. AtLast g.D.Disk.is_honest g.D.Disk.state g.D.Disk.faults (table_of c.args.self.now.turn) g.D.Disk.remembers g.D.Disk.clock c.offered.new.batch (Ok x) c.offered.new.seat c.copied.new.seat) c.in-Ok-Entered.field-0-is c.in-Ok-Entered.ensures.carries) c.acknowledged.ensures.acks) in
    let p = copy_ends g.D.Disk.is_honest g.D.Disk.state g.D.Disk.faults (table_of c.args.self.now.turn) g.D.Disk.remembers g.D.Disk.clock c.args.who c.args.batch.now c.offered.new.batch (Ok _) c.args.seat.now c.acknowledged.new.seat c.requires.ready.0 r in
    (p.ready, passes_whole (table_of c.args.self.now.turn) c.args.seat.now c.acknowledged.new.seat p c.requires.ready.1)

pub returns-in-Ok-There-clause-round : goal.returns-in-Ok-There-clause-round
returns-in-Ok-There-clause-round g c = copies_done g.D.Disk.is_honest g.D.Disk.state g.D.Disk.faults (table_of c.args.self.now.turn) g.D.Disk.remembers g.D.Disk.clock c.args.who c.args.batch.now c.offered.new.batch c.args.seat.now c.offered.new.seat c.requires.ready.0 (subst (λ b. Asks g.D.Disk.is_honest g.D.Disk.state g.D.Disk.faults (table_of c.args.self.now.turn) g.D.Disk.remembers g.D.Disk.clock c.args.who c.args.batch.now c.offered.new.batch b c.args.seat.now c.offered.new.seat) c.if-not-offered.false c.offered.ensures.asks) c.copied.new.seat
    (WasThere (subst (λ x. AtLast g.D.Disk.is_honest g.D.Disk.state g.D.Disk.faults (table_of c.args.self.now.turn) g.D.Disk.remembers g.D.Disk.clock c.offered.new.batch (Ok x) c.offered.new.seat c.copied.new.seat) c.in-Ok-There.field-0-is c.in-Ok-There.ensures.carries))

pub returns-in-Ok-There-clause-ready : goal.returns-in-Ok-There-clause-ready
returns-in-Ok-There-clause-ready g c = let p = passes_both g.D.Disk.is_honest g.D.Disk.state g.D.Disk.faults (table_of c.args.self.now.turn) g.D.Disk.remembers g.D.Disk.clock c.args.who c.args.batch.now c.offered.new.batch c.args.seat.now c.offered.new.seat c.requires.ready.0 (subst (λ b. Asks g.D.Disk.is_honest g.D.Disk.state g.D.Disk.faults (table_of c.args.self.now.turn) g.D.Disk.remembers g.D.Disk.clock c.args.who c.args.batch.now c.offered.new.batch b c.args.seat.now c.offered.new.seat) c.if-not-offered.false c.offered.ensures.asks) c.copied.new.seat c.copied.ensures.passes in (p.ready, passes_whole (table_of c.args.self.now.turn) c.args.seat.now c.copied.new.seat p c.requires.ready.1)

pub returns-in-DiskFault-clause-round : goal.returns-in-DiskFault-clause-round
returns-in-DiskFault-clause-round g c = copies_refused g.D.Disk.is_honest g.D.Disk.state g.D.Disk.faults (table_of c.args.self.now.turn) g.D.Disk.remembers g.D.Disk.clock c.args.who c.args.batch.now c.offered.new.batch c.args.seat.now c.offered.new.seat c.requires.ready.0 (subst (λ b. Asks g.D.Disk.is_honest g.D.Disk.state g.D.Disk.faults (table_of c.args.self.now.turn) g.D.Disk.remembers g.D.Disk.clock c.args.who c.args.batch.now c.offered.new.batch b c.args.seat.now c.offered.new.seat) c.if-not-offered.false c.offered.ensures.asks) _ c.noted.new.seat
    (record { fault = c.in-Err.field-0; is = c.in-DiskFault.is; middle = c.copied.new.seat; carries = c.in-Err.ensures.carries; noted = c.noted.ensures.notes })

pub returns-in_default-clause-round : goal.returns-in_default-clause-round
returns-in_default-clause-round g c = copies_refused g.D.Disk.is_honest g.D.Disk.state g.D.Disk.faults (table_of c.args.self.now.turn) g.D.Disk.remembers g.D.Disk.clock c.args.who c.args.batch.now c.offered.new.batch c.args.seat.now c.offered.new.seat c.requires.ready.0 (subst (λ b. Asks g.D.Disk.is_honest g.D.Disk.state g.D.Disk.faults (table_of c.args.self.now.turn) g.D.Disk.remembers g.D.Disk.clock c.args.who c.args.batch.now c.offered.new.batch b c.args.seat.now c.offered.new.seat) c.if-not-offered.false c.offered.ensures.asks) c.in-Err.field-0.why c.copied.new.seat
    (record { fault = c.in-Err.field-0; is = refl; middle = c.copied.new.seat; carries = c.in-Err.ensures.carries; noted = unnoted g.D.Disk.is_honest g.D.Disk.state g.D.Disk.faults (table_of c.args.self.now.turn) g.D.Disk.remembers g.D.Disk.clock c.offered.new.batch c.args.who c.in-Err.field-0.why c.copied.new.seat (not_disk c.in-Err.field-0.why c.in_default.not-DiskFault) })

pub returns-in_default-clause-ready : goal.returns-in_default-clause-ready
returns-in_default-clause-ready g c = let p = passes_both g.D.Disk.is_honest g.D.Disk.state g.D.Disk.faults (table_of c.args.self.now.turn) g.D.Disk.remembers g.D.Disk.clock c.args.who c.args.batch.now c.offered.new.batch c.args.seat.now c.offered.new.seat c.requires.ready.0 (subst (λ b. Asks g.D.Disk.is_honest g.D.Disk.state g.D.Disk.faults (table_of c.args.self.now.turn) g.D.Disk.remembers g.D.Disk.clock c.args.who c.args.batch.now c.offered.new.batch b c.args.seat.now c.offered.new.seat) c.if-not-offered.false c.offered.ensures.asks) c.copied.new.seat c.copied.ensures.passes in (p.ready, passes_whole (table_of c.args.self.now.turn) c.args.seat.now c.copied.new.seat p c.requires.ready.1)

pub unreachable-requires : goal.unreachable-requires
unreachable-requires g c = not_laid g.D.Disk.is_honest g.D.Disk.state g.D.Disk.faults (table_of c.args.self.now.turn) g.D.Disk.remembers g.D.Disk.clock c.offered.new.batch (subst (λ x. AtLast g.D.Disk.is_honest g.D.Disk.state g.D.Disk.faults (table_of c.args.self.now.turn) g.D.Disk.remembers g.D.Disk.clock c.offered.new.batch (Ok x) c.offered.new.seat c.copied.new.seat) c.in-Ok-Laid.field-0-is c.in-Ok-Laid.ensures.carries)
