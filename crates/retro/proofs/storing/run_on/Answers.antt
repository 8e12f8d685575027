use Rattle.std.proofs.Common.{◌∙◌, ℕ, refl, subst, arith}
use Rattle.store.specs.Closing.{ClosesCopied}
use Rattle.store.specs.Seats.{start_of}
use Rattle.turn.specs.Tables.{table_of}
use Rattle.retro.specs.declared.storing.Ended.{Ended}
use Rattle.retro.proofs.Stored.{leaves_so, pending_so}
use Rattle.retro.proofs.storing.run_on.Goals as goal

pub run_seated-seats-requires-clause-fresh : goal.run_seated-seats-requires-clause-fresh
run_seated-seats-requires-clause-fresh g c κs within = λ k s there. let is = c.in-Ok.ensures.new k s there in (c.in-Ok.ensures.sized k s there, is.0, is.1, is.2)

pub run_seated-seats-requires-clause-enough : goal.run_seated-seats-requires-clause-enough
run_seated-seats-requires-clause-enough g c κs within = c.in-Ok.ensures.seats.1

pub close_copied-closed-requires-clause-may : goal.close_copied-closed-requires-clause-may
close_copied-closed-requires-clause-may g c = λ k s there is. let rest = c.run_seated-seats.ensures.rest k s there in (rest.0, rest.1 (omega (arith, is)))

pub returns-in-Ok : goal.returns-in-Ok
returns-in-Ok g c =
    let disk = g.D.Disk in
    let laws = c.laws_of_crashes.ensures in
    let opened = c.in-Ok.ensures in
    let store = c.in-Ok.store in
    let closed = c.close_copied-closed.result in
    let closes = subst (λ (phase : ℕ). ClosesCopied disk.is_honest disk.state disk.faults (table_of store.turn) disk.remembers disk.clock (start_of store.turn) store.turn.table.shared.key.seats phase c.run_seated-seats.result.0.items closed.0 closed.1) c.last_phase.ensures c.close_copied-closed.ensures.closed in
    let ended : Ended = record {
      journal = c.close_copied-closed.result.0.journal;
      kept = c.run_seated-seats.result.1;
      newest = c.newest-newest.result;
      captures = c.close_copied-closed.result.0.captures;
      copied = c.close_copied-closed.result.1;
    } in
    record {
      unwritten = tt;
      unopened = tt;
      leaves = leaves_so disk.extent disk.faults disk.is_honest disk.remembers disk.state disk.clock c.args.disks (start_of c.in-Ok.store.turn) c.in-Ok.seats.items opened.begins c.in-Ok.store.turn.table.shared.key.seats opened.seats.0 (table_of c.in-Ok.store.turn) c.args.plan.now
          c.run_seated-seats.result.0.items c.close_copied-closed.result.0 c.close_copied-closed.result.1 closes laws.opening laws.closed c.requires.fits opened.seats.1 ended
          c.run_seated-seats.ensures.ran (c.newest-newest.ensures ∙ opened.newest) refl refl refl;
      pending = pending_so disk.extent disk.faults disk.is_honest disk.remembers disk.state disk.clock c.args.disks (start_of c.in-Ok.store.turn) c.in-Ok.seats.items opened.begins c.in-Ok.store.turn.table.shared.key.seats opened.seats.0 (table_of c.in-Ok.store.turn) c.args.plan.now
          c.run_seated-seats.result.0.items c.close_copied-closed.result.0 c.close_copied-closed.result.1 closes opened.seats.1 ended
          c.run_seated-seats.ensures.ran refl refl;
    }
