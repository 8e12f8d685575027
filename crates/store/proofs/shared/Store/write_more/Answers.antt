use Rattle.std.proofs.Common.{true, Ok, subst, arith}
use Rattle.turn.specs.Tables.{table_of}
use Rattle.store.specs.Rounds.{All}
use Rattle.store.proofs.Passing.{passes_none, passes_on, passes_whole, serve_on}
use Rattle.store.proofs.Writing.{Writes, many_written, none_written, one_written, wrote_ends}
use Rattle.store.proofs.shared.Store.write_more.Goals as goal

pub pages-init : goal.pages-init
pages-init g c = record { passes = passes_none (table_of c.args.self.now.turn) c.args.seat.now c.requires.ready.0; written = none_written g.D.Disk.is_honest g.D.Disk.state g.D.Disk.faults (table_of c.args.self.now.turn) g.D.Disk.remembers g.D.Disk.clock c.args.who c.args.seat.now }

pub write_back-requires-clause-ready : goal.write_back-requires-clause-ready
write_back-requires-clause-ready g c = let p = c.pages.invariant.passes in (p.ready, passes_whole (table_of c.args.self.now.turn) c.args.seat.now c.pages.seat p c.requires.ready.1)

pub write_back-requires-clause-serve : goal.write_back-requires-clause-serve
write_back-requires-clause-serve g c = serve_on (table_of c.args.self.now.turn) c.args.seat.now c.pages.seat c.pages.invariant.passes c.args.who c.requires.serve

pub returns-in-Ok-false-clause-all : goal.returns-in-Ok-false-clause-all
returns-in-Ok-false-clause-all g c = All (record { count = c.pages._count; few = let t = c.pages-test.true in omega (arith, t); middle = c.pages.seat; written = c.pages.invariant.written; answers = (subst (λ b. Writes g.D.Disk.is_honest g.D.Disk.state g.D.Disk.faults (table_of c.args.self.now.turn) g.D.Disk.remembers g.D.Disk.clock c.args.who (Ok b) c.pages.seat c.write_back.new.seat) c.in-Ok-false.field-0-test c.in-Ok-false.ensures.writes) })

pub returns-in-Err-clause-all : goal.returns-in-Err-clause-all
returns-in-Err-clause-all g c = record { count = c.pages._count; few = let t = c.pages-test.true in omega (arith, t); middle = c.pages.seat; written = c.pages.invariant.written; answers = c.in-Err.ensures.writes }

pub pages-preserved : goal.pages-preserved
pages-preserved g c = let p = c.pages.invariant.passes in record {
  passes = passes_on (table_of c.args.self.now.turn) c.args.seat.now c.pages.seat p c.write_back.new.seat (wrote_ends g.D.Disk.is_honest g.D.Disk.state g.D.Disk.faults (table_of c.args.self.now.turn) c.args.who g.D.Disk.remembers g.D.Disk.clock c.pages.seat c.write_back.new.seat p.ready (Ok true) (subst (λ b. Writes g.D.Disk.is_honest g.D.Disk.state g.D.Disk.faults (table_of c.args.self.now.turn) g.D.Disk.remembers g.D.Disk.clock c.args.who (Ok b) c.pages.seat c.write_back.new.seat) c.in-Ok-true.field-0-test c.in-Ok-true.ensures.writes));
  written = one_written g.D.Disk.is_honest g.D.Disk.state g.D.Disk.faults (table_of c.args.self.now.turn) g.D.Disk.remembers g.D.Disk.clock c.args.who c.pages._count c.args.seat.now c.pages.seat c.write_back.new.seat c.pages.invariant.written (subst (λ b. Writes g.D.Disk.is_honest g.D.Disk.state g.D.Disk.faults (table_of c.args.self.now.turn) g.D.Disk.remembers g.D.Disk.clock c.args.who (Ok b) c.pages.seat c.write_back.new.seat) c.in-Ok-true.field-0-test c.in-Ok-true.ensures.writes);
}

pub returns-clause-ready : goal.returns-clause-ready
returns-clause-ready g c = let p = c.pages.invariant.passes in (p.ready, passes_whole (table_of c.args.self.now.turn) c.args.seat.now c.pages.seat p c.requires.ready.1)

pub returns-clause-all : goal.returns-clause-all
returns-clause-all g c = many_written g.D.Disk.is_honest g.D.Disk.state g.D.Disk.faults (table_of c.args.self.now.turn) g.D.Disk.remembers g.D.Disk.clock c.args.who c.pages._count c.args.seat.now c.pages.seat (let f = c.pages-test.false in let a = c.pages.auto._count-end in omega (arith, f, a)) c.pages.invariant.written
