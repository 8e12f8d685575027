use Rattle.std.proofs.Common.{◌∙◌, ◌+◌, ◌≤◌, ◌<◌, Ok, Err, length, ap, refl, arith}
use Rattle.retro_base.specs.declared.device.Device.TheVariants.{Maplog, Pagelog}
use Rattle.store.proofs.Batches.{entered_refused, entered_stands, is_next, laid_refused, laid_stands, refused_up, vault_goes}
use Rattle.store.proofs.carrying.carry.Goals as goal

pub overflow_add-end : goal.overflow_add-end
overflow_add-end g c =
    let m = c.requires.may in
    let held = c.held.ensures in
    let first = c.first.ensures in
    let le = c.if-held-first.false in
    let end = (is_next g.D.Disk.is_honest g.D.Disk.state m.start m.lines c.args.archive.now c.args.batch.now m.stands m.sound m.is_batch (omega (arith, held, first, le))).end in
    let again = c.first-2.ensures in
    let len = c.len.ensures in
    omega (arith, end, again, len)

pub returns-then-held-first : goal.returns-then-held-first
returns-then-held-first g c =
    let held = c.held.ensures in
    let first = c.first.ensures in
    let more = c.if-held-first.true in
    let less : c.args.batch.now.first < c.args.archive.now.side.held = omega (arith, held, first, more) in
    record {
      carries = record {
        stands = λ start lines st sound bt. st;
        held = omega arith;
        pagelog = omega arith;
        maplog = omega arith;
        fault = refl;
        outcome = (less, refl);
        laying = λ vault is to. let n = to.0.none in absurd (omega (arith, n, less));
        long = λ to. let n = to.0.none in absurd (omega (arith, n, less));
        entering = λ vault is to. let n = to.0.none in absurd (omega (arith, n, less));
      };
    }

pub lay_batch-requires : goal.lay_batch-requires
lay_batch-requires g c =
    let m = c.requires.may in
    let held = c.held.ensures in
    let first = c.first.ensures in
    let le = c.if-held-first.false in
    is_next g.D.Disk.is_honest g.D.Disk.state m.start m.lines c.args.archive.now c.args.batch.now m.stands m.sound m.is_batch (omega (arith, held, first, le))

pub returns-in-Ok : goal.returns-in-Ok
returns-in-Ok g c =
    let m = c.requires.may in
    let held = c.held.ensures in
    let first = c.first.ensures in
    let le = c.if-held-first.false in
    let none : c.args.archive.now.side.held ≤ c.args.batch.now.first = omega (arith, held, first, le) in
    let next = is_next g.D.Disk.is_honest g.D.Disk.state m.start m.lines c.args.archive.now c.args.batch.now m.stands m.sound m.is_batch (omega (arith, held, first, le)) in
    let e = c.in-Ok.ensures in
    let less : c.args.archive.now.laid < c.args.batch.now.first + length c.args.batch.now.images = let t = c.if-laid-end.true in let a = c.laid.ensures in let b = c.first-2.ensures in let d = c.len.ensures in omega (arith, t, a, b, d) in
    record {
      carries = record {
        stands = λ start lines st sound bt. laid_stands g.D.Disk.is_honest g.D.Disk.state start lines c.args.archive.now c.args.batch.now st sound bt next.first c.lay_batch.new.self g.D.Disk.remembers g.D.Disk.clock g.D.Disk.faults e.side e.file (Ok tt) e.cause e.untouched e.turns;
        held = let s = ap (λ x. x.held) e.side in omega (arith, s);
        pagelog = let k = e.cause.1 in omega (arith, k);
        maplog = let s = ap (λ x. g.D.Disk.faults x.disk) e.side in omega (arith, s);
        fault = e.fault;
        outcome = ((record { goes = e.cause.0; none = none }, less), e.side, let l = e.laid in omega (arith, l));
        laying = λ vault is to. (e.turns vault is (vault_goes g.D.Disk.is_honest g.D.Disk.state c.args.archive.now vault is to.0.goes)).any_moment;
        long = λ to. e.long;
        entering = λ vault is to. let t = to.1 in absurd (omega (arith, t, less));
      };
    }

pub returns-in-Err : goal.returns-in-Err
returns-in-Err g c =
    let m = c.requires.may in
    let held = c.held.ensures in
    let first = c.first.ensures in
    let le = c.if-held-first.false in
    let none : c.args.archive.now.side.held ≤ c.args.batch.now.first = omega (arith, held, first, le) in
    let next = is_next g.D.Disk.is_honest g.D.Disk.state m.start m.lines c.args.archive.now c.args.batch.now m.stands m.sound m.is_batch (omega (arith, held, first, le)) in
    let e = c.in-Err.ensures in
    let less : c.args.archive.now.laid < c.args.batch.now.first + length c.args.batch.now.images = let t = c.if-laid-end.true in let a = c.laid.ensures in let b = c.first-2.ensures in let d = c.len.ensures in omega (arith, t, a, b, d) in
    record {
      carries = record {
        stands = λ start lines st sound bt. laid_stands g.D.Disk.is_honest g.D.Disk.state start lines c.args.archive.now c.args.batch.now st sound bt next.first c.lay_batch.new.self g.D.Disk.remembers g.D.Disk.clock g.D.Disk.faults e.side e.file (Err c.in-Err.fault) e.cause e.untouched e.turns;
        held = let s = ap (λ x. x.held) e.side in omega (arith, s);
        pagelog = refused_up Pagelog ⊥ c.args.archive.now.first_fault _ _ c.in-Err.fault.why c.in-Err.fault.wrote e.cause;
        maplog = let s = ap (λ x. g.D.Disk.faults x.disk) e.side in omega (arith, s);
        fault = e.fault;
        outcome = laid_refused g.D.Disk.faults c.args.batch.now c.args.archive.now c.lay_batch.new.self none c.in-Err.fault less e.side e.cause e.untouched;
        laying = λ vault is to. (e.turns vault is (vault_goes g.D.Disk.is_honest g.D.Disk.state c.args.archive.now vault is to.0.goes)).any_moment;
        long = λ to. e.long;
        entering = λ vault is to. let t = to.1 in absurd (omega (arith, t, less));
      };
    }

pub enter_batch-requires-clause-batch : goal.enter_batch-requires-clause-batch
enter_batch-requires-clause-batch g c =
    let m = c.requires.may in
    let held = c.held.ensures in
    let first = c.first.ensures in
    let le = c.if-held-first.false in
    is_next g.D.Disk.is_honest g.D.Disk.state m.start m.lines c.args.archive.now c.args.batch.now m.stands m.sound m.is_batch (omega (arith, held, first, le))

pub returns-in-Ok-enter_batch : goal.returns-in-Ok-enter_batch
returns-in-Ok-enter_batch g c =
    let m = c.requires.may in
    let held = c.held.ensures in
    let first = c.first.ensures in
    let le = c.if-held-first.false in
    let none : c.args.archive.now.side.held ≤ c.args.batch.now.first = omega (arith, held, first, le) in
    let next = is_next g.D.Disk.is_honest g.D.Disk.state m.start m.lines c.args.archive.now c.args.batch.now m.stands m.sound m.is_batch (omega (arith, held, first, le)) in
    let e = c.in-Ok-enter_batch.ensures in
    let enough = c.if-laid-end.false in
    let is_laid : c.args.batch.now.first + length c.args.batch.now.images ≤ c.args.archive.now.laid = let a = c.laid.ensures in let b = c.first-2.ensures in let d = c.len.ensures in omega (arith, enough, a, b, d) in
    record {
      carries = record {
        stands = λ start lines st sound bt. entered_stands g.D.Disk.is_honest g.D.Disk.state start lines c.args.archive.now c.args.batch.now st sound bt next.first c.enter_batch.new.self g.D.Disk.remembers g.D.Disk.clock g.D.Disk.faults e.same e.slots is_laid (Ok c.in-Ok-enter_batch.receipt) e.cause e.stopped e.turns e.memory;
        held = let h = e.held in let f = next.first in omega (arith, h, f);
        pagelog = let s = ap (λ x. g.D.Disk.faults x.disk) e.slots in omega (arith, s);
        maplog = let k = e.cause.1 in omega (arith, k);
        fault = e.fault;
        outcome = ((record { goes = e.cause.0; none = none }, is_laid), e.slots, e.held, c.held-in-Ok-enter_batch.ensures ∙ e.receipt);
        laying = λ vault is to. let t = to.1 in absurd (omega (arith, t, is_laid));
        long = λ to. let t = to.1 in absurd (omega (arith, t, is_laid));
        entering = λ vault is to. (e.turns vault is (vault_goes g.D.Disk.is_honest g.D.Disk.state c.args.archive.now vault is to.0.goes)).any_moment;
      };
    }

pub returns-in-Err-enter_batch : goal.returns-in-Err-enter_batch
returns-in-Err-enter_batch g c =
    let m = c.requires.may in
    let held = c.held.ensures in
    let first = c.first.ensures in
    let le = c.if-held-first.false in
    let none : c.args.archive.now.side.held ≤ c.args.batch.now.first = omega (arith, held, first, le) in
    let next = is_next g.D.Disk.is_honest g.D.Disk.state m.start m.lines c.args.archive.now c.args.batch.now m.stands m.sound m.is_batch (omega (arith, held, first, le)) in
    let e = c.in-Err-enter_batch.ensures in
    let enough = c.if-laid-end.false in
    let is_laid : c.args.batch.now.first + length c.args.batch.now.images ≤ c.args.archive.now.laid = let a = c.laid.ensures in let b = c.first-2.ensures in let d = c.len.ensures in omega (arith, enough, a, b, d) in
    record {
      carries = record {
        stands = λ start lines st sound bt. entered_stands g.D.Disk.is_honest g.D.Disk.state start lines c.args.archive.now c.args.batch.now st sound bt next.first c.enter_batch.new.self g.D.Disk.remembers g.D.Disk.clock g.D.Disk.faults e.same e.slots is_laid (Err c.in-Err-enter_batch.fault) e.cause e.stopped e.turns e.memory;
        held = let h = e.left in omega (arith, h);
        pagelog = let s = ap (λ x. g.D.Disk.faults x.disk) e.slots in omega (arith, s);
        maplog = refused_up Maplog (Unit {0}) c.args.archive.now.first_fault _ _ c.in-Err-enter_batch.fault.why c.in-Err-enter_batch.fault.wrote e.cause;
        fault = e.fault;
        outcome = entered_refused g.D.Disk.faults c.args.batch.now c.args.archive.now c.enter_batch.new.self none c.in-Err-enter_batch.fault is_laid e.slots e.left e.cause e.stopped;
        laying = λ vault is to. let t = to.1 in absurd (omega (arith, t, is_laid));
        long = λ to. let t = to.1 in absurd (omega (arith, t, is_laid));
        entering = λ vault is to. (e.turns vault is (vault_goes g.D.Disk.is_honest g.D.Disk.state c.args.archive.now vault is to.0.goes)).any_moment;
      };
    }
