use Rattle.std.proofs.Common.{◌≡◌, ◌∙◌, Result, false, refl, subst, sym}
use Rattle.store.proofs.Recalling.{cause_so, fault_so, finds_none, finds_so, past_so, seeks_so, stays_on, stays_so, table_so, waits_on, waits_so}
use Rattle.store.proofs.Meeting.{whole_stays, work_stays}
use Rattle.std.specs.Prelude.{IfOk}
use Rattle.retro_base.specs.declared.refusal.Refusal.{Refusal}
use Rattle.store_core.specs.declared.copying.Peeked.{Peeked}
use Rattle.store.specs.Past.{IsPastRefusal}
use Rattle.store.proofs.shared.Store.past.Goals as goal

pub sought-requires-clause-seeking : goal.sought-requires-clause-seeking
sought-requires-clause-seeking g c = seeks_so g.D.Disk.is_honest g.D.Disk.state g.D.Disk.faults _ c.args.seat.now c.told.new.seat c.args.page c.args.snapshot c.args.out.now c.told.new.out c.told.result c.requires.ready c.told.ensures.visits c.requires.pinned c.args.table.now c.requires.first_met

pub returns-in-Err-clause-same : goal.returns-in-Err-clause-same
returns-in-Err-clause-same g c = stays_so g.D.Disk.is_honest g.D.Disk.state g.D.Disk.faults _ c.args.seat.now c.told.new.seat c.args.page c.args.snapshot c.args.out.now c.told.new.out c.told.result c.requires.ready c.told.ensures.visits

pub returns-in-Err-clause-first_met : goal.returns-in-Err-clause-first_met
returns-in-Err-clause-first_met g c = table_so g.D.Disk.is_honest g.D.Disk.state g.D.Disk.faults _ c.args.seat.now c.told.new.seat c.args.page c.args.snapshot c.args.out.now c.told.new.out c.told.result c.requires.ready c.told.ensures.visits c.requires.pinned c.args.table.now c.requires.first_met

pub returns-in-Ok-sought-clause-same : goal.returns-in-Ok-sought-clause-same
returns-in-Ok-sought-clause-same g c = stays_on c.args.seat.now c.told.new.seat c.sought.new.seat (stays_so g.D.Disk.is_honest g.D.Disk.state g.D.Disk.faults _ c.args.seat.now c.told.new.seat c.args.page c.args.snapshot c.args.out.now c.told.new.out c.told.result c.requires.ready c.told.ensures.visits) c.sought.ensures.same

pub returns-in-Ok-sought-clause-waits : goal.returns-in-Ok-sought-clause-waits
returns-in-Ok-sought-clause-waits g c = waits_on c.args.seat.now c.told.new.seat c.sought.new.seat c.told.ensures.visits.visited.same.number (waits_so g.D.Disk.is_honest g.D.Disk.state g.D.Disk.faults _ c.args.seat.now c.told.new.seat c.args.page c.args.snapshot c.args.out.now c.told.new.out c.told.result c.requires.ready c.told.ensures.visits) c.sought.ensures.waits

pub returns-in-Ok-sought-clause-page : goal.returns-in-Ok-sought-clause-page
returns-in-Ok-sought-clause-page g c =
    past_so g.D.Disk.is_honest g.D.Disk.state g.D.Disk.faults _ c.args.seat.now c.told.new.seat c.args.page c.args.snapshot c.args.out.now c.told.new.out c.told.result c.requires.ready c.told.ensures.visits c.requires.pinned c.sought.new.seat c.args.table.now c.sought.new.table c.in-Ok.peeked c.in-Ok.is (table_so g.D.Disk.is_honest g.D.Disk.state g.D.Disk.faults _ c.args.seat.now c.told.new.seat c.args.page c.args.snapshot c.args.out.now c.told.new.out c.told.result c.requires.ready c.told.ensures.visits c.requires.pinned c.args.table.now c.requires.first_met) c.sought.new.out c.sought.result
    c.sought.ensures.finds c.sought.ensures.same.same.opening c.sought.ensures.waits c.in-Ok-sought.field-0 c.in-Ok-sought.is

pub returns-in-Err-sought-clause-same : goal.returns-in-Err-sought-clause-same
returns-in-Err-sought-clause-same g c = stays_on c.args.seat.now c.told.new.seat c.sought.new.seat (stays_so g.D.Disk.is_honest g.D.Disk.state g.D.Disk.faults _ c.args.seat.now c.told.new.seat c.args.page c.args.snapshot c.args.out.now c.told.new.out c.told.result c.requires.ready c.told.ensures.visits) c.sought.ensures.same

pub returns-in-Err-sought-clause-waits : goal.returns-in-Err-sought-clause-waits
returns-in-Err-sought-clause-waits g c = waits_on c.args.seat.now c.told.new.seat c.sought.new.seat c.told.ensures.visits.visited.same.number (waits_so g.D.Disk.is_honest g.D.Disk.state g.D.Disk.faults _ c.args.seat.now c.told.new.seat c.args.page c.args.snapshot c.args.out.now c.told.new.out c.told.result c.requires.ready c.told.ensures.visits) c.sought.ensures.waits

pub returns-in-Err-clause-whole : goal.returns-in-Err-clause-whole
returns-in-Err-clause-whole g c = λ w. whole_stays c.args.seat.now c.told.new.seat (stays_so g.D.Disk.is_honest g.D.Disk.state g.D.Disk.faults _ c.args.seat.now c.told.new.seat c.args.page c.args.snapshot c.args.out.now c.told.new.out c.told.result c.requires.ready c.told.ensures.visits) w

pub returns-in-Err-clause-work : goal.returns-in-Err-clause-work
returns-in-Err-clause-work g c = work_stays c.args.seat.now c.told.new.seat (stays_so g.D.Disk.is_honest g.D.Disk.state g.D.Disk.faults _ c.args.seat.now c.told.new.seat c.args.page c.args.snapshot c.args.out.now c.told.new.out c.told.result c.requires.ready c.told.ensures.visits)

pub returns-in-Ok-sought-clause-whole : goal.returns-in-Ok-sought-clause-whole
returns-in-Ok-sought-clause-whole g c = λ w. whole_stays c.args.seat.now c.sought.new.seat (stays_on c.args.seat.now c.told.new.seat c.sought.new.seat (stays_so g.D.Disk.is_honest g.D.Disk.state g.D.Disk.faults _ c.args.seat.now c.told.new.seat c.args.page c.args.snapshot c.args.out.now c.told.new.out c.told.result c.requires.ready c.told.ensures.visits) c.sought.ensures.same) w

pub returns-in-Ok-sought-clause-work : goal.returns-in-Ok-sought-clause-work
returns-in-Ok-sought-clause-work g c = work_stays c.args.seat.now c.sought.new.seat (stays_on c.args.seat.now c.told.new.seat c.sought.new.seat (stays_so g.D.Disk.is_honest g.D.Disk.state g.D.Disk.faults _ c.args.seat.now c.told.new.seat c.args.page c.args.snapshot c.args.out.now c.told.new.out c.told.result c.requires.ready c.told.ensures.visits) c.sought.ensures.same)

pub returns-in-Err-sought-clause-whole : goal.returns-in-Err-sought-clause-whole
returns-in-Err-sought-clause-whole g c = λ w. whole_stays c.args.seat.now c.sought.new.seat (stays_on c.args.seat.now c.told.new.seat c.sought.new.seat (stays_so g.D.Disk.is_honest g.D.Disk.state g.D.Disk.faults _ c.args.seat.now c.told.new.seat c.args.page c.args.snapshot c.args.out.now c.told.new.out c.told.result c.requires.ready c.told.ensures.visits) c.sought.ensures.same) w

pub returns-in-Err-sought-clause-work : goal.returns-in-Err-sought-clause-work
returns-in-Err-sought-clause-work g c = work_stays c.args.seat.now c.sought.new.seat (stays_on c.args.seat.now c.told.new.seat c.sought.new.seat (stays_so g.D.Disk.is_honest g.D.Disk.state g.D.Disk.faults _ c.args.seat.now c.told.new.seat c.args.page c.args.snapshot c.args.out.now c.told.new.out c.told.result c.requires.ready c.told.ensures.visits) c.sought.ensures.same)

pub returns-in-Err-clause-fault : goal.returns-in-Err-clause-fault
returns-in-Err-clause-fault g c = fault_so g.D.Disk.is_honest g.D.Disk.state g.D.Disk.faults _ c.args.seat.now c.told.new.seat c.args.page c.args.snapshot c.args.out.now c.told.new.out c.told.result c.requires.ready c.told.ensures.visits (record { why = c.in-Err.why; wrote = false }) c.in-Err.is

pub returns-in-Err-sought-clause-fault : goal.returns-in-Err-sought-clause-fault
returns-in-Err-sought-clause-fault g c = λ start d k e w. c.in-Err-sought.ensures.fault start d k (c.told.ensures.visits.visited.same.opening ∙ e) w

pub returns-in-Ok-sought-clause-retained : goal.returns-in-Ok-sought-clause-retained
returns-in-Ok-sought-clause-retained g c =
    let same = c.sought.ensures.same.same.opening in
    record {
      sound = λ start e. c.sought.ensures.finds.sound start (sym same ∙ e);
      retained = λ start e. c.sought.ensures.finds.retained start (sym same ∙ e);
    }

pub returns-in-Err-clause-visits : goal.returns-in-Err-clause-visits
returns-in-Err-clause-visits g c =
    let v = c.told.ensures.visits in
    record {
      told = c.told.result;
      between = c.told.new.out;
      middle = c.told.new.seat;
      asks = v;
      finds = finds_none g.D.Disk.is_honest g.D.Disk.state g.D.Disk.faults _ g.D.Disk.remembers g.D.Disk.clock c.args.table.now.covered c.args.steps.now c.args.steps.now c.told.new.seat c.told.new.seat _ c.told.result c.in-Err.why c.in-Err.is refl refl refl;
      refused = (refl, cause_so g.D.Disk.is_honest g.D.Disk.state g.D.Disk.faults _ c.args.seat.now c.told.new.seat c.args.page c.args.snapshot c.args.out.now c.told.new.out c.told.result c.requires.ready v c.args.table.now.covered v.before.core.desk.queue.first c.in-Err.why c.told.ensures.fits c.in-Err.is);
    }

pub returns-in-Err-sought-clause-visits : goal.returns-in-Err-sought-clause-visits
returns-in-Err-sought-clause-visits g c =
    let v = c.told.ensures.visits in
    let is = subst (λ (r : Result Peeked Refusal). IfOk r (λ p. p.acked ≡ v.before.core.desk.queue.first)) c.in-Ok.is v.does.upto in
    record {
      told = c.told.result;
      between = c.told.new.out;
      middle = c.told.new.seat;
      asks = v;
      finds = finds_so g.D.Disk.is_honest g.D.Disk.state g.D.Disk.faults _ g.D.Disk.remembers g.D.Disk.clock c.args.table.now.covered c.args.steps.now c.sought.new.steps c.told.new.seat c.sought.new.seat _ c.told.result c.in-Ok.peeked c.in-Ok.is c.sought.ensures.visits;
      refused = subst (λ n. IsPastRefusal c.sought.new.seat c.args.table.now.covered n c.in-Err-sought.fault) is c.in-Err-sought.ensures.cause;
    }

pub returns-in-Ok-sought-clause-visits : goal.returns-in-Ok-sought-clause-visits
returns-in-Ok-sought-clause-visits g c = record {
  told = c.told.result;
  between = c.told.new.out;
  middle = c.told.new.seat;
  asks = c.told.ensures.visits;
  finds = finds_so g.D.Disk.is_honest g.D.Disk.state g.D.Disk.faults _ g.D.Disk.remembers g.D.Disk.clock c.args.table.now.covered c.args.steps.now c.sought.new.steps c.told.new.seat c.sought.new.seat _ c.told.result c.in-Ok.peeked c.in-Ok.is c.sought.ensures.visits;
  refused = tt;
}
