use Rattle.std.proofs.Common.{refl, ◌≡◌, ◌∙◌, sym, ap, subst, inl, Some, None}
use Rattle.history.specs.Marks.{newest}
use Rattle.history.specs.declared.journal.What.TheVariants as whats
use Rattle.retro_base.specs.declared.refusal.Refusal.{Refusal}
use Rattle.desk.proofs.Steps.{going, log_rests}
use Rattle.journal_book.specs.Works.{work_at}
use Rattle.txn_set.specs.declared.ledger.Ledger.{Ledger}
use Rattle.txn_set.specs.Ledger.{IsKeptDrop, closed, drop_lines, given_up}
use Rattle.store_core.specs.declared.desk_core.Core.{Core}
use Rattle.store_core.specs.Core.{IsCore}
use Rattle.store_core.specs.Drops.{drop_line_refused, drop_refused_by}
use Rattle.store_core.proofs.Drops.{drop_some}
use Rattle.store_core.proofs.Dropped.{dropped_done, dropped_kept, stays_from}
use Rattle.store_core.proofs.Kept.{closes_drop, core_kept, core_not_dropped, goes_unrefused, kept_refused, kept_there, line_without_fault, one_refusal, refused_without_fault, room_where_ok}
use Rattle.store_core.proofs.Opened.{core_given_up}
use Rattle.store_core.proofs.desk_core.Core.drop_below.Goals as goal

pub returns-in-Err-clause-failed : goal.returns-in-Err-clause-failed
returns-in-Err-clause-failed g c = λ opening plain is fault.
    absurd (line_without_fault (given_up c.args.who c.args.self.now.ledger).book (drop_lines c.args.who c.args.self.now.ledger) c.in-Err.why c.keep_drop.result c.in-Err.is c.keep_drop.ensures.full c.keep_drop.ensures.memory fault)

pub returns-in-Err-clause-stays : goal.returns-in-Err-clause-stays
returns-in-Err-clause-stays g c = λ other opening plain is.
    subst (λ (l : Ledger). IsCore g.D.Disk.is_honest g.D.Disk.state opening (record { desk = c.args.self.now.desk; ledger = l }) plain) (sym c.in-Err.ensures.stays)
    (core_given_up g.D.Disk.is_honest g.D.Disk.state opening c.args.self.now plain is c.args.who)

pub returns-in-Err-clause-any_moment : goal.returns-in-Err-clause-any_moment
returns-in-Err-clause-any_moment g c = λ opening plain is allowed above told.
    log_rests g.D.Disk.is_honest g.D.Disk.remembers g.D.Disk.state g.D.Disk.clock c.args.self.now.desk plain is.is is.fits _
    (going c.args.self.now.desk.stop plain.stopped is.is.stopped (goes_unrefused g.D.Disk.is_honest g.D.Disk.state opening c.args.self.now plain is (newest c.args.self.now.desk.base.marks) c.args.below allowed.free)) told
    (λ image left. g.met.D.Disk.only_now c.args.self.now.desk.log.disk image told left)

pub close-requires-clause-work : goal.close-requires-clause-work
close-requires-clause-work g c = drop_some (work_at c.keep_drop.new.self.works.slots c.args.who.session) (subst (λ (l : Ledger). IsKeptDrop (work_at l.works.slots c.args.who.session)) (sym c.in_default.ensures.done) (kept_there c.args.who c.args.self.now.ledger c.requires.is_closed))

pub close-requires-clause-closes : goal.close-requires-clause-closes
close-requires-clause-closes g c = closes_drop c.args.who (whats.Refused c.in-Some.why) (work_at c.keep_drop.new.self.works.slots c.args.who.session) (subst (λ (l : Ledger). IsKeptDrop (work_at l.works.slots c.args.who.session)) (sym c.in_default.ensures.done) (kept_there c.args.who c.args.self.now.ledger c.requires.is_closed)) refl

pub drop_allowed-requires-clause-core : goal.drop_allowed-requires-clause-core
drop_allowed-requires-clause-core g c = record {
  opening = c.requires.core.opening;
  plain = c.requires.core.plain;
  is = (core_kept g.D.Disk.is_honest g.D.Disk.state c.requires.core.opening c.args.self.now c.requires.core.plain c.requires.core.is c.args.who c.keep_drop.new.self c.requires.is_closed (room_where_ok (drop_line_refused c.args.who c.args.self.now.ledger) (λ why e. absurd (cc (c.in_default.ensures.full why e)))) c.in_default.ensures.done);
}

pub drop_allowed-requires-clause-kept : goal.drop_allowed-requires-clause-kept
drop_allowed-requires-clause-kept g c = (subst (λ (l : Ledger). IsKeptDrop (work_at l.works.slots c.args.who.session)) (sym c.in_default.ensures.done) (kept_there c.args.who c.args.self.now.ledger c.requires.is_closed))

pub returns-in-Some-clause-dropped : goal.returns-in-Some-clause-dropped
returns-in-Some-clause-dropped g c =
    let refused : drop_refused_by (newest c.args.self.now.desk.base.marks) c.args.below c.args.self.now.ledger ≡ Some c.in-Some.why = sym (ap (λ (l : Ledger). drop_refused_by (newest c.args.self.now.desk.base.marks) c.args.below l) c.in_default.ensures.done ∙ kept_refused c.args.who c.args.self.now.ledger c.requires.is_closed (newest c.args.self.now.desk.base.marks) c.args.below) ∙ sym c.in-Some.ensures in
    record {
      full = λ why e. absurd (cc (c.in_default.ensures.full why e));
      refused = λ other room e.
          let same : c.in-Some.why ≡ other = one_refusal c.in-Some.why other (sym refused ∙ e) in
          inl (same, c.close.ensures.done ∙ ap (λ (why : Refusal). closed c.args.who (whats.Refused why) c.keep_drop.new.self) same ∙ ap (λ (l : Ledger). closed c.args.who (whats.Refused other) l) c.in_default.ensures.done);
      done = tt;
      kept = λ room free. absurd (cc (refused, free));
    }

pub returns-in-Some-clause-cause : goal.returns-in-Some-clause-cause
returns-in-Some-clause-cause g c = λ allowed.
    let refused : drop_refused_by (newest c.args.self.now.desk.base.marks) c.args.below c.args.self.now.ledger ≡ Some c.in-Some.why = sym (ap (λ (l : Ledger). drop_refused_by (newest c.args.self.now.desk.base.marks) c.args.below l) c.in_default.ensures.done ∙ kept_refused c.args.who c.args.self.now.ledger c.requires.is_closed (newest c.args.self.now.desk.base.marks) c.args.below) ∙ sym c.in-Some.ensures in
    absurd (cc (refused, allowed.free))

pub returns-in-Some-clause-nothing : goal.returns-in-Some-clause-nothing
returns-in-Some-clause-nothing g c = λ low allowed.
    let refused : drop_refused_by (newest c.args.self.now.desk.base.marks) c.args.below c.args.self.now.ledger ≡ Some c.in-Some.why = sym (ap (λ (l : Ledger). drop_refused_by (newest c.args.self.now.desk.base.marks) c.args.below l) c.in_default.ensures.done ∙ kept_refused c.args.who c.args.self.now.ledger c.requires.is_closed (newest c.args.self.now.desk.base.marks) c.args.below) ∙ sym c.in-Some.ensures in
    absurd (cc (refused, allowed.free))

pub returns-in-Some-clause-failed : goal.returns-in-Some-clause-failed
returns-in-Some-clause-failed g c = λ opening plain is fault. absurd (refused_without_fault (newest c.args.self.now.desk.base.marks) c.args.below c.args.self.now.ledger c.in-Some.why (sym (ap (λ (l : Ledger). drop_refused_by (newest c.args.self.now.desk.base.marks) c.args.below l) c.in_default.ensures.done ∙ kept_refused c.args.who c.args.self.now.ledger c.requires.is_closed (newest c.args.self.now.desk.base.marks) c.args.below) ∙ sym c.in-Some.ensures) fault)

pub returns-in-Some-clause-stays : goal.returns-in-Some-clause-stays
returns-in-Some-clause-stays g c = λ other opening plain is.
    let between : Core g.row.D.Denot = record { desk = c.args.self.now.desk; ledger = c.keep_drop.new.self } in
    core_not_dropped g.D.Disk.is_honest g.D.Disk.state opening between plain (core_kept g.D.Disk.is_honest g.D.Disk.state opening c.args.self.now plain is c.args.who c.keep_drop.new.self c.requires.is_closed (room_where_ok (drop_line_refused c.args.who c.args.self.now.ledger) (λ why e. absurd (cc (c.in_default.ensures.full why e)))) c.in_default.ensures.done) c.args.who (subst (λ (l : Ledger). IsKeptDrop (work_at l.works.slots c.args.who.session)) (sym c.in_default.ensures.done) (kept_there c.args.who c.args.self.now.ledger c.requires.is_closed))
    c.in-Some.why c.close.new.self c.close.ensures.done c.close.ensures.fits

pub returns-in-Some-clause-any_moment : goal.returns-in-Some-clause-any_moment
returns-in-Some-clause-any_moment g c = λ opening plain is allowed above told.
    let refused : drop_refused_by (newest c.args.self.now.desk.base.marks) c.args.below c.args.self.now.ledger ≡ Some c.in-Some.why = sym (ap (λ (l : Ledger). drop_refused_by (newest c.args.self.now.desk.base.marks) c.args.below l) c.in_default.ensures.done ∙ kept_refused c.args.who c.args.self.now.ledger c.requires.is_closed (newest c.args.self.now.desk.base.marks) c.args.below) ∙ sym c.in-Some.ensures in
    absurd (cc (refused, allowed.free))

pub returns-in-None-clause-dropped : goal.returns-in-None-clause-dropped
returns-in-None-clause-dropped g c =
    let free : drop_refused_by (newest c.args.self.now.desk.base.marks) c.args.below c.args.self.now.ledger ≡ None = (sym (ap (λ (l : Ledger). drop_refused_by (newest c.args.self.now.desk.base.marks) c.args.below l) c.in_default.ensures.done ∙ kept_refused c.args.who c.args.self.now.ledger c.requires.is_closed (newest c.args.self.now.desk.base.marks) c.args.below) ∙ sym c.in-None.ensures) in
    record {
      full = λ why e. absurd (cc (c.in_default.ensures.full why e));
      refused = λ why room e. absurd (cc (free, e));
      done = dropped_done c.args.who c.args.below (newest c.args.self.now.desk.base.marks) c.args.self.now.ledger c.keep_drop.new.self c.drop_allowed.new.self.ledger c.in_default.ensures.done free c.drop_allowed.result c.drop_allowed.ensures.ledger;
      kept = λ room none. dropped_kept c.args.who c.args.below (newest c.args.self.now.desk.base.marks) c.args.self.now.ledger c.keep_drop.new.self c.drop_allowed.new.self.ledger c.in_default.ensures.done free c.drop_allowed.result c.drop_allowed.ensures.ledger;
    }

pub returns-in-None-clause-done : goal.returns-in-None-clause-done
returns-in-None-clause-done g c = λ opening plain is. c.drop_allowed.ensures.done opening plain (core_kept g.D.Disk.is_honest g.D.Disk.state opening c.args.self.now plain is c.args.who c.keep_drop.new.self c.requires.is_closed (room_where_ok (drop_line_refused c.args.who c.args.self.now.ledger) (λ why e. absurd (cc (c.in_default.ensures.full why e)))) c.in_default.ensures.done)

pub returns-in-None-clause-failed : goal.returns-in-None-clause-failed
returns-in-None-clause-failed g c = λ opening plain is. c.drop_allowed.ensures.failed opening plain (core_kept g.D.Disk.is_honest g.D.Disk.state opening c.args.self.now plain is c.args.who c.keep_drop.new.self c.requires.is_closed (room_where_ok (drop_line_refused c.args.who c.args.self.now.ledger) (λ why e. absurd (cc (c.in_default.ensures.full why e)))) c.in_default.ensures.done)

pub returns-in-None-clause-stays : goal.returns-in-None-clause-stays
returns-in-None-clause-stays g c =
    let between : Core g.row.D.Denot = record { desk = c.args.self.now.desk; ledger = c.keep_drop.new.self } in
    stays_from g.D.Disk.is_honest g.D.Disk.state c.args.self.now between c.drop_allowed.new.self c.drop_allowed.result (λ opening plain is. (core_kept g.D.Disk.is_honest g.D.Disk.state opening c.args.self.now plain is c.args.who c.keep_drop.new.self c.requires.is_closed (room_where_ok (drop_line_refused c.args.who c.args.self.now.ledger) (λ why e. absurd (cc (c.in_default.ensures.full why e)))) c.in_default.ensures.done)) c.drop_allowed.ensures.stays

pub returns-in-None-clause-any_moment : goal.returns-in-None-clause-any_moment
returns-in-None-clause-any_moment g c = λ opening plain is allowed above told. c.drop_allowed.ensures.any_moment opening plain (core_kept g.D.Disk.is_honest g.D.Disk.state opening c.args.self.now plain is c.args.who c.keep_drop.new.self c.requires.is_closed (room_where_ok (drop_line_refused c.args.who c.args.self.now.ledger) (λ why e. absurd (cc (c.in_default.ensures.full why e)))) c.in_default.ensures.done) above told
