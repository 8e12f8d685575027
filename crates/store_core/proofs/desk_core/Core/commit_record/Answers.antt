use Rattle.std.proofs.Common.{◌≡◌, ◌∙◌, ◌≤◌, ◌<◌, ◌&&◌, not, ℕ, List, length, refl, sym, ap, subst, Option, Some, None, Result}
use Rattle.std.specs.Prelude.{OnOk, IfErr, MatchResult}
use Rattle.std.specs.List.{AllByRecursion}
use Rattle.disk_model.specs.Moments.{LeavesOnly}
use Rattle.retro_base.specs.declared.refusal.Refusal.{Refusal}
use Rattle.retro_base.specs.declared.who.Who.{Who}
use Rattle.gate_log.specs.Cause.{IsDiskFault}
use Rattle.history.specs.declared.entry.Change.TheVariants.{Commit}
use Rattle.history.specs.declared.journal.FailedCall.TheVariants.{Append}
use Rattle.history.specs.declared.journal.What.TheVariants as whats
use Rattle.history.specs.declared.writes.PageImage.{PageImage}
use Rattle.history.specs.History.{base_after}
use Rattle.history.specs.Writes.{is_among, pages_of}
use Rattle.page_pool.specs.Side.{held}
use Rattle.records.specs.Entries.{change_bytes}
use Rattle.race_model.specs.Desk.{Desk}
use Rattle.race_model.specs.Machine.{changed, change_failed}
use Rattle.race_model.proofs.DeskKeeps.{change_failed_keeps}
use Rattle.redo_log.specs.Side.{LogSide}
use Rattle.desk.specs.declared.desk.RunningDesk.{RunningDesk}
use Rattle.desk.specs.Cause.{IsChangeRefusal, IsWriteRefusal, stop_behind}
use Rattle.desk.specs.Desk.{IsDesk, ListsLogOf}
use Rattle.journal_book.specs.declared.work.Transaction.{Transaction}
use Rattle.journal_book.specs.declared.work.Work.{Work}
use Rattle.journal_book.specs.declared.work.Work.TheVariants.{Open}
use Rattle.journal_book.specs.Works.{work_at}
use Rattle.txn_set.specs.declared.ledger.Ledger.{Ledger}
use Rattle.txn_set.specs.Ledger.{line_of, taken}
use Rattle.txn_set.specs.WorksFit.{Closes}
use Rattle.store_core.specs.declared.desk_core.Core.{Core}
use Rattle.store_core.specs.Calls.{failed_at, has_released}
use Rattle.store_core.specs.Commits.{IsMayCommit}
use Rattle.store_core.specs.Core.{IsCore}
use Rattle.store_core.proofs.Committed.{allowed_one, commit_fits, commit_right, committed_same, core_committed, core_pair, edits_held, fitting, goes_on, kept_one, may_commit, same_open, taken_none}
use Rattle.store_core.proofs.Cores.{told_new}
use Rattle.store_core.proofs.Faulted.{core_fails, failed_same, going_refusal, may_record}
use Rattle.store_core.proofs.desk_core.Core.commit_record.Goals as goal

pub send-label-requires-clause-fits : goal.send-label-requires-clause-fits
send-label-requires-clause-fits g c =
    commit_fits g.D.Disk.is_honest g.D.Disk.state c.requires.core.opening c.args.self.now c.requires.core.plain c.requires.core.is c.args.who c.take-began.result c.args.label c.take-began.ensures.transaction c.args.self.now.desk.log.log.version c.requires.may.fits

pub send-label-requires-clause-right : goal.send-label-requires-clause-right
send-label-requires-clause-right g c =
    commit_right g.D.Disk.is_honest g.D.Disk.state c.requires.core.opening c.args.self.now c.requires.core.plain c.requires.core.is c.args.who c.take-began.result c.args.label c.take-began.ensures.transaction
    (allowed_one c.args.self.now c.args.who c.args.label c.requires.may.transaction c.take-began.result c.take-began.ensures.transaction c.requires.may.allowed).free (c.requires.leaves c.take-began.result c.take-began.ensures.transaction)

pub send-label-requires-clause-held : goal.send-label-requires-clause-held
send-label-requires-clause-held g c =
    edits_held g.D.Disk.is_honest g.D.Disk.state c.requires.core.opening c.args.self.now c.requires.core.plain c.requires.core.is c.args.who c.take-began.result c.args.label c.take-began.ensures.transaction

pub finish-requires-clause-kept : goal.finish-requires-clause-kept
finish-requires-clause-kept g c =
    subst (λ (l : Ledger). 1 ≤ l.book.kept) (sym c.take-began.ensures.ledger)
    (kept_one g.D.Disk.is_honest g.D.Disk.state c.requires.core.opening c.args.self.now c.requires.core.plain c.requires.core.is c.args.who c.take-began.result c.args.label c.take-began.ensures.transaction)

pub finish-requires-clause-pages : goal.finish-requires-clause-pages
finish-requires-clause-pages g c =
    subst (λ (l : Ledger). AllByRecursion (λ (write : PageImage). write.page < l.book.pages) c.send-label.result.writes) (sym c.take-began.ensures.ledger)
    (subst (AllByRecursion (λ (write : PageImage). write.page < c.args.self.now.ledger.book.pages)) (sym c.send-label.ensures.parts.1)
    (fitting g.D.Disk.is_honest g.D.Disk.state c.requires.core.opening c.args.self.now c.requires.core.plain c.requires.core.is c.args.who c.take-began.result c.args.label c.take-began.ensures.transaction).edits_inside)

pub put-requires-clause-idle : goal.put-requires-clause-idle
put-requires-clause-idle g c =
    ap (work_at c.take-began.new.self.works.slots) (c.requires.core.is.ledger.works.sessions c.args.who.session (Open c.take-began.result) c.take-began.ensures.transaction)
    ∙ ap (λ (l : Ledger). work_at l.works.slots c.args.who.session) c.take-began.ensures.ledger ∙ taken_none c.args.who c.args.self.now.ledger

pub returns-in-Ok-clause-done : goal.returns-in-Ok-clause-done
returns-in-Ok-clause-done g c = λ opening plain t is allowed.
    let t0 : Transaction = c.take-began.result in
    let there : work_at c.args.self.now.ledger.works.slots c.args.who.session ≡ Some (Open t0) = c.take-began.ensures.transaction in
    let free = (allowed_one c.args.self.now c.args.who c.args.label t t0 there allowed).free in
    let leaves = c.requires.leaves t0 there in
    let may : IsMayCommit g.D.Disk.is_honest g.D.Disk.state c.args.self.now.desk plain c.args.label t0.edits = may_commit g.D.Disk.is_honest g.D.Disk.state opening c.args.self.now plain is c.args.who t0 c.args.label there free leaves in
    subst (λ (x : Transaction). IsCore g.D.Disk.is_honest g.D.Disk.state opening (record { desk = c.release_all.new.desk; ledger = c.finish.new.self }) (changed plain (Commit c.args.label x.edits)))
    (same_open (work_at c.args.self.now.ledger.works.slots c.args.who.session) t0 t there allowed.is_open)
    (core_committed g.D.Disk.is_honest g.D.Disk.state opening c.args.self.now plain is c.args.who t0 c.args.label there free leaves c.release_all.new.desk c.finish.new.self
    (c.finish.ensures.done ∙ committed_same c.args.who c.send-label.result.label c.args.label c.send-label.result.writes t0.edits c.take-began.new.self (taken c.args.who c.args.self.now.ledger) c.send-label.ensures.parts.0 c.send-label.ensures.parts.1 c.take-began.ensures.ledger)
    (c.finish.ensures.fits c.args.self.now.ledger t0 is.ledger.works there
    (subst (λ (x : Transaction). x.who ≡ c.args.who) (same_open (work_at c.args.self.now.ledger.works.slots c.args.who.session) c.requires.may.transaction t0 c.requires.may.allowed.is_open there) c.requires.may.is_of)
    (sym c.send-label.ensures.parts.1) c.take-began.ensures.ledger)
    (c.release_all.ensures.desk (changed plain (Commit c.args.label t0.edits))
    (subst (λ (r : Result (Unit {0}) Refusal). OnOk r (IsDesk g.D.Disk.is_honest g.D.Disk.state c.send-label.new.desk (changed plain (Commit c.args.label t0.edits)))) c.in-Ok.is (c.send-label.ensures.done plain may)))
    (λ page. c.release_all.ensures.held page
    ∙ ap (λ (l : List PageImage). held c.send-label.new.desk.pool page && not (is_among page (pages_of l))) (c.images.ensures.value ∙ c.send-label.ensures.parts.1)
    ∙ ap (λ b. b && not (is_among page (pages_of t0.edits))) (c.send-label.ensures.held page))
    (ap (λ (r : RunningDesk g.row.D.Denot). r.stop) c.release_all.ensures.rest
    ∙ subst (λ (r : Result (Unit {0}) Refusal). MatchResult r (λ _. c.send-label.new.desk.stop ≡ c.args.self.now.desk.stop) (λ why. c.send-label.new.desk.stop ≡ stop_behind c.args.self.now.desk.stop why)) c.in-Ok.is c.send-label.ensures.stop)
    (ap (λ (r : RunningDesk g.row.D.Denot). r.base) c.release_all.ensures.rest
    ∙ subst (λ (r : Result (Unit {0}) Refusal). OnOk r (c.send-label.new.desk.base ≡ base_after c.args.self.now.desk.base (Commit c.args.label t0.edits))) c.in-Ok.is c.send-label.ensures.base))

pub returns-in-Ok-clause-any_moment : goal.returns-in-Ok-clause-any_moment
returns-in-Ok-clause-any_moment g c = λ opening plain t is allowed told.
    let t0 : Transaction = c.take-began.result in
    let there : work_at c.args.self.now.ledger.works.slots c.args.who.session ≡ Some (Open t0) = c.take-began.ensures.transaction in
    let may : IsMayCommit g.D.Disk.is_honest g.D.Disk.state c.args.self.now.desk plain c.args.label t0.edits = may_commit g.D.Disk.is_honest g.D.Disk.state opening c.args.self.now plain is c.args.who t0 c.args.label there (allowed_one c.args.self.now c.args.who c.args.label t t0 there allowed).free (c.requires.leaves t0 there) in
    subst (λ (x : Transaction). LeavesOnly g.D.Disk.remembers (g.D.Disk.clock c.args.self.now.desk.log.disk) (g.D.Disk.clock c.release_all.new.desk.log.disk) (ListsLogOf (change_failed plain (Commit c.args.label x.edits))))
    (same_open (work_at c.args.self.now.ledger.works.slots c.args.who.session) t0 t there allowed.is_open)
    (subst (λ (l : LogSide g.row.D.Denot). LeavesOnly g.D.Disk.remembers (g.D.Disk.clock c.args.self.now.desk.log.disk) (g.D.Disk.clock l.disk) (ListsLogOf (change_failed plain (Commit c.args.label t0.edits))))
    (sym (ap (λ (r : RunningDesk g.row.D.Denot). r.log) c.release_all.ensures.rest)) (c.send-label.ensures.any_moment plain may told))

pub returns-in-Err-clause-any_moment : goal.returns-in-Err-clause-any_moment
returns-in-Err-clause-any_moment g c = λ opening plain t is allowed told.
    let t0 : Transaction = c.take-began.result in
    let there : work_at c.args.self.now.ledger.works.slots c.args.who.session ≡ Some (Open t0) = c.take-began.ensures.transaction in
    let may : IsMayCommit g.D.Disk.is_honest g.D.Disk.state c.args.self.now.desk plain c.args.label t0.edits = may_commit g.D.Disk.is_honest g.D.Disk.state opening c.args.self.now plain is c.args.who t0 c.args.label there (allowed_one c.args.self.now c.args.who c.args.label t t0 there allowed).free (c.requires.leaves t0 there) in
    subst (λ (x : Transaction). LeavesOnly g.D.Disk.remembers (g.D.Disk.clock c.args.self.now.desk.log.disk) (g.D.Disk.clock c.record_commit.new.self.desk.log.disk) (ListsLogOf (change_failed plain (Commit c.args.label x.edits))))
    (same_open (work_at c.args.self.now.ledger.works.slots c.args.who.session) t0 t there allowed.is_open)
    (subst (λ (l : LogSide g.row.D.Denot). LeavesOnly g.D.Disk.remembers (g.D.Disk.clock c.args.self.now.desk.log.disk) (g.D.Disk.clock l.disk) (ListsLogOf (change_failed plain (Commit c.args.label t0.edits))))
    (sym (ap (λ (r : RunningDesk g.row.D.Denot). r.log) c.record_commit.ensures.rest)) (c.send-label.ensures.any_moment plain may told))

-- the transaction was put back
put_back : {D : Type 0} (core : Core D) (who : Who) (t back : Transaction) (between new : Ledger) → work_at core.ledger.works.slots who.session ≡ Some (Open t) → t.who ≡ who → back ≡ t → between ≡ taken who core.ledger
    → ((before : Ledger) → work_at before.works.slots back.who.session ≡ Some (Open back) → between ≡ taken back.who before → new ≡ before) → new ≡ core.ledger
put_back core who t back between new there own same taken_is undone =
    let owner : back.who ≡ who = ap (λ (x : Transaction). x.who) same ∙ own in
    undone core.ledger (ap (λ (w : Who). work_at core.ledger.works.slots w.session) owner ∙ there ∙ ap (λ (x : Transaction). let w : Option Work = Some (Open x) in w) (sym same)) (taken_is ∙ ap (λ (w : Who). taken w core.ledger) (sym owner))

abbrev edited : Transaction → List PageImage → Transaction
edited t edits = record t { edits = edits }

pub returns-in-Err-clause-untouched : goal.returns-in-Err-clause-untouched
returns-in-Err-clause-untouched g c = λ other.
    let t0 : Transaction = c.take-began.result in
    let there : work_at c.args.self.now.ledger.works.slots c.args.who.session ≡ Some (Open t0) = c.take-began.ensures.transaction in
    let own : t0.who ≡ c.args.who = subst (λ (x : Transaction). x.who ≡ c.args.who) (same_open (work_at c.args.self.now.ledger.works.slots c.args.who.session) c.requires.may.transaction t0 c.requires.may.allowed.is_open there) c.requires.may.is_of in
    let back : c.put.new.self ≡ c.args.self.now.ledger = put_back c.args.self.now c.args.who t0 (edited t0 c.send-label.result.writes) c.take-began.new.self c.put.new.self there own (ap (edited t0) c.send-label.ensures.parts.1) c.take-began.ensures.ledger c.put.ensures.undone in
    core_pair c.record_commit.new.self c.args.self.now
    (c.record_commit.ensures.untouched other ∙ subst (λ (r : Result (Unit {0}) Refusal). IfErr r (λ why. (IsDiskFault why → ⊥) → c.send-label.new.desk ≡ c.args.self.now.desk)) c.in-Err.is c.send-label.ensures.untouched other)
    (c.record_commit.ensures.ledger t0 (subst (λ (l : Ledger). work_at l.works.slots c.args.who.session ≡ Some (Open t0)) (sym back) there)
    ∙ failed_same (Append (Commit c.send-label.result.label t0.edits)) c.args.who c.in-Err.why c.put.new.self other ∙ back)

pub returns-in-Err-clause-cause : goal.returns-in-Err-clause-cause
returns-in-Err-clause-cause g c = λ t allowed.
    let t0 : Transaction = c.take-began.result in
    let there : work_at c.args.self.now.ledger.works.slots c.args.who.session ≡ Some (Open t0) = c.take-began.ensures.transaction in
    let IsOwn : ℕ → ℕ → Refusal → Type 0 = λ count faults. IsChangeRefusal c.args.self.now.desk.log.log.area.log count (g.D.Disk.faults c.args.self.now.desk.log.disk) faults in
    let goes = goes_on g.D.Disk.is_honest g.D.Disk.state c.requires.core.opening c.args.self.now c.requires.core.plain c.requires.core.is c.args.who t0 c.args.label there (allowed_one c.args.self.now c.args.who c.args.label t t0 there allowed).free (c.requires.leaves t0 there) in
    let size : ℕ = length (change_bytes c.args.self.now.desk.log.log.version (Commit c.args.label t0.edits)) in
    let refused : IsWriteRefusal c.args.self.now.desk.stop (IsOwn size (g.D.Disk.faults c.send-label.new.desk.log.disk)) c.in-Err.why =
    subst (λ (r : Result (Unit {0}) Refusal). MatchResult r (λ _. (c.args.self.now.desk.stop ≡ None) × (g.D.Disk.faults c.send-label.new.desk.log.disk ≡ g.D.Disk.faults c.args.self.now.desk.log.disk)) (IsWriteRefusal c.args.self.now.desk.stop (IsOwn size (g.D.Disk.faults c.send-label.new.desk.log.disk)))) c.in-Err.is c.send-label.ensures.cause in
    subst (λ (x : Transaction). IsOwn (length (change_bytes c.args.self.now.desk.log.log.version (Commit c.args.label x.edits))) (g.D.Disk.faults c.record_commit.new.self.desk.log.disk) c.in-Err.why)
    (same_open (work_at c.args.self.now.ledger.works.slots c.args.who.session) t0 t there allowed.is_open)
    (subst (λ (l : LogSide g.row.D.Denot). IsOwn size (g.D.Disk.faults l.disk) c.in-Err.why) (sym (ap (λ (r : RunningDesk g.row.D.Denot). r.log) c.record_commit.ensures.rest))
    (going_refusal c.args.self.now.desk.stop (IsOwn size (g.D.Disk.faults c.send-label.new.desk.log.disk)) c.in-Err.why goes refused))

pub returns-in-Err-clause-failed : goal.returns-in-Err-clause-failed
returns-in-Err-clause-failed g c = λ opening plain t is allowed fault.
    let t0 : Transaction = c.take-began.result in
    let there : work_at c.args.self.now.ledger.works.slots c.args.who.session ≡ Some (Open t0) = c.take-began.ensures.transaction in
    let free = (allowed_one c.args.self.now c.args.who c.args.label t t0 there allowed).free in
    let leaves = c.requires.leaves t0 there in
    let own : t0.who ≡ c.args.who = subst (λ (x : Transaction). x.who ≡ c.args.who) (same_open (work_at c.args.self.now.ledger.works.slots c.args.who.session) c.requires.may.transaction t0 c.requires.may.allowed.is_open there) c.requires.may.is_of in
    let may : IsMayCommit g.D.Disk.is_honest g.D.Disk.state c.args.self.now.desk plain c.args.label t0.edits = may_commit g.D.Disk.is_honest g.D.Disk.state opening c.args.self.now plain is c.args.who t0 c.args.label there free leaves in
    let back : c.put.new.self ≡ c.args.self.now.ledger = put_back c.args.self.now c.args.who t0 (edited t0 c.send-label.result.writes) c.take-began.new.self c.put.new.self there own (ap (edited t0) c.send-label.ensures.parts.1) c.take-began.ensures.ledger c.put.ensures.undone in
    let other : Desk = change_failed plain (Commit c.args.label t0.edits) in
    let sent : IsDesk g.D.Disk.is_honest g.D.Disk.state c.send-label.new.desk other =
    subst (λ (r : Result (Unit {0}) Refusal). IfErr r (λ why. IsDiskFault why → IsDesk g.D.Disk.is_honest g.D.Disk.state c.send-label.new.desk other)) c.in-Err.is (c.send-label.ensures.failed plain may) fault in
    subst (λ (x : Transaction). IsCore g.D.Disk.is_honest g.D.Disk.state opening c.record_commit.new.self (change_failed plain (Commit c.args.label x.edits)))
    (same_open (work_at c.args.self.now.ledger.works.slots c.args.who.session) t0 t there allowed.is_open)
    (core_fails g.D.Disk.is_honest g.D.Disk.state opening c.args.self.now plain is c.send-label.new.desk c.record_commit.new.self.desk other c.args.who (Append (Commit c.args.label t0.edits)) c.in-Err.why c.record_commit.new.self.ledger fault refl
    (may_record c.args.who c.args.self.now.ledger t0 there own).0
    (λ device count. subst (Closes c.args.who (whats.Fault device count (Append (Commit c.args.label t0.edits)))) (sym there) (refl, own))
    (goes_on g.D.Disk.is_honest g.D.Disk.state opening c.args.self.now plain is c.args.who t0 c.args.label there free leaves)
    (subst (λ (r : Result (Unit {0}) Refusal). MatchResult r (λ _. c.send-label.new.desk.stop ≡ c.args.self.now.desk.stop) (λ why. c.send-label.new.desk.stop ≡ stop_behind c.args.self.now.desk.stop why)) c.in-Err.is c.send-label.ensures.stop)
    (sent.base ∙ sym is.is.base) c.send-label.ensures.held c.record_commit.ensures.rest
    (λ page. c.record_commit.ensures.held page ∙ ap (λ (l : Ledger). held c.send-label.new.desk.pool page && not (has_released c.args.who c.in-Err.why page l)) back)
    (c.record_commit.ensures.ledger t0 (subst (λ (l : Ledger). work_at l.works.slots c.args.who.session ≡ Some (Open t0)) (sym back) there)
    ∙ ap (λ (l : Option (List ℕ)). failed_at (Append (Commit l t0.edits)) c.args.who c.in-Err.why c.put.new.self) c.send-label.ensures.parts.0
    ∙ ap (failed_at (Append (Commit c.args.label t0.edits)) c.args.who c.in-Err.why) back) c.record_commit.ensures.works (c.record_commit.ensures.desk other sent)
    (change_failed_keeps plain is.fits (Commit c.args.label t0.edits) may.follows) refl
    (λ device count. told_new c.args.self.now.ledger.book.lines (line_of c.args.who (whats.Fault device count (Append (Commit c.args.label t0.edits)))) (Commit c.args.label t0.edits)
    (sym is.stop ∙ goes_on g.D.Disk.is_honest g.D.Disk.state opening c.args.self.now plain is c.args.who t0 c.args.label there free leaves) refl))
