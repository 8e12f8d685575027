-- What a crash leaves within a visit opens to the journal.
use Rattle.std.proofs.Common.{◌≡◌, ◌≢◌, ◌⊎◌, ◌∙◌, ◌*◌, ◌+◌, ◌++◌, ◌<◌, ◌≤◌, ℕ, Bool, true, false, cond, List, [], ◌∷◌, Option, Some, None, Result, Ok, Err, refl, sym, ap, subst, inl, inr, ⊎_elim, arith}
use Rattle.std.specs.Prelude.{MatchResult}
use Rattle.std.specs.List.{AllByRecursion}
use Rattle.std.proofs.lemmas.Bool.{lt-ltb}
use mathlib.Core.Logic.{dite}
use native.Mathlib.Decide.{dec_lt}
use Rattle.atomic_table.specs.Seated.{TableId}
use Rattle.block_file.specs.Blocks.{File, IsAsLong}
use Rattle.disk_model.specs.declared.four.Four.{Four}
use Rattle.disk_model.specs.Disk.{IsImage, State}
use Rattle.disk_model.specs.Moments.{Clock, LeavesOnly}
use Rattle.disk_model.specs.Runs.{OnlyReads}
use Rattle.retro_base.specs.declared.refusal.Refusal.{Refusal}
use Rattle.retro_base.specs.declared.refusal.Refusal.TheVariants.{DiskFault, OutOfMemory, Stopped}
use Rattle.retro_base.specs.declared.who.Who.{Who}
use Rattle.gate_log.specs.Cause.{IsDiskFault}
use Rattle.history.specs.declared.entry.Change.{Change}
use Rattle.history.specs.declared.entry.Change.TheVariants.{Commit, Drop}
use Rattle.history.specs.declared.journal.Line.{Line}
use Rattle.history.specs.declared.writes.PageImage.{PageImage}
use Rattle.history.specs.History.{History, State as Place, after, now, run}
use Rattle.history.specs.Journal.{after_journal}
use Rattle.history.specs.Lines.{doubt_in}
use Rattle.history.specs.Marks.{newest, oldest}
use Rattle.history.specs.Right.{AreRight, IsRight, MayFollow, WritesRise}
use Rattle.history.proofs.Captures.{run-append}
use Rattle.journal_book.specs.declared.work.Transaction.{Transaction}
use Rattle.race_model.specs.declared.fault.Fault.{Fault}
use Rattle.race_model.specs.Desk.{Desk}
use Rattle.race_model.specs.Fits.{BatchFits, DeskFits}
use Rattle.race_model.specs.Machine.{changed, change_failed}
use Rattle.race_model.specs.Vault.{Batch}
use Rattle.skippy.specs.Mappings.{end_of}
use Rattle.archive.specs.Archive.{Running}
use Rattle.archive.specs.Side.{Side}
use Rattle.desk.specs.declared.desk.RunningDesk.{RunningDesk}
use Rattle.desk.specs.Desk.{ListsLogOf}
use Rattle.redo_log.specs.Side.{LogSide}
use Rattle.store_core.specs.declared.desk_core.Core.{Core}
use Rattle.txn_set.specs.Refused.{leaves_record}
use Rattle.store_core.specs.Core.{IsCore}
use Rattle.store_core.specs.Drops.{IsAllowedDrop, drop_line_refused, drop_refused_by}
use Rattle.txn_set.specs.Ledger.{drop_lines, given_up}
use Rattle.turn.specs.Seats.{opening, seen}
use Rattle.store.specs.declared.carrying.Carried.{Carried}
use Rattle.store.specs.declared.carrying.Carried.TheVariants.{Entered, Laid, There}
use Rattle.store.specs.declared.desk_side.DeskSide.{DeskSide}
use Rattle.store.specs.declared.start.Start.{Start}
use Rattle.store.specs.Calls.{CommitDoes, CommitMakes, refused_so}
use Rattle.store.specs.Carrying.{Carries, IsBatchIn, IsCarried, IsNotCarried, IsToEnter, IsToLay}
use Rattle.store.specs.Crashes.{HoldWorld}
use Rattle.store.specs.Moments.{ArchiveLeft, BesideOpens, CarryOpens, CommitOpens, CutOpens, DeskLeft, DropOpens, EditOpens, KeepsDevices, LeftByArchive, LeftByCore, LookUpOpens, MayDoubt, NoChange, OneChange, PeekOpens, QuietOpens, ReadOpens, SettleOpens, VisitOpens, WriteBackOpens}
use Rattle.store.specs.Opening.{IsHonestlyOpened}
use Rattle.store.specs.RoundCalls.{CutDoes, CutsBelow, DropDoes, SettleDoes, WriteBackDoes, free_bytes}
use Rattle.store.specs.Seats.{ArchiveBeside, DeskSideBeside, Sat, VisitedVault, journal}
use Rattle.store.specs.Start.{IsCoreFrom, IsLaterArchive, IsVaultFrom, Origin}
use Rattle.store.specs.Within.{AtRest, InChange, InCut, InEntering, InLaying, InSettling, InWriteBack, LeftOfDesk, Quiet}
use Rattle.store.proofs.Batches.{vault_goes}
use Rattle.store.proofs.Dropping.{err_is, lines_fault, refused_fault}
use Rattle.store.proofs.Within.{left_opens}

fault_or : (why : Refusal) → IsDiskFault why ⊎ (IsDiskFault why → ⊥)
fault_or (DiskFault device count) = inl tt
fault_or other = inr (λ is. is)

-- ---- a change that was made may follow

right_last : (place : Place) (changes : List Change) (change : Change) → AreRight place.base (changes ++ change ∷ []) → IsRight (run place changes).base change
right_last place [] change right = right.0
right_last place (first ∷ changes) change right = right_last (after place first) changes change right.1

all_last : {X : Type 0} (P : X → Type 0) (xs : List X) (x : X) → AllByRecursion P (xs ++ x ∷ []) → P x
all_last P [] x all = all.0
all_last P (y ∷ xs) x all = all_last P xs x all.1

made_follows : (plain : Desk) (change : Change) → DeskFits plain → DeskFits (changed plain change) → MayFollow (now plain.history).base change
made_follows plain change fits made = record {
  right = subst (λ (s : Place). IsRight s.base change) (sym (run-append plain.history.origin plain.past plain.rest) ∙ ap (run plain.history.origin) fits.log.split)
      (right_last (run plain.history.origin plain.past) plain.rest change made.log.fits.right);
  rises = all_last WritesRise plain.rest change made.log.fits.rises;
}

-- ---- both sides

module _ {D : Type 0} (is_honest : D → Type 0) (state : D → State) (faults : D → ℕ) where
  pub beside_opens : BesideOpens is_honest state faults
  beside_opens side known near origin devices doubt stands begun desk vault =
      left_opens is_honest state side near.archive origin devices doubt (record { begun = begun; stands = stands; vault = near.stands; acked = near.acked }) desk.from vault.from
      (desk.long ∙ (desk.from.is.is.pages.reads (stands.honest.pages.0 begun.honest.pages)).whole) (vault.long ∙ vault.from.is.fills (near.stands.honest.pagelog.0 begun.honest.pagelog)) desk.left vault.left

  module _ (remembers : Type 0) (clock : D → Clock) (only_now : (disk : D) (image : List ℕ) → is_honest disk → (clock disk).left_since (clock disk).moment image → IsImage (state disk) image) where
    -- ---- what a crash leaves of the desk's devices within a visit

    module _ (before after_ : DeskSide D) (origin : Origin) (from : IsCoreFrom is_honest state origin before.core) (log_honest : is_honest before.core.desk.log.disk) (pages_honest : is_honest before.core.desk.pool.file.disk)
        (devices : Four (List ℕ)) (left : LeftByCore clock before.core after_.core devices) where
      record Found (Own : Change → Type 0) : Type 0 where
        doubt : Option Change
        may : MayDoubt (journal before) Own doubt
        desk : DeskLeft is_honest state before origin doubt devices

      log_rests : after_.core.desk.log ≡ before.core.desk.log → IsImage (state before.core.desk.log.disk) devices.log
      log_rests same = only_now before.core.desk.log.disk devices.log log_honest (subst (λ (l : LogSide D). (clock l.disk).left_since (clock before.core.desk.log.disk).moment devices.log) same left.log)

      pages_rest : after_.core.desk.pool.file ≡ before.core.desk.pool.file → IsImage (state before.core.desk.pool.file.disk) devices.pages
      pages_rest same = only_now before.core.desk.pool.file.disk devices.pages pages_honest (subst (λ (f : File D). (clock f.disk).left_since (clock before.core.desk.pool.file.disk).moment devices.pages) same left.pages)

      found_told : {Own : Change → Type 0} → LeftOfDesk state before from.plain devices.log devices.pages (doubt_in (journal before)) → IsAsLong (state before.core.desk.pool.file.disk) devices.pages → Found Own
      found_told some long = record { doubt = doubt_in (journal before); may = inl refl; desk = record { from = from; left = some; long = long } }

      rests : {Own : Change → Type 0} → after_.core.desk.log ≡ before.core.desk.log → after_.core.desk.pool.file ≡ before.core.desk.pool.file → Found Own
      rests log file = let pages = pages_rest file in found_told (AtRest (log_rests log) pages) pages.size

      desk_rests : {Own : Change → Type 0} → after_.core.desk ≡ before.core.desk → Found Own
      desk_rests same = rests (ap (λ (d : RunningDesk D). d.log) same) (ap (λ (d : RunningDesk D). d.pool.file) same)

      core_rests : {Own : Change → Type 0} → after_.core ≡ before.core → Found Own
      core_rests same = desk_rests (ap (λ (c : Core D). c.desk) same)

      -- a call that reads pages at most
      only_reads : {Own : Change → Type 0} → after_.core.desk.log ≡ before.core.desk.log
          → (is_honest before.core.desk.pool.file.disk → LeavesOnly remembers (clock before.core.desk.pool.file.disk) (clock after_.core.desk.pool.file.disk) (IsImage (state before.core.desk.pool.file.disk))) → Found Own
      only_reads log quiet = let pages = (quiet pages_honest).each devices.pages left.pages in found_told (AtRest (log_rests log) pages) pages.size

      writes_back : (who : Who) (result : Result Bool Refusal) → WriteBackDoes is_honest state faults remembers clock who result before.core after_.core → Found NoChange
      writes_back who (Ok true) does =
          let wrote = does.done origin.history from.plain from.is refl in
          found_told (InWriteBack wrote.0 from.plain.acked [] wrote.2 (log_rests does.log) ((does.any_moment origin.history from.plain wrote.0 from.plain.acked [] from.is wrote.1 pages_honest).each devices.pages left.pages))
          ((does.long pages_honest).each devices.pages left.pages)
      writes_back who (Ok false) does = core_rests (does.none origin.history from.plain from.is refl).0
      writes_back who (Err why) does = ⊎_elim
          (λ fault.
          let failed = does.failed origin.history from.plain from.plain.acked from.is fault in
          found_told (InWriteBack failed.0 from.plain.acked [] failed.3 (log_rests does.log) ((does.any_moment origin.history from.plain failed.0 from.plain.acked [] from.is failed.2 pages_honest).each devices.pages left.pages))
          ((does.long pages_honest).each devices.pages left.pages))
          (λ other. desk_rests (does.untouched other)) (fault_or why)

      settles : (who : Who) (result : Result (Unit {0}) Refusal) → SettleDoes is_honest state faults remembers clock who result before.core after_.core → Found NoChange
      settles who result does =
          found_told (InSettling (log_rests does.log) ((does.any_moment origin.history from.plain from.is pages_honest).each devices.pages left.pages)) ((does.long pages_honest).each devices.pages left.pages)

      cuts : (who : Who) (result : Result Bool Refusal) → CutDoes is_honest state faults remembers clock who result before.core after_.core → Found NoChange
      cuts who (Ok true) does =
          let may = (does.done origin.history from.plain from.is refl).0 in
          let pages = pages_rest does.pages in
          found_told (InCut may ((does.any_moment origin.history from.plain from.is may.goes log_honest).each devices.log left.log) pages) pages.size
      cuts who (Ok false) does = core_rests (does.none origin.history from.plain from.is refl).0
      cuts who (Err why) does = ⊎_elim
          (λ fault.
          let may = (does.failed origin.history from.plain from.is fault).0 in
          let pages = pages_rest does.pages in
          found_told (InCut may ((does.any_moment origin.history from.plain from.is may.goes log_honest).each devices.log left.log) pages) pages.size)
          (λ other. desk_rests (does.untouched other)) (fault_or why)

      cuts_below : (who : Who) (bytes : ℕ) (result : Result Bool Refusal) → CutsBelow is_honest state faults remembers clock who bytes result before.core after_.core → Found NoChange
      cuts_below who bytes result does = dite (dec_lt (free_bytes before.core) bytes) (λ short. cuts who result (does.short short)) (λ enough. core_rests (does.enough (omega (arith, enough))).1)

      -- a change of the log that may be made, of which a crash leaves that
      in_change : (change : Change) → MayFollow (now from.plain.history).base change → after_.core.desk.pool.file ≡ before.core.desk.pool.file → ListsLogOf (change_failed from.plain change) devices.log → Found (OneChange change)
      in_change change may file lists =
          let pages = pages_rest file in
          record { doubt = Some change; may = inr (change, refl, refl); desk = record { from = from; left = InChange change may lists pages; long = pages.size } }

      commit_follows : (who : Who) (label : Option (List ℕ)) (t : Transaction) (result : Result (Option ℕ) Refusal) → leaves_record label t.edits ≡ true → CommitMakes is_honest state faults remembers clock who label t result before.core after_.core
          → (after_.core ≡ before.core) ⊎ MayFollow (now from.plain.history).base (Commit label t.edits)
      commit_follows who label t (Ok number) leaves makes =
          let made : IsCore is_honest state origin.history after_.core (changed from.plain (Commit label t.edits)) = subst (λ (b : Bool). IsCore is_honest state origin.history after_.core (cond b (changed from.plain (Commit label t.edits)) from.plain)) leaves (makes.done origin.history from.plain from.is) in
          inr (made_follows from.plain (Commit label t.edits) from.is.fits made.fits)
      commit_follows who label t (Err why) leaves makes = ⊎_elim (λ fault. inr ((makes.failed origin.history from.plain from.is fault).fits.doubt.0)) (λ other. inl (makes.untouched other)) (fault_or why)

      commits_made : (who : Who) (label : Option (List ℕ)) (t : Transaction) (result : Result (Option ℕ) Refusal) → CommitMakes is_honest state faults remembers clock who label t result before.core after_.core → after_.core.desk.pool.file ≡ before.core.desk.pool.file
          → (leaves : Bool) → leaves_record label t.edits ≡ leaves → Found (OneChange (Commit label t.edits))
      commits_made who label t result makes file false none = desk_rests (makes.nothing none).1
      commits_made who label t result makes file true some = ⊎_elim (λ same. core_rests same)
          (λ may. in_change (Commit label t.edits) may file ((makes.any_moment origin.history from.plain from.is some log_honest).each devices.log left.log)) (commit_follows who label t result some makes)

      commits_or : (who : Who) (label : Option (List ℕ)) (t : Transaction) (result : Result (Option ℕ) Refusal) → CommitDoes is_honest state faults remembers clock who label t result before.core after_.core
          → (refused : Option Refusal) → refused_so is_honest state faults before.core t label ≡ refused → Found (OneChange (Commit label t.edits))
      commits_or who label t result does (Some why) is = desk_rests (does.refused why is).1
      commits_or who label t result does None is = commits_made who label t result (does.makes is) does.pages (leaves_record label t.edits) refl

      -- a drop of snapshots, if it drops any
      drop_follows : (who : Who) (below : ℕ) (result : Result (Unit {0}) Refusal) → oldest before.core.desk.base.marks < below → DropDoes is_honest state faults remembers clock who below result before.core after_.core
          → (after_.core.desk ≡ before.core.desk) ⊎ MayFollow (now from.plain.history).base (Drop below)
      drop_follows who below (Ok x) above does =
          let made : IsCore is_honest state origin.history after_.core (changed from.plain (Drop below)) =
          subst (λ (b : Bool). IsCore is_honest state origin.history after_.core (cond b (changed from.plain (Drop below)) from.plain)) (lt-ltb (oldest before.core.desk.base.marks) below above) (does.done origin.history from.plain from.is) in
          inr (made_follows from.plain (Drop below) from.is.fits made.fits)
      drop_follows who below (Err why) above does = ⊎_elim (λ fault. inr ((does.failed origin.history from.plain from.is fault).fits.doubt.0)) (λ other. inl (does.untouched other)) (fault_or why)

      -- a drop that was made, or that a call failed, was allowed
      abbrev IsMade : Result (Unit {0}) Refusal → Type 0
      IsMade (Ok x) = Unit {0}
      IsMade (Err why) = IsDiskFault why

      has_room : (who : Who) (below : ℕ) (result : Result (Unit {0}) Refusal) → IsMade result → DropDoes is_honest state faults remembers clock who below result before.core after_.core
          → (refused : Option Refusal) → drop_line_refused who before.core.ledger ≡ refused → drop_line_refused who before.core.ledger ≡ None
      has_room who below result made does None is = is
      has_room who below (Ok x) made does (Some why) is = absurd (cc (does.dropped.full why is).0)
      has_room who below (Err other) made does (Some why) is = absurd (lines_fault (given_up who before.core.ledger).book (drop_lines who before.core.ledger) (why, is, subst IsDiskFault (err_is (Err other) other why refl (does.dropped.full why is).0) made))

      is_free : (who : Who) (below : ℕ) (result : Result (Unit {0}) Refusal) → IsMade result → DropDoes is_honest state faults remembers clock who below result before.core after_.core → drop_line_refused who before.core.ledger ≡ None
          → (refused : Option Refusal) → drop_refused_by (newest before.core.desk.base.marks) below before.core.ledger ≡ refused → drop_refused_by (newest before.core.desk.base.marks) below before.core.ledger ≡ None
      is_free who below result made does room None is = is
      is_free who below (Ok x) made does room (Some why) is = does.dropped.done.0
      is_free who below (Err other) made does room (Some why) is = ⊎_elim
          (λ told. absurd (refused_fault (newest before.core.desk.base.marks) below before.core.ledger (why, is, subst IsDiskFault told.0 made)))
          (λ memory. absurd (subst IsDiskFault memory.0 made)) (does.dropped.refused why room is)

      allowed : (who : Who) (below : ℕ) (result : Result (Unit {0}) Refusal) → IsMade result → DropDoes is_honest state faults remembers clock who below result before.core after_.core → IsAllowedDrop before.core who below
      allowed who below result made does =
          let room = has_room who below result made does (drop_line_refused who before.core.ledger) refl in
          record { room = room; free = is_free who below result made does room (drop_refused_by (newest before.core.desk.base.marks) below before.core.ledger) refl }

      drops_made : (who : Who) (below : ℕ) (result : Result (Unit {0}) Refusal) → IsMade result → DropDoes is_honest state faults remembers clock who below result before.core after_.core → Found (OneChange (Drop below))
      drops_made who below result made does = dite (dec_lt (oldest before.core.desk.base.marks) below)
          (λ above. ⊎_elim (λ same. desk_rests same)
          (λ may. in_change (Drop below) may does.pages ((does.any_moment origin.history from.plain from.is (allowed who below result made does) above log_honest).each devices.log left.log)) (drop_follows who below result above does))
          (λ low. desk_rests (does.nothing (omega (arith, low)) (allowed who below result made does)).1)

      drops : (who : Who) (below : ℕ) (result : Result (Unit {0}) Refusal) → DropDoes is_honest state faults remembers clock who below result before.core after_.core → Found (OneChange (Drop below))
      drops who below (Ok x) does = drops_made who below (Ok x) tt does
      drops who below (Err why) does = ⊎_elim (λ fault. drops_made who below (Err why) fault does) (λ other. desk_rests (does.untouched other)) (fault_or why)

    -- ---- visits to the desk

    visit_opens : (Does : Core D → Core D → Type 0) (Own : Change → Type 0) →
        ((before after_ : DeskSide D) (origin : Origin) (from : IsCoreFrom is_honest state origin before.core) → is_honest before.core.desk.log.disk → is_honest before.core.desk.pool.file.disk → (devices : Four (List ℕ))
        (left : LeftByCore clock before.core after_.core devices) → Does before.core after_.core
        → (doubt : Option Change) × MayDoubt (journal before) Own doubt × DeskLeft is_honest state before origin doubt devices)
        → VisitOpens is_honest state faults remembers clock Does Own
    visit_opens Does Own found z s0 s1 visit origin devices begun left vault =
        let stands = visit.visited.stands in
        let f = found visit.before visit.after origin (stands.stands origin begun.opened) (stands.honest.log.0 begun.honest.log) (stands.honest.pages.0 begun.honest.pages) devices left visit.does in
        (f.0, f.1, beside_opens visit.before _ visit.visited.beside origin devices f.0 stands begun f.2 vault)

    pub quiet_opens : QuietOpens is_honest state faults remembers clock
    quiet_opens = visit_opens KeepsDevices NoChange (λ before after_ origin from log pages devices left does.
        let f = rests before after_ origin from log pages devices left does.log does.file in (f.doubt, f.may, f.desk))

    pub read_opens : ReadOpens is_honest state faults remembers clock
    read_opens who page bytes out t result = visit_opens _ NoChange (λ before after_ origin from log pages devices left does.
        let f = only_reads before after_ origin from log pages devices left (ap (λ (d : RunningDesk D). d.log) does.rest) does.quiet in (f.doubt, f.may, f.desk))

    pub edit_opens : EditOpens is_honest state faults remembers clock
    edit_opens who page bytes t result = visit_opens _ NoChange (λ before after_ origin from log pages devices left does.
        let f = only_reads before after_ origin from log pages devices left (ap (λ (d : RunningDesk D). d.log) does.rest) does.quiet in (f.doubt, f.may, f.desk))

    pub peek_opens : PeekOpens is_honest state faults remembers clock
    peek_opens page snapshot bytes out result = visit_opens _ NoChange (λ before after_ origin from log pages devices left does.
        let f = only_reads before after_ origin from log pages devices left (ap (λ (d : RunningDesk D). d.log) does.rest) does.quiet in (f.doubt, f.may, f.desk))

    pub write_back_opens : WriteBackOpens is_honest state faults remembers clock
    write_back_opens who result = visit_opens _ NoChange (λ before after_ origin from log pages devices left does.
        let f = writes_back before after_ origin from log pages devices left who result does in (f.doubt, f.may, f.desk))

    pub settle_opens : SettleOpens is_honest state faults remembers clock
    settle_opens who result = visit_opens _ NoChange (λ before after_ origin from log pages devices left does.
        let f = settles before after_ origin from log pages devices left who result does in (f.doubt, f.may, f.desk))

    pub cut_opens : CutOpens is_honest state faults remembers clock
    cut_opens who bytes result = visit_opens _ NoChange (λ before after_ origin from log pages devices left does.
        let f = cuts_below before after_ origin from log pages devices left who bytes result does in (f.doubt, f.may, f.desk))

    pub commit_opens : CommitOpens is_honest state faults remembers clock
    commit_opens who label t result = visit_opens _ (OneChange (Commit label t.edits)) (λ before after_ origin from log pages devices left does.
        let f = commits_or before after_ origin from log pages devices left who label t result does (refused_so is_honest state faults before.core t label) refl in (f.doubt, f.may, f.desk))

    pub drop_opens : DropOpens is_honest state faults remembers clock
    drop_opens who below result = visit_opens _ (OneChange (Drop below)) (λ before after_ origin from log pages devices left does.
        let f = drops before after_ origin from log pages devices left who below result does in (f.doubt, f.may, f.desk))

    -- ---- visits to the vault

    module _ (z : TableId) (s0 s1 : Sat D) (Old New : Running D) (visited : VisitedVault is_honest state faults z s0 s1 Old New) (start : Start D) (is : opening s0 ≡ Some start) (origin : Origin)
        (devices : Four (List ℕ)) (begun : IsHonestlyOpened is_honest state start origin) (left : LeftByArchive clock Old New devices) where
      abbrev Near : DeskSideBeside is_honest state faults Old start (seen s1)
      Near = (visited.beside start is).0

      abbrev Here : History
      Here = after_journal origin.history (journal Near.side)

      begun_there : IsHonestlyOpened is_honest state Near.side.start origin
      begun_there = subst (λ (s : Start D). IsHonestlyOpened is_honest state s origin) (sym Near.begun) begun

      from_vault : IsVaultFrom is_honest state (is_honest Near.side.start.core.value.desk.pool.file.disk) origin (journal Near.side) Old
      from_vault = Near.vault.stands origin begun_there.opened

      slots_honest : is_honest Old.pagelog.disk
      slots_honest = Near.vault.honest.pagelog.0 begun_there.honest.pagelog

      maplog_honest : is_honest Old.side.disk
      maplog_honest = Near.vault.honest.maplog.0 begun_there.honest.maplog

      slots_rest : New.pagelog ≡ Old.pagelog → IsImage (state Old.pagelog.disk) devices.pagelog
      slots_rest same = only_now Old.pagelog.disk devices.pagelog slots_honest (subst (λ (f : File D). (clock f.disk).left_since (clock Old.pagelog.disk).moment devices.pagelog) same left.pagelog)

      maplog_rests : New.side ≡ Old.side → IsImage (state Old.side.disk) devices.maplog
      maplog_rests same = only_now Old.side.disk devices.maplog maplog_honest (subst (λ (x : Side D). (clock x.disk).left_since (clock Old.side.disk).moment devices.maplog) same left.maplog)

      archive_rests : IsImage (state Old.pagelog.disk) devices.pagelog → New.side ≡ Old.side → ArchiveLeft is_honest state Old Near.side origin devices
      archive_rests slots same = record { from = from_vault; left = Quiet slots (maplog_rests same); long = slots.size }

      abbrev near_archive : ArchiveBeside is_honest state faults Near.side 0
      near_archive = record {
        archive = Old;
        stands = Near.vault;
        later = subst (λ (s : Start D). IsLaterArchive faults s.archive.value Old) (sym Near.begun) (visited.later start is);
        acked = Near.acked;
        held = omega arith;
      }

      opens_there : (doubt : Option Change) → ArchiveLeft is_honest state Old Near.side origin devices → DeskLeft is_honest state Near.side origin doubt devices → HoldWorld origin.log devices Here doubt
      opens_there doubt archive desk = beside_opens Near.side 0 near_archive origin devices doubt Near.stands begun_there desk archive

      -- where a page was looked up
      looked_left : New ≡ record Old { pagelog = New.pagelog } → (is_honest Old.pagelog.disk → OnlyReads remembers state clock Old.pagelog.disk New.pagelog.disk) → ArchiveLeft is_honest state Old Near.side origin devices
      looked_left same quiet = archive_rests ((quiet slots_honest).any_moment.each devices.pagelog left.pagelog) (ap (λ (a : Running D). a.side) same)

      -- with a batch
      module _ (batch : Batch) (is_batch : IsBatchIn is_honest state start (seen s1) Old.side.held batch) where
        batch_fits : BatchFits Here batch
        batch_fits =
            let b = is_batch.fits origin begun.opened in
            subst (λ (l : List Line). BatchFits (after_journal origin.history l) batch) (sym (visited.beside start is).1)
            (subst (λ (images : List PageImage). BatchFits (after_journal origin.history (seen s1)) (record batch { images = images })) (b.bytes begun.honest.pages) b.fits)

        first_is : Old.side.held ≤ batch.first → batch.first ≡ end_of from_vault.vault.mappings
        first_is none = let known = is_batch.known in let held = from_vault.is.mapped.shows.end in omega (arith, none, known, held)

        archive_quiet : New ≡ Old → ArchiveLeft is_honest state Old Near.side origin devices
        archive_quiet same = archive_rests (slots_rest (ap (λ (a : Running D). a.pagelog) same)) (ap (λ (a : Running D). a.side) same)

        module _ (result : Result Carried Fault) (carries : Carries is_honest state faults remembers clock batch result Old New) where
          archive_laying : IsToLay batch Old → New.side ≡ Old.side → ArchiveLeft is_honest state Old Near.side origin devices
          archive_laying to same = record {
            from = from_vault;
            left = InLaying batch batch_fits (vault_goes is_honest state Old from_vault.vault from_vault.is to.0.goes) (record { first = first_is to.0.none })
                ((carries.laying from_vault.vault from_vault.is to slots_honest).each devices.pagelog left.pagelog) (maplog_rests same);
            long = (carries.long to slots_honest).each devices.pagelog left.pagelog;
          }

          archive_entering : IsToEnter batch Old → New.pagelog ≡ Old.pagelog → ArchiveLeft is_honest state Old Near.side origin devices
          archive_entering to same =
              let slots = slots_rest same in
              let laid = from_vault.is.laid in let enough = to.1 in
              record {
                from = from_vault;
                left = InEntering batch batch_fits (record { first = first_is to.0.none; laid = omega (arith, laid, enough) }) slots ((carries.entering from_vault.vault from_vault.is to maplog_honest).each devices.maplog left.maplog);
                long = slots.size;
              }

          refused_left : (why : Refusal) → IsNotCarried faults batch Old New why → ArchiveLeft is_honest state Old Near.side origin devices
          refused_left (Stopped device count) so = archive_quiet so.2
          refused_left OutOfMemory so = archive_entering so.0 so.1
          refused_left (DiskFault device count) so = ⊎_elim (λ lay. archive_laying lay.0 lay.1) (λ enter. archive_entering enter.0 enter.1) so
          refused_left _ so = absurd so

          archive_left : (r : Result Carried Fault) → MatchResult r (IsCarried batch Old New) (λ fault. IsNotCarried faults batch Old New fault.why) → ArchiveLeft is_honest state Old Near.side origin devices
          archive_left (Ok There) done = archive_quiet done.1
          archive_left (Ok Laid) done = archive_laying done.0 done.1
          archive_left (Ok (Entered count)) done = archive_entering done.0 done.1
          archive_left (Err fault) so = refused_left fault.why so

    pub carry_opens : CarryOpens is_honest state faults remembers clock
    carry_opens batch result z s0 s1 visit start is origin devices doubt begun left desk =
        opens_there z s0 s1 visit.before visit.after visit.visited start is origin devices begun left doubt
        (archive_left z s0 s1 visit.before visit.after visit.visited start is origin devices begun left batch (visit.is_batch start is) result visit.carries result visit.carries.outcome) desk

    pub look_up_opens : LookUpOpens is_honest state faults remembers clock
    look_up_opens z s0 s1 visit start is origin devices doubt begun left desk =
        opens_there z s0 s1 visit.before visit.after visit.visited start is origin devices begun left doubt
        (looked_left z s0 s1 visit.before visit.after visit.visited start is origin devices begun left visit.same visit.quiet) desk
