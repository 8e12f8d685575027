-- What each call does to the core that it finds.
use Rattle.std.specs.Prelude.{◌≡◌, ◌↔◌, ℕ, List, length, map, Option, Some, None, is_some, true, false}
use Rattle.std.specs.Prelude.{Result, Err, IfErr, IfOk, IsOk, MatchResult, OnErr, OnOk, if◌then◌else◌}
use Rattle.disk_model.specs.Disk.{IsImage, State}
use Rattle.disk_model.specs.Moments.{Clock, LeavesOnly}
use Rattle.block_file.specs.Blocks.{SameFile}
use Rattle.retro_base.specs.declared.refusal.Refusal.TheVariants.{OutOfMemory}
use Rattle.retro_base.specs.declared.device.Device.TheVariants.{Log, Pages}
use Rattle.retro_base.specs.declared.refusal.Refusal.{Refusal}
use Rattle.retro_base.specs.declared.who.Who.{Who}
use Rattle.gate_log.specs.Cause.{IsDiskFault}
use Rattle.history.specs.declared.entry.Change.TheVariants.{Commit}
use Rattle.history.specs.declared.journal.What.TheVariants.{Began, LookedAll}
use Rattle.history.specs.declared.entry.Mark.{Mark}
use Rattle.history.specs.History.{History, now}
use Rattle.history.specs.Lines.{first_stop}
use Rattle.history.specs.Marks.{newest, oldest, start_of}
use Rattle.history.specs.Writes.{is_among}
use Rattle.journal_book.specs.declared.work.Transaction.{Transaction}
use Rattle.journal_book.specs.Works.{editing, own_edit, reading}
use Rattle.race_model.specs.Desk.{Desk}
use Rattle.race_model.specs.Machine.{change_failed}
use Rattle.race_model.specs.Reading.{told_of}
use Rattle.retro_base.specs.Cause.{FaultsAlone}
use Rattle.records.specs.Entries.{change_bytes}
use Rattle.redo_log.specs.Cause.{IsMemoryOrFault}
use Rattle.desk.specs.Cause.{IsChangeRefusal}
use Rattle.desk.specs.Desk.{ListsLogOf}
use Rattle.desk.specs.Steps.{SameButPages}
use Rattle.txn_set.specs.declared.ending.Ending.{Ending}
use Rattle.txn_set.specs.Ledger.{closed, closing, ended, fresh, kept_behind, looking, with_open}
use Rattle.txn_set.specs.Refused.{commit_refused, counts_of, edit_refused, leaves_record, read_refused}
use Rattle.store_core.specs.declared.copying.Peeked.{Peeked}
use Rattle.store_core.specs.declared.desk_core.Core.{Core}
use Rattle.store_core.specs.Calls.{HasAnswered, HasLooked, HasOpened}
use Rattle.store_core.specs.Commits.{HasEnded, desk_behind}
use Rattle.store_core.specs.Core.{IsCore, StaysCore}

module _ {D : Type 0} (is_honest : D → Type 0) (state : D → State) where
  -- A transaction of the item begins. JournalFull comes exactly where its two lines find no room, else want of
  -- memory alone.
  pub record BeginDoes (who : Who) (result : Result (Unit {0}) Refusal) (old new : Core D) : Type 0 where
    pub desk : new.desk ≡ old.desk
    pub begun : HasOpened who Began (fresh who old.ledger.book.lines) old.ledger new.ledger result
    pub stays : StaysCore is_honest state old new

  -- The item's transaction is closed; the refusal that it keeps goes before the reason that is given.
  pub record RollbackDoes (who : Who) (why : Ending) (t : Transaction) (old new : Core D) : Type 0 where
    pub rest : SameButPages old.desk new.desk
    pub file : new.desk.pool.file ≡ old.desk.pool.file
    pub closed : new.ledger ≡ closed who (closing t.kept why) old.ledger
    pub stays : StaysCore is_honest state old new

  -- A look at a snapshot is opened, and its start answered. JournalFull comes first; then a number of no snapshot
  -- that is retained is refused, with a line that says so; else want of memory alone.
  pub record LookDoes (who : Who) (number : ℕ) (result : Result ℕ Refusal) (old new : Core D) : Type 0 where
    pub desk : new.desk ≡ old.desk
    pub looked : HasLooked who number (oldest old.desk.base.marks)
        (newest old.desk.base.marks) old.ledger new.ledger result
    pub start : IfOk result (λ start. start ≡ start_of number old.desk.base.marks)
    pub stays : StaysCore is_honest state old new

  -- A look at all retained snapshots is opened, and they are answered in rising number. JournalFull comes exactly
  -- where its two lines find no room, else want of memory alone.
  pub record LookAllDoes (who : Who) (result : Result (List Mark) Refusal) (old new : Core D) : Type 0 where
    pub desk : new.desk ≡ old.desk
    pub looked : HasOpened who LookedAll
        (looking who old.ledger.book.lines (map (λ mark. mark.number) old.desk.base.marks)) old.ledger new.ledger result
    pub marks : IfOk result (λ marks. marks ≡ old.desk.base.marks)
    pub stays : StaysCore is_honest state old new

  -- The item's look is ended.
  pub record UnlookDoes (who : Who) (why : Ending) (old new : Core D) : Type 0 where
    pub desk : new.desk ≡ old.desk
    pub closed : new.ledger ≡ closed who (ended why) old.ledger
    pub stays : StaysCore is_honest state old new

  module _ (faults : D → ℕ) where
    -- how often calls of the two devices have failed
    abbrev pub log_faults : Core D → ℕ
    log_faults core = faults core.desk.log.disk

    abbrev pub page_faults : Core D → ℕ
    page_faults core = faults core.desk.pool.file.disk

    -- A page is read for the item's transaction t: its own edit, or else the page behind the journal. It is refused
    -- for what t keeps; where another item changed the page since t began; exactly where a call of the pages'
    -- device failed; and for want of memory, but not where the page was read before. Behind each other
    -- refusal the buffer is as before.
    pub record ReadDoes (remembers : Type 0) (clock : D → Clock) (who : Who) (page : ℕ) (before after : List ℕ)
        (t : Transaction) (result : Result (Unit {0}) Refusal) (old new : Core D) : Type 0 where
      pub refused : (why : Refusal) → read_refused old.ledger.book.lines t page ≡ Some why →
          (result ≡ Err why) × (new.desk ≡ old.desk)
      pub err : IfErr result (λ why. (why ≡ OutOfMemory → ⊥) → after ≡ before)
      pub answered : HasAnswered who t (reading page t)
          (read_refused old.ledger.book.lines t page) old.ledger new.ledger result
      pub cause : read_refused old.ledger.book.lines t page ≡ None →
          MatchResult result (λ _. page_faults new ≡ page_faults old)
          (IsMemoryOrFault Pages (page_faults old) (page_faults new))
      pub own : (bytes : List ℕ) → own_edit page t.edits ≡ Some bytes → OnOk result (after ≡ bytes)
      pub current : (opening : History) (plain : Desk) → IsCore is_honest state opening old plain →
          is_honest old.desk.pool.file.disk → own_edit page t.edits ≡ None →
          OnOk result (after ≡ (now plain.history).pages page)
      pub read_before : read_refused old.ledger.book.lines t page ≡ None → is_among page t.reads.keys ≡ true →
          IfErr result IsDiskFault
      pub rest : SameButPages old.desk new.desk
      pub same : SameFile is_honest old.desk.pool.file new.desk.pool.file
      pub quiet : is_honest old.desk.pool.file.disk →
          LeavesOnly remembers (clock old.desk.pool.file.disk) (clock new.desk.pool.file.disk)
          (IsImage (state old.desk.pool.file.disk))
      pub stays : StaysCore is_honest state old new

    -- The transaction t edits a page. It is refused for what t keeps; for the holder of the page's latch; where
    -- another item changed the page since t began; where it would be the 1,025th page; exactly where a call of the
    -- pages' device failed; and for want of memory.
    pub record EditDoes (remembers : Type 0) (clock : D → Clock) (who : Who) (page : ℕ) (bytes : List ℕ)
        (t : Transaction) (result : Result (Unit {0}) Refusal) (old new : Core D) : Type 0 where
      pub refused : (why : Refusal) → edit_refused old.ledger.book.lines old.ledger.works.slots t page ≡ Some why →
          (result ≡ Err why) × (new.desk ≡ old.desk)
      pub answered : HasAnswered who t (editing (record { page = page; bytes = bytes }) t)
          (edit_refused old.ledger.book.lines old.ledger.works.slots t page) old.ledger new.ledger result
      pub cause : edit_refused old.ledger.book.lines old.ledger.works.slots t page ≡ None →
          MatchResult result (λ _. page_faults new ≡ page_faults old)
          (IsMemoryOrFault Pages (page_faults old) (page_faults new))
      pub rest : SameButPages old.desk new.desk
      pub same : SameFile is_honest old.desk.pool.file new.desk.pool.file
      pub quiet : is_honest old.desk.pool.file.disk →
          LeavesOnly remembers (clock old.desk.pool.file.disk) (clock new.desk.pool.file.disk)
          (IsImage (state old.desk.pool.file.disk))
      pub stays : StaysCore is_honest state old new

    -- A reader of a page as of a pinned snapshot is told the bytes that the page had at its first pending capture
    -- from the snapshot's start on, else the page as it is, and how many captures are acknowledged. The only
    -- refusal is a fault of the pages' device.
    pub record PeekDoes (remembers : Type 0) (clock : D → Clock) (page snapshot : ℕ) (before after : List ℕ)
        (result : Result Peeked Refusal) (old new : Core D) : Type 0 where
      pub cause : FaultsAlone Pages (page_faults old) (page_faults new) result
      pub upto : IfOk result (λ peeked. peeked.acked ≡ old.desk.queue.first)
      pub told : (opening : History) (plain : Desk) → IsCore is_honest state opening old plain →
          is_honest old.desk.pool.file.disk →
          IfOk result
          (λ peeked. (after ≡ (told_of plain snapshot page).bytes)
          × (peeked.acked ≡ (told_of plain snapshot page).upto))
      pub err : OnErr result (after ≡ before)
      pub ledger : new.ledger ≡ old.ledger
      pub rest : SameButPages old.desk new.desk
      pub same : SameFile is_honest old.desk.pool.file new.desk.pool.file
      pub quiet : is_honest old.desk.pool.file.disk →
          LeavesOnly remembers (clock old.desk.pool.file.disk) (clock new.desk.pool.file.disk)
          (IsImage (state old.desk.pool.file.disk))
      pub stays : StaysCore is_honest state old new

    -- why a commit of t is refused before it takes any memory
    abbrev pub refused_so : Core D → Transaction → Option (List ℕ) → Option Refusal
    refused_so core t label =
        commit_refused (first_stop core.ledger.book.lines) (counts_of core.desk.base t.edits) core.ledger.book.lines t
        (is_some label)

    -- A commit of t that is not refused so. Its edits and its mark stand in the journal and on the log's device; or
    -- it is refused for want of memory, or where the log has no room, and all is as it was; or exactly where a call
    -- of that device failed, and then it is in doubt. One of neither edit nor mark is done, and touches no device.
    pub record CommitMakes (remembers : Type 0) (clock : D →
        Clock) (who : Who) (label : Option (List ℕ)) (t : Transaction) (result : Result (Option ℕ) Refusal)
        (old new : Core D) : Type 0 where
      pub ended : HasEnded who label t old.ledger new.ledger result
      pub cause : MatchResult result (λ _. log_faults new ≡ log_faults old)
          (IsChangeRefusal old.desk.log.log.area.log
          (length (change_bytes old.desk.log.log.version (Commit label t.edits))) (log_faults old) (log_faults new))
      pub untouched : IfErr result (λ why. (IsDiskFault why → ⊥) → new ≡ old)
      pub nothing : leaves_record label t.edits ≡ false → IsOk result × (new.desk ≡ old.desk)
      pub done : (opening : History) (plain : Desk) → IsCore is_honest state opening old plain →
          OnOk result (IsCore is_honest state opening new (desk_behind plain label t.edits))
      pub failed : (opening : History) (plain : Desk) → IsCore is_honest state opening old plain →
          IfErr result (λ why. IsDiskFault why →
          IsCore is_honest state opening new (change_failed plain (Commit label t.edits)))
      pub any_moment : (opening : History) (plain : Desk) → IsCore is_honest state opening old plain →
          leaves_record label t.edits ≡ true → is_honest old.desk.log.disk →
          LeavesOnly remembers (clock old.desk.log.disk) (clock new.desk.log.disk)
          (ListsLogOf (change_failed plain (Commit label t.edits)))

    -- A commit of the item's transaction t answers the number that it declares.
    pub record CommitDoes (remembers : Type 0) (clock : D →
        Clock) (who : Who) (label : Option (List ℕ)) (t : Transaction) (result : Result (Option ℕ) Refusal)
        (old new : Core D) : Type 0 where
      pub pages : new.desk.pool.file ≡ old.desk.pool.file
      pub honest : is_honest old.desk.log.disk ↔ is_honest new.desk.log.disk
      pub names : old.desk.log.log.area.log.device ≡ Log
      pub refused : (why : Refusal) → refused_so old t label ≡ Some why →
          (result ≡ Err why) × (new.desk ≡ old.desk) × (new.ledger ≡ with_open who (kept_behind why t) old.ledger)
          × StaysCore is_honest state old new
      pub number : IfOk result (λ number. number ≡ (if is_some label then Some (newest new.desk.base.marks) else None))
      pub makes : refused_so old t label ≡ None → CommitMakes remembers clock who label t result old new
