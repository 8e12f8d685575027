-- What each call of a round, and of a drop, does to the core that it finds.
use Rattle.std.specs.Prelude.{◌≡◌, ◌≤◌, ◌<◌, ◌-◌, ◌↔◌, ℕ, Bool, true, false, List, [], length}
use Rattle.std.specs.Prelude.{max, drop, None, Result, Ok, IfErr, IfOk, MatchResult, OnOk}
use Rattle.disk_model.specs.Disk.{State}
use Rattle.disk_model.specs.Moments.{Clock, LeavesOnly}
use Rattle.block_file.specs.Blocks.{IsAsLong, SameFile}
use Rattle.retro_base.specs.Cause.{IsFault}
use Rattle.retro_base.specs.declared.device.Device.{Device}
use Rattle.retro_base.specs.declared.device.Device.TheVariants.{Log, Pages}
use Rattle.retro_base.specs.declared.limits.TheConstants.{LOG_REGION_BYTES}
use Rattle.retro_base.specs.declared.refusal.Refusal.{Refusal}
use Rattle.retro_base.specs.declared.refusal.Refusal.TheVariants.{OutOfMemory}
use Rattle.retro_base.specs.declared.who.Who.{Who}
use Rattle.gate_log.specs.Cause.{IsDiskFault}
use Rattle.history.specs.declared.journal.FailedCall.{FailedCall}
use Rattle.history.specs.Lines.{is_write}
use Rattle.history.specs.declared.entry.Change.TheVariants.{Drop}
use Rattle.history.specs.History.{History}
use Rattle.history.specs.Marks.{newest, oldest}
use Rattle.race_model.specs.Desk.{Desk}
use Rattle.race_model.specs.Machine.{MayCut, MayWrite, acked_to, change_failed, cut, cut_failed}
use Rattle.race_model.specs.Machine.{settled, stopped, write_failed, written_desk}
use Rattle.race_model.specs.Vault.{Batch}
use Rattle.records.specs.Entries.{change_bytes}
use Rattle.redo_log.specs.Cause.{IsMemoryOrFault}
use Rattle.desk.specs.Cause.{IsChangeRefusal, IsWriteRefusal}
use Rattle.desk.specs.Desk.{HoldsPagesOf, ListsLogOf}
use Rattle.desk.specs.Steps.{IsLeastWritable, NoneWritable, next_of}
use Rattle.txn_set.specs.Ledger.{faulted}
use Rattle.store_core.specs.declared.desk_core.Core.{Core}
use Rattle.store_core.specs.Calls.{dropped_behind, failed}
use Rattle.store_core.specs.Core.{IsCore, StaysCore}
use Rattle.store_core.specs.Drops.{HasDropped, IsAllowedDrop, without_drop}

-- The first 64 of the captures that are pending, or all, are offered; none exactly where none is.
pub record Offers {D : Type 0} (before batch : Batch) (some : Bool) (old new : Core D) : Type 0 where
  pub same : new ≡ old
  pub offered : some ≡ true → batch ≡ next_of old.desk.base old.desk.queue
  pub none : some ≡ false → (old.desk.queue.images ≡ []) × (batch ≡ before)

-- the ledger behind a call of a worker: a fault has its line
abbrev pub HasServed : {D T : Type 0} → Who → Core D → Core D → Result T Refusal → Type 0
HasServed who old new result =
    MatchResult result (λ _. new.ledger ≡ old.ledger) (λ why. new.ledger ≡ failed who why old.ledger)

-- how many bytes of the log's half are free
abbrev pub free_bytes : {D : Type 0} → Core D → ℕ
free_bytes core = LOG_REGION_BYTES - core.desk.log.log.area.log.gate

module _ {D : Type 0} (is_honest : D → Type 0) (state : D → State) where
  -- The archive is known to hold the captures below a receipt's count.
  pub record AckDoes (receipt : ℕ) (old new : Core D) : Type 0 where
    pub ledger : new.ledger ≡ old.ledger
    pub queue : new.desk
        ≡ record old.desk {
          queue = record {
            first = max old.desk.queue.first receipt;
            images = drop (receipt - old.desk.queue.first) old.desk.queue.images;
          };
        }
    pub done : (opening : History) (plain : Desk) → IsCore is_honest state opening old plain →
        IsCore is_honest state opening new (acked_to plain receipt)

  -- The line of a fault that another device met stands, and the desk has stopped where it met a write or a sync.
  pub record NoteDoes (who : Who) (device : Device) (count : ℕ) (call : FailedCall) (old new : Core D) : Type 0 where
    pub log : new.desk.log ≡ old.desk.log
    pub file : new.desk.pool.file ≡ old.desk.pool.file
    pub ledger : new.ledger ≡ faulted who device count call old.ledger
    pub stops : (opening : History) (plain : Desk) → IsCore is_honest state opening old plain →
        is_write call ≡ true → IsCore is_honest state opening new (stopped plain)
    pub quiet : is_write call ≡ false → StaysCore is_honest state old new

  -- The session gives up the line that it keeps for a drop, if any.
  pub record GivesUpDrop (who : Who) (old new : Core D) : Type 0 where
    pub desk : new.desk ≡ old.desk
    pub ledger : new.ledger ≡ without_drop who.session old.ledger
    pub stays : StaysCore is_honest state old new

  module _ (faults : D → ℕ) (remembers : Type 0) (clock : D → Clock) where
    -- The least dirty page all of whose captures are acknowledged is written back; false exactly where there is
    -- none. It is refused, in this order, after the first fault, and exactly where a call of the pages' device
    -- failed: then the fault has its line. A crash at any moment leaves pages as a writing that fails, as long as they
    -- were.
    pub record WriteBackDoes (who : Who) (result : Result Bool Refusal) (old new : Core D) : Type 0 where
      pub log : new.desk.log ≡ old.desk.log
      pub same : SameFile is_honest old.desk.pool.file new.desk.pool.file
      pub cause : MatchResult result
          (λ _. (old.desk.stop ≡ None) × (faults new.desk.pool.file.disk ≡ faults old.desk.pool.file.disk))
          (IsWriteRefusal old.desk.stop
          (IsFault Pages (faults old.desk.pool.file.disk) (faults new.desk.pool.file.disk)))
      pub ledger : HasServed who old new result
      pub untouched : IfErr result (λ why. (IsDiskFault why → ⊥) → new.desk ≡ old.desk)
      pub done : (opening : History) (plain : Desk) → IsCore is_honest state opening old plain →
          IfOk result (λ wrote. wrote ≡ true → (page : ℕ) × IsLeastWritable plain page × MayWrite plain page plain.acked
          × ((need : ℕ) → MayWrite plain page need → IsCore is_honest state opening new (written_desk plain page need)))
      pub none : (opening : History) (plain : Desk) → IsCore is_honest state opening old plain →
          IfOk result (λ wrote. wrote ≡ false → (new ≡ old) × NoneWritable plain)
      pub failed : (opening : History) (plain : Desk) (need : ℕ) → IsCore is_honest state opening old plain →
          IfErr result (λ why. IsDiskFault why → (page : ℕ) × (left : List ℕ) × IsLeastWritable plain page
          × MayWrite plain page plain.acked
          × (MayWrite plain page need → IsCore is_honest state opening new (write_failed plain page need left)))
      pub any_moment : (opening : History) (plain : Desk) (page need : ℕ) (left : List ℕ) →
          IsCore is_honest state opening old plain → IsLeastWritable plain page → is_honest old.desk.pool.file.disk →
          LeavesOnly remembers (clock old.desk.pool.file.disk) (clock new.desk.pool.file.disk)
          (HoldsPagesOf (write_failed plain page need left))
      pub long : is_honest old.desk.pool.file.disk →
          LeavesOnly remembers (clock old.desk.pool.file.disk) (clock new.desk.pool.file.disk)
          (IsAsLong (state old.desk.pool.file.disk))

    -- The pages are made durable. The refusals are those of a page written back.
    pub record SettleDoes (who : Who) (result : Result (Unit {0}) Refusal) (old new : Core D) : Type 0 where
      pub log : new.desk.log ≡ old.desk.log
      pub same : SameFile is_honest old.desk.pool.file new.desk.pool.file
      pub cause : MatchResult result
          (λ _. (old.desk.stop ≡ None) × (faults new.desk.pool.file.disk ≡ faults old.desk.pool.file.disk))
          (IsWriteRefusal old.desk.stop
          (IsFault Pages (faults old.desk.pool.file.disk) (faults new.desk.pool.file.disk)))
      pub ledger : HasServed who old new result
      pub untouched : IfErr result (λ why. (IsDiskFault why → ⊥) → new.desk ≡ old.desk)
      pub done : (opening : History) (plain : Desk) → IsCore is_honest state opening old plain →
          OnOk result (IsCore is_honest state opening new (settled plain))
      pub failed : (opening : History) (plain : Desk) → IsCore is_honest state opening old plain →
          IfErr result (λ why. IsDiskFault why → IsCore is_honest state opening new (stopped plain))
      pub any_moment : (opening : History) (plain : Desk) → IsCore is_honest state opening old plain →
          is_honest old.desk.pool.file.disk →
          LeavesOnly remembers (clock old.desk.pool.file.disk) (clock new.desk.pool.file.disk)
          (HoldsPagesOf (stopped plain))
      pub long : is_honest old.desk.pool.file.disk →
          LeavesOnly remembers (clock old.desk.pool.file.disk) (clock new.desk.pool.file.disk)
          (IsAsLong (state old.desk.pool.file.disk))

    -- The log is cut to what it says now; false exactly where a page is dirty or not settled, or a capture is
    -- pending. It is refused, in this order, after the first fault; for want of memory; and exactly where a call of
    -- the log's device failed: then the fault has its line.
    pub record CutDoes (who : Who) (result : Result Bool Refusal) (old new : Core D) : Type 0 where
      pub pages : new.desk.pool.file ≡ old.desk.pool.file
      pub honest : is_honest old.desk.log.disk ↔ is_honest new.desk.log.disk
      pub cause : MatchResult result
          (λ _. (old.desk.stop ≡ None) × (faults new.desk.log.disk ≡ faults old.desk.log.disk))
          (IsWriteRefusal old.desk.stop (IsMemoryOrFault Log (faults old.desk.log.disk) (faults new.desk.log.disk)))
      pub ledger : HasServed who old new result
      pub untouched : IfErr result (λ why. (IsDiskFault why → ⊥) → new.desk ≡ old.desk)
      pub done : (opening : History) (plain : Desk) → IsCore is_honest state opening old plain →
          IfOk result (λ was_cut. was_cut ≡ true → MayCut plain × IsCore is_honest state opening new (cut plain))
      pub none : (opening : History) (plain : Desk) → IsCore is_honest state opening old plain →
          IfOk result (λ was_cut. was_cut ≡ false → (new ≡ old) × (MayCut plain → ⊥))
      pub failed : (opening : History) (plain : Desk) → IsCore is_honest state opening old plain →
          IfErr result (λ why. IsDiskFault why → MayCut plain × IsCore is_honest state opening new (cut_failed plain))
      pub any_moment : (opening : History) (plain : Desk) → IsCore is_honest state opening old plain →
          plain.stopped ≡ false → is_honest old.desk.log.disk →
          LeavesOnly remembers (clock old.desk.log.disk) (clock new.desk.log.disk) (ListsLogOf (cut_failed plain))

    -- So many bytes are free of its half, or else it is cut so: false where they are not and it may not be cut.
    pub record CutsBelow (who : Who) (bytes : ℕ) (result : Result Bool Refusal) (old new : Core D) : Type 0 where
      pub enough : bytes ≤ free_bytes old → (result ≡ Ok true) × (new ≡ old)
      pub short : free_bytes old < bytes → CutDoes who result old new

    -- The snapshots below a number are dropped, for a session that has nothing open. JournalFull comes first, where
    -- the drop's line finds no room; then the desk's stop, a number of no snapshot, and a pinned snapshot, each with
    -- a line that says so; then want of memory, which gives the drop's line up; NoRoom, which keeps it; and exactly
    -- where a call of the log's device failed the line is the fault's.
    pub record DropDoes (who : Who) (below : ℕ) (result : Result (Unit {0}) Refusal) (old new : Core D) : Type 0 where
      pub pages : new.desk.pool.file ≡ old.desk.pool.file
      pub honest : is_honest old.desk.log.disk ↔ is_honest new.desk.log.disk
      pub names : old.desk.log.log.area.log.device ≡ Log
      pub dropped : HasDropped who below (newest old.desk.base.marks) old.ledger new.ledger result
      pub cause : IsAllowedDrop old who below → MatchResult result
          (λ _. faults new.desk.log.disk ≡ faults old.desk.log.disk)
          (IsChangeRefusal old.desk.log.log.area.log (length (change_bytes old.desk.log.log.version (Drop below)))
          (faults old.desk.log.disk) (faults new.desk.log.disk))
      pub untouched : IfErr result (λ why. (IsDiskFault why → ⊥) → new.desk ≡ old.desk)
      pub nothing : below ≤ oldest old.desk.base.marks → IsAllowedDrop old who below →
          IfErr result (λ why. why ≡ OutOfMemory) × (new.desk ≡ old.desk)
      pub done : (opening : History) (plain : Desk) → IsCore is_honest state opening old plain →
          OnOk result (IsCore is_honest state opening new (dropped_behind (oldest old.desk.base.marks) below plain))
      pub failed : (opening : History) (plain : Desk) → IsCore is_honest state opening old plain →
          IfErr result (λ why. IsDiskFault why → IsCore is_honest state opening new (change_failed plain (Drop below)))
      pub stays : IfErr result (λ why. (IsDiskFault why → ⊥) → StaysCore is_honest state old new)
      pub any_moment : (opening : History) (plain : Desk) → IsCore is_honest state opening old plain →
          IsAllowedDrop old who below → oldest old.desk.base.marks < below → is_honest old.desk.log.disk →
          LeavesOnly remembers (clock old.desk.log.disk) (clock new.desk.log.disk)
          (ListsLogOf (change_failed plain (Drop below)))
