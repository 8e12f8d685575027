-- Commits, as the desk is asked for them.
use Rattle.std.specs.Prelude.{◌≡◌, false, ℕ, List, Option, Some, None, Result, is_some, MatchResult, if◌then◌else◌}
use Rattle.disk_model.specs.Disk.{State}
use Rattle.history.specs.Lines.{first_stop}
use Rattle.history.specs.declared.entry.Change.TheVariants.{Commit}
use Rattle.history.specs.declared.journal.FailedCall.TheVariants.{Append}
use Rattle.history.specs.declared.writes.PageImage.{PageImage}
use Rattle.retro_base.specs.declared.refusal.Refusal.{Refusal}
use Rattle.retro_base.specs.declared.who.Who.{Who}
use Rattle.history.specs.History.{now}
use Rattle.history.specs.Right.{MayFollow}
use Rattle.records.specs.declared.entry.Entry.{Entry}
use Rattle.records.specs.declared.entry.Entry.TheVariants as entries
use Rattle.race_model.specs.Desk.{Desk}
use Rattle.race_model.specs.Fits.{DeskFits}
use Rattle.race_model.specs.Machine.{changed}
use Rattle.records.specs.Entries.{LabelFits}
use Rattle.desk.specs.declared.desk.RunningDesk.{RunningDesk}
use Rattle.desk.specs.Desk.{IsDesk}
use Rattle.journal_book.specs.declared.work.Transaction.{Transaction}
use Rattle.journal_book.specs.declared.work.Work.TheVariants.{Open}
use Rattle.journal_book.specs.Works.{work_at}
use Rattle.txn_set.specs.declared.ledger.Ledger.{Ledger}
use Rattle.txn_set.specs.Ledger.{committed, taken}
use Rattle.txn_set.specs.Refused.{commit_refused, counts_of, leaves_record}
use Rattle.store_core.specs.declared.desk_core.Core.{Core}
use Rattle.store_core.specs.Calls.{failed_at}

-- the entry is a commit
abbrev pub IsCommit : Entry → Type 0
IsCommit (entries.Change (Commit label writes)) = Unit {0}
IsCommit _ = ⊥

-- the running desk is a plain one that goes on, behind which the commit may follow
pub record IsMayCommit {D : Type 0} (is_honest : D → Type 0) (state : D → State) (running : RunningDesk D)
    (plain : Desk) (label : Option (List ℕ)) (writes : List PageImage) : Type 0 where
  pub is : IsDesk is_honest state running plain
  pub fits : DeskFits plain
  pub goes : plain.stopped ≡ false
  pub follows : MayFollow (now plain.history).base (Commit label writes)

-- the transaction is the open one of the session, and its commit is not refused
pub record IsAllowed {D : Type 0} (core : Core D) (who : Who) (label : Option (List ℕ)) (t : Transaction) : Type 0 where
  pub is_open : work_at core.ledger.works.slots who.session ≡ Some (Open t)
  pub free : commit_refused (first_stop core.ledger.book.lines)
      (counts_of core.desk.base t.edits) core.ledger.book.lines t (is_some label) ≡ None

-- the transaction is the open one of the session, and its commit is refused so
pub record IsRefusedSo {D : Type 0} (core : Core D) (who : Who) (label : Option (List ℕ)) (t : Transaction)
    (why : Refusal) : Type 0 where
  pub is_open : work_at core.ledger.works.slots who.session ≡ Some (Open t)
  pub is : commit_refused (first_stop core.ledger.book.lines)
      (counts_of core.desk.base t.edits) core.ledger.book.lines t (is_some label) ≡ Some why

-- a transaction of the item is open, and its commit is not refused
pub record MayCommitAs {D : Type 0} (core : Core D) (who : Who) (label : Option (List ℕ)) : Type 0 where
  pub transaction : Transaction
  pub is_of : transaction.who ≡ who
  pub fits : LabelFits label
  pub allowed : IsAllowed core who label transaction

-- the ledger behind a commit that was not refused before it took any memory
abbrev pub HasEnded : {T : Type 0} → Who → Option (List ℕ) → Transaction → Ledger → Ledger → Result T Refusal → Type 0
HasEnded who label t old new result =
    MatchResult result (λ _. new ≡ committed who label t.edits (taken who old))
    (λ why. new ≡ failed_at (Append (Commit label t.edits)) who why old)

-- the plain desk behind a commit
abbrev pub desk_behind : Desk → Option (List ℕ) → List PageImage → Desk
desk_behind plain label writes = if leaves_record label writes then changed plain (Commit label writes) else plain
