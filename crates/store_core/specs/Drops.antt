-- Drops of snapshots, as the desk is asked for them.
use Rattle.std.specs.Prelude.{if◌then◌else◌, ◌≡◌, ◌⊎◌, ℕ, Bool, true, false}
use Rattle.std.specs.Prelude.{Option, Some, None, Result, Err, IfErr, OnOk}
use Rattle.retro_base.specs.declared.refusal.Refusal.{Refusal}
use Rattle.retro_base.specs.declared.refusal.Refusal.TheVariants.{OutOfMemory}
use Rattle.retro_base.specs.declared.who.Who.{Who}
use Rattle.history.specs.Lines.{first_stop}
use Rattle.history.specs.declared.entry.Change.TheVariants.{Drop}
use Rattle.history.specs.declared.journal.FailedCall.TheVariants.{Append}
use Rattle.history.specs.declared.journal.What.TheVariants as whats
use Rattle.history.specs.Marks.{newest}
use Rattle.journal_book.specs.declared.work.Work.{Work}
use Rattle.journal_book.specs.declared.work.Work.TheVariants.{KeptDrop}
use Rattle.journal_book.specs.Book.{lines_refused}
use Rattle.journal_book.specs.Works.{work_at}
use Rattle.txn_set.specs.declared.ledger.Ledger.{Ledger}
use Rattle.txn_set.specs.Ledger.{closed, drop_kept, drop_lines, given_up, gives_up}
use Rattle.txn_set.specs.Refused.{drop_refused}
use Rattle.store_core.specs.declared.desk_core.Core.{Core}
use Rattle.store_core.specs.Calls.{failed_at}

-- Why a drop's line is refused: it finds no room behind what the session gives up. A line that is kept counts once.
abbrev pub drop_line_refused : Who → Ledger → Option Refusal
drop_line_refused who ledger = lines_refused (given_up who ledger).book (drop_lines who ledger)

-- why a drop is refused that has its line, where this is the newest snapshot
abbrev pub drop_refused_by : ℕ → ℕ → Ledger → Option Refusal
drop_refused_by newest below ledger = drop_refused (first_stop ledger.book.lines) newest below ledger.works.slots

-- the drop finds its line, and nothing refuses it
pub record IsAllowedDrop {D : Type 0} (core : Core D) (who : Who) (below : ℕ) : Type 0 where
  pub room : drop_line_refused who core.ledger ≡ None
  pub free : drop_refused_by (newest core.desk.base.marks) below core.ledger ≡ None

-- A drop that had its line was refused: for want of memory it gives the line up, else keeps it, or has the fault's.
pub record HasEndedDrop (who : Who) (below : ℕ) (why : Refusal) (kept new : Ledger) : Type 0 where
  pub memory : why ≡ OutOfMemory → new ≡ gives_up who.session kept
  pub other : (why ≡ OutOfMemory → ⊥) → new ≡ failed_at (Append (Drop below)) who why kept

-- A drop of the snapshots below a number, where this is the newest one. JournalFull comes exactly where its line finds
-- no room. Then it is refused where it may not be, with a line that says so. Else its own line tells it, or it was
-- refused, and keeps its line, or gives it up for want of memory.
pub record HasDropped {T : Type 0} (who : Who) (below newest : ℕ) (old new : Ledger) (result : Result T Refusal) :
    Type 0 where
  pub full : (why : Refusal) → drop_line_refused who old ≡ Some why → (result ≡ Err why) × (new ≡ given_up who old)
  pub refused : (why : Refusal) → drop_line_refused who old ≡ None → drop_refused_by newest below old ≡ Some why →
      IfErr result (λ other. ((other ≡ why) × (new ≡ closed who (whats.Refused why) (drop_kept who old)))
      ⊎ ((other ≡ OutOfMemory) × (new ≡ given_up who old)))
  pub done : OnOk result ((drop_refused_by newest below old ≡ None)
      × (new ≡ closed who (whats.Dropped below) (drop_kept who old)))
  pub kept : drop_line_refused who old ≡ None → drop_refused_by newest below old ≡ None →
      IfErr result (λ why. HasEndedDrop who below why (drop_kept who old) new
      ⊎ ((why ≡ OutOfMemory) × (new ≡ given_up who old)))

-- whether this is the line of a drop that is kept, in whatever phase
abbrev pub is_kept_drop : Option Work → Bool
is_kept_drop (Some (KeptDrop who)) = true
is_kept_drop _ = false

-- without the line that the session keeps for a drop, if any
abbrev pub without_drop : ℕ → Ledger → Ledger
without_drop session ledger =
    if is_kept_drop (work_at ledger.works.slots session) then gives_up session ledger else ledger
