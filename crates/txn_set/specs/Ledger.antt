-- The journal with the works of the sessions, behind each call.
use Rattle.std.specs.Prelude.{◌≡◌, ◌⊎◌, ◌≤◌, ◌+◌, ◌++◌, ◌==◌, ◌&&◌, ℕ, Bool, true, false, not, is_some}
use Rattle.std.specs.Prelude.{List, [], ◌∷◌, length, Option, Some, None, Result, Ok, Err, if◌then◌else◌}
use Rattle.retro_base.specs.declared.device.Device.{Device}
use Rattle.retro_base.specs.declared.limits.TheConstants.{WORKER_LINES}
use Rattle.retro_base.specs.declared.refusal.Refusal.{Refusal}
use Rattle.retro_base.specs.declared.refusal.Refusal.TheVariants.{DiskFault, OutOfMemory, Overlap, TooManyPages}
use Rattle.retro_base.specs.declared.who.Who.{Who}
use Rattle.history.specs.declared.entry.Change.{Change}
use Rattle.history.specs.declared.journal.FailedCall.{FailedCall}
use Rattle.history.specs.declared.journal.FailedCall.TheVariants.{Append, Read}
use Rattle.history.specs.declared.journal.Line.{Line}
use Rattle.history.specs.declared.journal.What.{What}
use Rattle.history.specs.declared.journal.What.TheVariants.{Done, Fault, Overlapped, RolledBack, Refused, Unlooked}
use Rattle.history.specs.declared.writes.PageImage.{PageImage}
use Rattle.txn_set.specs.declared.ending.Ending.{Ending}
use Rattle.txn_set.specs.declared.ending.Ending.TheVariants as ending
use Rattle.txn_set.specs.declared.ledger.Ledger.{Ledger}
use Rattle.journal_book.specs.declared.work.Look.{Look}
use Rattle.journal_book.specs.declared.work.Transaction.{Transaction}
use Rattle.journal_book.specs.declared.work.Work.{Work}
use Rattle.journal_book.specs.declared.work.Work.TheVariants.{Open, Looking, KeptDrop}
use Rattle.journal_book.specs.Book.{closing_with, giving_up, noting}
use Rattle.journal_book.specs.Works.{keeping_refusal, work_at, working}

-- nothing so far
abbrev pub no_lines : ℕ → Ledger
no_lines pages = record {
  book = record { pages = pages; lines = []; kept = 0; workers = WORKER_LINES };
  works = record { pages = pages; slots = [] };
}

abbrev pub line_of : Who → What → Line
line_of who what = record { who = who; what = what }

-- the line that closes a transaction which keeps this refusal, if any
abbrev pub closing : Option Refusal → Ending → What
closing (Some (Overlap session item)) why = Overlapped session item
closing (Some (DiskFault device count)) why = Fault device count Read
closing (Some other) why = Refused other
closing None ending.Asked = RolledBack
closing None (ending.Refused why) = Refused why
closing None (ending.Failed device count) = Fault device count Read

-- the line that ends a look
abbrev pub ended : Ending → What
ended ending.Asked = Unlooked
ended (ending.Refused why) = Refused why
ended (ending.Failed device count) = Fault device count Read

-- whether a transaction keeps such a refusal, and answers it from then on
abbrev pub is_kept : Refusal → Bool
is_kept (DiskFault device count) = true
is_kept (Overlap session item) = true
is_kept (TooManyPages needed) = true
is_kept _ = false

abbrev pub kept_behind : Refusal → Transaction → Transaction
kept_behind why t = if is_kept why then keeping_refusal why t else t

-- a transaction of this item is open, or a look
pub record IsOpenAs (slots : List (Option Work)) (who : Who) : Type 0 where
  pub transaction : Transaction
  pub open_there : work_at slots who.session ≡ Some (Open transaction)
  pub is_of : transaction.who ≡ who

pub record IsLookingAs (slots : List (Option Work)) (who : Who) : Type 0 where
  pub look : Look
  pub open_there : work_at slots who.session ≡ Some (Looking look)
  pub is_of : look.who ≡ who

-- whether the session keeps the line of a drop in this phase, or in another one
abbrev pub keeps_drop : Who → Option Work → Bool
keeps_drop who (Some (KeptDrop other)) = other.phase == who.phase
keeps_drop who _ = false

abbrev pub keeps_other_drop : Who → Option Work → Bool
keeps_other_drop who (Some (KeptDrop other)) = not (other.phase == who.phase)
keeps_other_drop who _ = false

-- whether nothing is open
abbrev pub is_closed : Option Work → Bool
is_closed (Some (Open transaction)) = false
is_closed (Some (Looking look)) = false
is_closed _ = true

abbrev pub IsKeptDrop : Option Work → Type 0
IsKeptDrop (Some (KeptDrop who)) = Unit {0}
IsKeptDrop _ = ⊥

-- whether a session may open something in this phase: nothing is open, nor kept in this phase
abbrev pub is_idle : Who → Option Work → Bool
is_idle who work = is_closed work && not (keeps_drop who work)

-- without the line that the session keeps for a drop
abbrev pub gives_up : ℕ → Ledger → Ledger
gives_up session ledger = record { book = giving_up ledger.book 1; works = working ledger.works session None }

-- without the line that the session keeps for a drop in another phase, if any
abbrev pub given_up : Who → Ledger → Ledger
given_up who ledger =
    if keeps_other_drop who (work_at ledger.works.slots who.session) then gives_up who.session ledger else ledger

-- with this line, which opens the work, and a place kept for the line that closes it
abbrev pub opened : Who → What → Work → Ledger → Ledger
opened who what work ledger = record {
  book = record ledger.book { lines = ledger.book.lines ++ line_of who what ∷ []; kept = ledger.book.kept + 1 };
  works = working ledger.works who.session (Some work);
}

-- a transaction that begins behind these lines
abbrev pub fresh : Who → List Line → Work
fresh who lines = Open (record {
  who = who;
  began = length lines;
  edits = [];
  reads = record { keys = [] };
  kept = None;
})

abbrev pub looking : Who → List Line → List ℕ → Work
looking who lines pins = Looking (record { who = who; began = length lines; pins = pins })

-- with this line, which closes what the session has
abbrev pub closed : Who → What → Ledger → Ledger
closed who what ledger = record {
  book = closing_with ledger.book (line_of who what);
  works = working ledger.works who.session None;
}

-- with a line that neither opens nor closes
abbrev pub with_told_line : Who → What → Ledger → Ledger
with_told_line who what ledger = record ledger {
  book = record ledger.book { lines = ledger.book.lines ++ line_of who what ∷ [] };
}

-- with this transaction as what its session has
abbrev pub with_open : Who → Transaction → Ledger → Ledger
with_open who t ledger = record ledger { works = working ledger.works who.session (Some (Open t)) }

-- while its transaction is out for a commit
abbrev pub taken : Who → Ledger → Ledger
taken who ledger = record ledger { works = working ledger.works who.session None }

-- with the line of a commit whose transaction was taken out
abbrev pub committed : Who → Option (List ℕ) → List PageImage → Ledger → Ledger
committed who label writes ledger = record ledger { book = closing_with ledger.book (line_of who (Done label writes)) }

-- with the line of a fault at which the change of a transaction that was taken out came into doubt
abbrev pub doubted : Who → Device → ℕ → Change → Ledger → Ledger
doubted who device count change ledger = record ledger {
  book = closing_with ledger.book (line_of who (Fault device count (Append change)));
}

-- refused so, and its line told; or for want of memory, and nothing told
abbrev pub IsRefusedWith : Ledger → Ledger → Refusal → Result (Unit {0}) Refusal → Ledger → Type 0
IsRefusedWith old told why (Ok x) new = ⊥
IsRefusedWith old told why (Err other) new = ((other ≡ why) × (new ≡ told)) ⊎ ((other ≡ OutOfMemory) × (new ≡ old))

-- how many lines a drop needs: none where the session keeps one in this phase
abbrev pub drop_lines : Who → Ledger → ℕ
drop_lines who ledger = if keeps_drop who (work_at ledger.works.slots who.session) then 0 else 1

-- a fault has its line: that of what the session has, or a worker's
abbrev pub MayFault : Who → Ledger → Type 0
MayFault who ledger = is_some (work_at ledger.works.slots who.session) ≡ false → 1 ≤ ledger.book.workers

-- with a place kept for the line of a drop
abbrev pub keeping_drop : Who → Ledger → Ledger
keeping_drop who ledger = record {
  book = record ledger.book { kept = ledger.book.kept + 1 };
  works = working ledger.works who.session (Some (KeptDrop who));
}

-- with the line of a fault, which closes what the session has, or is a worker's
abbrev pub faulted : Who → Device → ℕ → FailedCall → Ledger → Ledger
faulted who device count call ledger =
    if is_some (work_at ledger.works.slots who.session) then closed who (Fault device count call) ledger
    else record ledger { book = noting ledger.book (line_of who (Fault device count call)) }

abbrev pub drop_kept : Who → Ledger → Ledger
drop_kept who ledger =
    if keeps_drop who (work_at ledger.works.slots who.session) then ledger else keeping_drop who (given_up who ledger)
