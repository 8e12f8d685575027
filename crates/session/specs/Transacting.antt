-- What running a transaction leaves, attempt by attempt.
use Rattle.std.specs.Prelude.{◌≡◌, ◌++◌, ℕ, Bool, true, false, List, [], ◌∷◌, Option, Some, None, Result, Ok, Err}
use Rattle.retro_base.specs.declared.refusal.Refusal.{Refusal}
use Rattle.retro_base.specs.declared.refusal.Refusal.TheVariants as refusal
use Rattle.retro_base.specs.declared.who.Who.{Who}
use Rattle.tables.specs.Tables.{Tables}
use Rattle.script.specs.declared.structure.Transaction.{Transaction as TransactionRecord}
use Rattle.sql_exec.specs.Stored.{IsStored}
use Rattle.history.specs.declared.journal.What.{What}
use Rattle.history.specs.declared.journal.What.TheVariants as said
use Rattle.journal_law.specs.Fates.{IsReply}
use Rattle.journal_law.specs.Pages.{Pages as Bytes}
use Rattle.journal_law.specs.Seating.{Sane}
use Rattle.journal_law.specs.Seats.{Agree, Attempt, Idle, View, at_began}
use Rattle.seat_pager.specs.Laws.{unedited}
use Rattle.seat_pager.specs.Transaction.{HasReasons, under}
use Rattle.session.specs.Plan.{Item}
use Rattle.session.specs.declared.plan.Task.TheVariants.{Transaction}
use Rattle.session.specs.Sql.{sql}
use Rattle.session.specs.Statements.{Lines}
use Rattle.session.specs.Wording.{refusal_text}
use Rattle.session.specs.Attempts.{Added, AreOverlaps, IsLastEnd, IsTrying, OverlapsFit}
use Rattle.session.specs.LinesRun.{LinesGiveOver}
use Rattle.session.specs.declared.attempt.Tried.{Tried}
use Rattle.session.specs.declared.attempt.Tried.TheVariants as tried

-- the item that runs a transaction in a phase whose sessions have these names
abbrev pub item_for : List (List ℕ) → TransactionRecord → Item
item_for names t = record { names = names; task = Transaction t }

-- ---- texts

-- the attempt was its item's last, and this is the reply, or there was no memory for it
abbrev pub IsText : List ℕ → Tried → Type 0
IsText text (tried.Ended told) = told.items ≡ text
IsText text tried.Untold = Unit {0}
IsText text result = ⊥

-- the attempt ended by this refusal: an overlap is told to the next attempt, each other one is the reply
abbrev pub IsRefused : List (List ℕ) → Refusal → Tried → Type 0
IsRefused names (refusal.Overlap session item) (tried.Overlapped other number) = (other ≡ session) × (number ≡ item)
IsRefused names (refusal.Overlap session item) result = ⊥
IsRefused names why result = IsText (refusal_text names why) result

abbrev pub is_fault : Refusal → Bool
is_fault (refusal.DiskFault device count) = true
is_fault why = false

-- the session and the item of an overlap
abbrev pub overlap_of : Refusal → Option (ℕ × ℕ)
overlap_of (refusal.Overlap session item) = Some (session, item)
overlap_of why = None

-- the refusal that the attempt keeps goes before what its lines gave
abbrev pub ends_so : Result (Unit {0}) Refusal → Option Refusal → Result (Unit {0}) Refusal
ends_so ran None = ran
ends_so ran (Some why) = Err why

-- ---- one attempt

-- nothing is open any more
pub record HasEnded (old new : View) : Type 0 where
  pub idle : new.work ≡ Idle
  pub session : new.session ≡ old.session

-- the seat stands so that the item's lines will fit
pub record Stands (size : ℕ) (items : Who → Option Item) (who : Who) (item : Item) (view : View) : Type 0 where
  pub mine : who.session ≡ view.session
  pub is_item : items who ≡ Some item
  pub sized : view.opened.base.page_count ≡ size
  pub fits : Sane (sql size) items view

-- an attempt of the item has just begun
pub record HasBegun (who : Who) (view : View) : Type 0 where
  pub trying : IsTrying who view
  pub edits : trying.attempt.edits ≡ []

-- what statement lines give in an attempt, over whatever pages agree with those that it read and hold tables
abbrev pub HaveRun : ℕ → Lines → View → Attempt → Option ℕ → List ℕ → Result (Unit {0}) Refusal → Type 0
HaveRun size lines view a asked text result = (pages : Bytes) (tables : Tables) → Agree a.read pages (at_began view a) →
    IsStored size (unedited pages) tables →
    LinesGiveOver size lines (unedited pages) tables (under (unedited pages) asked a.edits) text result

-- the statement lines of the item have run in an attempt that keeps no refusal, and the text has their replies
pub record HasRun (size : ℕ) (items : Who → Option Item) (who : Who) (item : Item) (lines : Lines) (view : View)
    (text : List ℕ) : Type 0 where
  pub stands : Stands size items who item view
  pub overlaps : OverlapsFit (sql size) items
  pub trying : IsTrying who view
  pub asked : Option ℕ
  pub reasons : HasReasons (record { view = view; kept = None; asked = asked })
  pub ran : HaveRun size lines view trying.attempt asked text (Ok tt)

-- what is told of an attempt that has ended
abbrev pub IsTried : ℕ → (Who → Option Item) → Who → Item → View → Tried → Type 0
IsTried size items who item new (tried.Ended text) =
    IsReply (sql size) items new.opened.pages who item new.front text.items
IsTried size items who item new (tried.Overlapped session number) =
    IsReply (sql size) items new.opened.pages who item new.front
    (refusal_text item.names (refusal.Overlap session number))
IsTried size items who item new result = Unit {0}

-- the line by which the attempt ended
abbrev pub EndsSo : Tried → What → Type 0
EndsSo (tried.Ended text) what = IsLastEnd what
EndsSo (tried.Overlapped session number) what = what ≡ said.Overlapped session number
EndsSo tried.Untold what = IsLastEnd what
EndsSo tried.NotBegun what = ⊥

-- an open attempt has ended
pub record AttemptEnds (size : ℕ) (items : Who → Option Item) (who : Who) (item : Item) (old new : View)
    (result : Tried) : Type 0 where
  pub what : What
  pub added : Added (sql size) items who old new (what ∷ [])
  pub idle : new.work ≡ Idle
  pub ends : EndsSo result what
  pub told : IsTried size items who item new result

-- ---- attempts, one after the other

-- an attempt adds no line where it was not begun, else its Began and the line by which it ended
abbrev pub AreTry : Tried → List What → Type 0
AreTry tried.NotBegun whats = whats ≡ []
AreTry result whats = (what : What) × (whats ≡ said.Began ∷ what ∷ []) × EndsSo result what

-- one attempt, from its beginning
pub record HasTriedOnce (size : ℕ) (items : Who → Option Item) (who : Who) (item : Item) (old new : View)
    (result : Tried) : Type 0 where
  pub whats : List What
  pub added : Added (sql size) items who old new whats
  pub idle : new.work ≡ Idle
  pub are : AreTry result whats
  pub told : IsTried size items who item new result

-- the lines of so many attempts behind which this one came last
pub record AreTries (attempts : ℕ) (result : Tried) (whats : List What) : Type 0 where
  pub before : List What
  pub overlaps : AreOverlaps attempts before
  pub once : List What
  pub is_once : AreTry result once
  pub whole : whats ≡ before ++ once

-- one attempt behind so many that overlapped
pub record HasTried (size : ℕ) (items : Who → Option Item) (who : Who) (item : Item) (old new : View) (attempts : ℕ)
    (result : Tried) : Type 0 where
  pub whats : List What
  pub added : Added (sql size) items who old new whats
  pub idle : new.work ≡ Idle
  pub are : AreTries attempts result whats
  pub told : IsTried size items who item new result

-- what is told of a transaction by its last attempt
abbrev pub IsAnswer : List (List ℕ) → Tried → Option (List ℕ) → Type 0
IsAnswer names (tried.Ended text) (Some told) = told ≡ text.items
IsAnswer names (tried.Overlapped session number) (Some told) =
    told ≡ refusal_text names (refusal.Overlap session number)
IsAnswer names tried.NotBegun None = Unit {0}
IsAnswer names result told = ⊥

-- the bytes of what is told
abbrev pub text_told : {Text : Type 0} → (Text → List ℕ) → Option Text → Option (List ℕ)
text_told bytes None = None
text_told bytes (Some text) = Some (bytes text)

abbrev pub is_overlapped : Tried → Bool
is_overlapped (tried.Overlapped session number) = true
is_overlapped result = false
