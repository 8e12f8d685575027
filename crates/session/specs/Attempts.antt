-- What the lines of attempts leave, in any language.
use Rattle.std.specs.Prelude.{◌≡◌, ◌++◌, ℕ, zero, suc, false, List, [], ◌∷◌, Option, Some}
use Rattle.std.specs.List.{AllByRecursion}
use Rattle.retro_base.specs.declared.refusal.Refusal.{Refusal}
use Rattle.retro_base.specs.declared.refusal.Refusal.TheVariants as refusal
use Rattle.retro_base.specs.declared.who.Who.{Who}
use Rattle.history.specs.declared.journal.FailedCall.TheVariants.{Read}
use Rattle.history.specs.declared.journal.Line.{Line}
use Rattle.history.specs.declared.journal.What.{What}
use Rattle.history.specs.declared.journal.What.TheVariants.{Began, Done, Overlapped, RolledBack, Refused, Fault}
use Rattle.journal_law.specs.Facts.{Fits}
use Rattle.journal_law.specs.Fates.{IsReply}
use Rattle.journal_law.specs.Language.{End, Language, Transaction}
use Rattle.journal_law.specs.Lawful.{Ground, IsLimit, IsOverlapBy}
use Rattle.journal_law.specs.LinesFit.{IsAbove}
use Rattle.journal_law.specs.Own.{SinceBegan, line, own}
use Rattle.journal_law.specs.Pages.{page_world}
use Rattle.journal_law.specs.Seating.{Sane}
use Rattle.journal_law.specs.Seats.{Attempt, Idle, Open, View}
use Rattle.journal_law.specs.declared.seat.Ending.{Ending}
use Rattle.journal_law.specs.declared.seat.Ending.TheVariants as ending
use Rattle.session.specs.OneItem.{OfItem}

-- ---- how an attempt ends

-- the line of an attempt that ends by this refusal
abbrev pub line_of : Refusal → What
line_of (refusal.Overlap session item) = Overlapped session item
line_of (refusal.DiskFault device count) = Fault device count Read
line_of why = Refused why

-- what a rollback is asked for so that the attempt ends so: an overlap is kept, and goes before what is asked
abbrev pub ending_of : Refusal → Ending
ending_of (refusal.Overlap session item) = ending.Asked
ending_of why = ending.Refused why

-- an attempt that ends so is the last one of its item
abbrev pub IsLastEnd : What → Type 0
IsLastEnd (Done label writes) = Unit {0}
IsLastEnd RolledBack = Unit {0}
IsLastEnd (Refused why) = Unit {0}
IsLastEnd (Fault device count call) = Unit {0}
IsLastEnd what = ⊥

-- so many attempts that overlapped
abbrev pub AreOverlaps : ℕ → List What → Type 0
AreOverlaps zero [] = Unit {0}
AreOverlaps (suc attempts) (Began ∷ Overlapped session item ∷ whats) = AreOverlaps attempts whats
AreOverlaps attempts whats = ⊥

-- an attempt at the item is open
pub record IsTrying (who : Who) (view : View) : Type 0 where
  pub attempt : Attempt
  pub is_open : view.work ≡ Open attempt
  pub is_who : attempt.who ≡ who
  pub rest : List Line
  pub began : SinceBegan who view.front attempt.since rest

module _ (L : Language) (items : Who → Option L.Item) where
  -- the seat has moved on: its session has added lines of this item alone, which say this, and its lines fit
  pub record Added (who : Who) (old new : View) (whats : List What) : Type 0 where
    pub session : new.session ≡ old.session
    pub opened : new.opened ≡ old.opened
    pub more : List Line
    pub front : new.front ≡ old.front ++ more
    pub of_item : AllByRecursion (OfItem who) more
    pub says : own who more ≡ whats
    pub fits : Sane L items new

  -- an attempt has ended by this line, and this is the item's reply
  pub record Ended (who : Who) (item : L.Item) (old new : View) (what : What) (text : List ℕ) : Type 0 where
    pub added : Added who old new (what ∷ [])
    pub idle : new.work ≡ Idle
    pub told : IsReply L items new.opened.pages who item new.front text

  -- what is known where an attempt that began behind these lines ends by this refusal: it overlapped another item, or
  -- the fault is new, or, whatever tables the pages held at its beginning, it met that limit
  abbrev pub EndsBy : Ground → Who → List Line → List Line → L.Item → End → Refusal → Type 0
  EndsBy ground who since before item end (refusal.Overlap session number) = IsOverlapBy who before session number
  EndsBy ground who since before item end (refusal.DiskFault device count) = IsAbove ground device count
  EndsBy ground who since before item end why =
      (tables : L.Tables) → L.IsStored (page_world ground.pages since).current tables →
      IsLimit L ground who before item end why

  -- an overlap with an item that had an attempt open fits
  abbrev pub OverlapsFit : Type 0
  OverlapsFit = (ground : Ground) (before : List Line) (who : Who) (item : L.Item) (end : End) (session number : ℕ) →
      items who ≡ Some item → L.kind item ≡ Transaction end → IsOverlapBy who before session number →
      Fits L items ground before (line who (Overlapped session number))
