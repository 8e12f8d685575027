-- What the calls of a seat leave, in the terms of the law: its own lines fit.
use Rattle.std.specs.Prelude.{◌≡◌, ◌++◌, ℕ, List, [], ◌∷◌, Option, Some, Ok}
use Rattle.retro_base.specs.declared.refusal.Refusal.{Refusal}
use Rattle.retro_base.specs.declared.who.Who.{Who}
use Rattle.history.specs.declared.entry.Mark.{Mark as MarkOf}
use Rattle.history.specs.declared.journal.Line.{Line}
use Rattle.history.specs.declared.journal.What.{What}
use Rattle.history.specs.declared.journal.What.TheVariants.{Began, Looked, LookedAll}
use Rattle.history.specs.History.{written}
use Rattle.journal_law.specs.Facts.{Fits, OwnFit}
use Rattle.journal_law.specs.Language.{AsOf, Commit, DropBelow, End, Language, OverAll, Transaction}
use Rattle.journal_law.specs.Lawful.{Ground, MeetsLimit}
use Rattle.journal_law.specs.LinesFit.{Answers, LookAt, kind_at, opened_by}
use Rattle.journal_law.specs.Own.{SinceLine, line, own}
use Rattle.journal_law.specs.Pages.{Pages}
use Rattle.journal_law.specs.Seats.{Agree, Attempt, BeginGives, CommitGives, DropGives, Look, LookAllGives}
use Rattle.journal_law.specs.Seats.{LookGives, Moves, UnlookGives, View, at_began, lines_before}
use Rattle.journal_law.specs.declared.seat.Ending.TheVariants as ending

module _ (L : Language) (items : Who → Option L.Item) where
  -- each line of the seat's own fits what stands before it
  abbrev pub Sane : View → Type 0
  Sane view = OwnFit L items view.opened view.session [] view.front

  -- an item of the seat's session
  pub record IsOwn (view : View) (who : Who) (item : L.Item) : Type 0 where
    pub mine : who.session ≡ view.session
    pub is : items who ≡ Some item

  -- the statements of an item make of any pages that agree with those at the attempt's Began where it read, and hold
  -- tables, by its edits, pages that hold the tables behind them
  abbrev pub Makes : View → Attempt → L.Item → Type 0
  Makes view a item = (pages : Pages) (tables : L.Tables) → Agree a.read pages (at_began view a)
      → L.IsStored pages tables → L.IsStored (written pages a.edits) (L.after item tables)

  pub record SeatsSuffice : Type 0 where
    -- others' lines leave the own ones as they were
    pub waits : (old new : View) → Moves old new [] → Sane old → Sane new
    pub adds : (old new : View) (who : Who) (what : What) (moves : Moves old new (line who what ∷ []))
        → Fits L items old.opened (lines_before old new moves) (line who what) → Sane old → Sane new
    -- an attempt has begun, with the lines before its Began
    pub begin : (old new : View) (who : Who) (item : L.Item) (end : End) → IsOwn old who item
        → L.kind item ≡ Transaction end → BeginGives who old new (Ok tt) → Sane old
        → Sane new × ((since : List Line) × SinceLine who Began new.front since [])
    pub commit : (old new : View) (a : Attempt) (item : L.Item) (label : Option (List ℕ)) (number : Option ℕ)
        → IsOwn old a.who item → L.kind item ≡ Transaction (Commit label)
        → Makes old a item → CommitGives label old new a (Ok number) → Sane old → Sane new
    pub look : (old new : View) (who : Who) (item : L.Item) (n : ℕ) → IsOwn old who item → L.kind item ≡ AsOf n
        → LookGives who n old new (Ok tt) → Sane old
        → Sane new × ((since : List Line) × SinceLine who (Looked n) new.front since [])
    pub look_all : (old new : View) (who : Who) (item : L.Item) (marks : List MarkOf) → IsOwn old who item
        → L.kind item ≡ OverAll → LookAllGives who old new (Ok marks) → Sane old
        → Sane new × ((since : List Line) × SinceLine who LookedAll new.front since [])
    -- a look ends with its answer
    pub unlook : (old new : View) (l : Look) (item : L.Item) (look : LookAt) (since rest : List Line) (text : List ℕ)
        → IsOwn old l.who item → L.kind item ≡ kind_at look
        → SinceLine l.who (opened_by look) old.front since rest → Answers L old.opened item since (Ok text)
        → UnlookGives ending.Asked old new l → Sane old → Sane new
    pub drop : (old new : View) (who : Who) (item : L.Item) (below : ℕ) → IsOwn old who item
        → L.kind item ≡ DropBelow below → DropGives who below old new (Ok tt) → Sane old → Sane new
    -- what a commit met stays a limit that the attempt met
    pub limit : (ground : Ground) (who : Who) (item : L.Item) (label : Option (List ℕ)) (why : Refusal)
        (front more : List Line) → MeetsLimit L ground who front item label why → own who more ≡ []
        → MeetsLimit L ground who (front ++ more) item label why
