-- What sessions need of the pagers of their seats.
use Rattle.std.specs.Prelude.{◌≡◌, ◌++◌, ℕ, false, List, Option, None, Result, Ok}
use Rattle.retro_base.specs.declared.refusal.Refusal.{Refusal}
use Rattle.retro_base.specs.declared.who.Who.{Who}
use Rattle.history.specs.declared.journal.Line.{Line}
use Rattle.journal_law.specs.Facts.{AreOthers}
use Rattle.journal_law.specs.Language.{Language}
use Rattle.journal_law.specs.Lawful.{IsOverlapBy}
use Rattle.journal_law.specs.Pages.{Pages as Bytes}
use Rattle.journal_law.specs.Seating.{Makes}
use Rattle.journal_law.specs.Seats.{Attempt, BeginGives, Look, Looking, Open, View, at_began, at_look}
use Rattle.journal_law.specs.World.{as_of}
use Rattle.pager.specs.Pages.{Pages}
use Rattle.seat_pager.specs.Past.{Shows}
use Rattle.seat_pager.specs.Transaction.{HasReasons, Tells, under}

-- the store's pages, of which none is edited
abbrev pub unedited : Bytes → Pages
unedited bytes = record { at = bytes; edited = λ page. false }

-- what stands where a session makes a pager of the seat that has just begun
abbrev pub NothingIsKept : Type 0
NothingIsKept = (who : Who) (old new : View) → who.session ≡ old.session → BeginGives who old new (Ok tt)
    → HasReasons (record { view = new; kept = None; asked = None })

-- an overlap stays one while others add lines
abbrev pub OverlapsStay : Type 0
OverlapsStay = (who : Who) (front others : List Line) (session item : ℕ) → AreOthers who.session others
    → IsOverlapBy who front session item → IsOverlapBy who (front ++ others) session item

-- the pages at the attempt's Began are one base, under which the edits are shown
abbrev pub ShownAtBegan : Type 0
ShownAtBegan = (view : View) (asked : Option ℕ) (a : Attempt) → view.work ≡ Open a
    → Tells view asked (unedited (at_began view a)) (under (unedited (at_began view a)) asked a.edits)

-- the pages as of the snapshot are shown
abbrev pub ShownAsOf : Type 0
ShownAsOf = (view : View) (look : Look) (snapshot : ℕ) (held : Bytes) → view.work ≡ Looking look
    → as_of snapshot (at_look view look) ≡ Ok held → Shows view snapshot (unedited held)

module _ (L : Language) where
  -- whatever base it tells, where that holds tables, what is shown holds the tables behind the item
  abbrev pub MakesShown : View → Option ℕ → L.Item → Type 0
  MakesShown view asked item = (base shown : Pages) (tables : L.Tables) → Tells view asked base shown
      → L.IsStored base.at tables → L.IsStored shown.at (L.after item tables)

  -- then the edits make of any pages that agree where the attempt read, and hold tables, pages that hold the tables
  -- behind the item
  abbrev pub ShownIsMade : Type 0
  ShownIsMade = (items : Who → Option L.Item) (view : View) (asked : Option ℕ) (a : Attempt) (item : L.Item)
      → view.work ≡ Open a → MakesShown view asked item → Makes L items view a item

  -- whatever pages are shown, where they hold tables, this is the answer of the query over them
  abbrev pub AsksShown : View → ℕ → L.Item → Result (List ℕ) Refusal → Type 0
  AsksShown view snapshot item answered = (shown : Pages) (tables : L.Tables) → Shows view snapshot shown
      → L.IsStored shown.at tables → L.asks item tables ≡ answered

  -- then it is that over the tables which the snapshot's pages hold
  abbrev pub ShownIsAsked : Type 0
  ShownIsAsked =
      (view : View) (look : Look) (snapshot : ℕ) (held : Bytes) (item : L.Item) (answered : Result (List ℕ) Refusal)
      → view.work ≡ Looking look → as_of snapshot (at_look view look) ≡ Ok held
      → AsksShown view snapshot item answered → (tables : L.Tables) → L.IsStored held tables
      → L.asks item tables ≡ answered
