-- What follows of the facts that seats know.
use Rattle.std.specs.Prelude.{◌≡◌, ℕ, List, Option}
use Rattle.std.specs.List.{AllByRecursion}
use Rattle.retro_base.specs.declared.device.Device.{Device}
use Rattle.retro_base.specs.declared.who.Who.{Who}
use Rattle.history.specs.declared.journal.Line.{Line}
use Rattle.history.specs.Lines.{FaultsDiffer}
use Rattle.journal_law.specs.Facts.{AllFit, HasSeen}
use Rattle.journal_law.specs.Fates.{IsReply, fate, reply}
use Rattle.journal_law.specs.Language.{Language}
use Rattle.journal_law.specs.Lawful.{IsCounted, Lawful, Opening, PhasesRise}
use Rattle.journal_law.specs.Own.{own}
use Rattle.journal_law.specs.Shows.{Shows, ShowsAlong}

-- what the store tells of a whole journal at its end: its faults have counts of their own, up to these; and what the
-- run tells: its phases came one after the other
pub record IsClosed (ending : Device → ℕ) (journal : List Line) : Type 0 where
  pub phases : PhasesRise journal
  pub differ : FaultsDiffer journal
  pub counted : AllByRecursion (IsCounted ending) journal

-- A journal whose lines fit, each by what its own session knew, and an opening whose pages hold tables: at each place
-- the pages hold the tables of the journal, the journal is lawful over tables, and what a session told of an item is
-- the reply of the journal.
pub record LawOfTheJournal (L : Language) : Type 0 where
  pub shows : (items : Who → Option L.Item) (o : Opening L) (journal : List Line) → Shows L o.opened.pages o.tables
      → AllFit L items o.opened journal → ShowsAlong L items o.opened.pages o.tables journal
  pub lawful : (items : Who → Option L.Item) (o : Opening L) (ending : Device → ℕ) (journal : List Line)
      → Shows L o.opened.pages o.tables → AllFit L items o.opened journal → IsClosed ending journal
      → Lawful L items o ending journal
  pub replies : (items : Who → Option L.Item) (o : Opening L) (journal front : List Line) (who : Who) (item : L.Item)
      (text : List ℕ) → Shows L o.opened.pages o.tables → AllFit L items o.opened journal
      → HasSeen who.session front journal → IsReply L items o.opened.pages who item front text
      → text ≡ reply L item (fate L items who o.tables journal)
  pub own_lines : (journal front : List Line) (who : Who) → HasSeen who.session front journal
      → own who journal ≡ own who front
