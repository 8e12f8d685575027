-- The tables behind a journal, and pages that hold them.
use Rattle.std.specs.Prelude.{◌≡◌, List, [], ◌∷◌, Option}
use Rattle.retro_base.specs.declared.who.Who.{Who}
use Rattle.history.specs.declared.journal.Line.{Line}
use Rattle.journal_law.specs.Language.{Language, after_of}
use Rattle.journal_law.specs.Pages.{Pages, page_step}
use Rattle.journal_law.specs.World.{Mark, World, behind}

module _ (L : Language) where
  -- the same snapshots, of which the pages hold the tables
  abbrev pub MarksShow : List (Mark Pages) → List (Mark L.Tables) → Type 0
  MarksShow [] [] = Unit {0}
  MarksShow (p ∷ ps) (t ∷ ts) = (p.number ≡ t.number) × (p.label ≡ t.label) × L.IsStored p.held t.held × MarksShow ps ts
  MarksShow ps ts = ⊥

  -- the pages now and at each retained snapshot hold the tables now and at it
  pub record Shows (pages : World Pages) (tables : World L.Tables) : Type 0 where
    pub current : L.IsStored pages.current tables.current
    pub marks : MarksShow pages.marks tables.marks

  module _ (items : Who → Option L.Item) where
    -- the world behind a line: a commit leaves the tables behind the statements of its item
    abbrev pub step : World L.Tables → Line → World L.Tables
    step world line = behind (after_of L (items line.who) world.current) line.what world

    -- the tables now and at each retained snapshot behind the lines of a journal
    abbrev pub world : World L.Tables → List Line → World L.Tables
    world opening [] = opening
    world opening (line ∷ lines) = world (step opening line) lines

    -- the pages hold the tables at each place of a journal
    abbrev pub ShowsAlong : World Pages → World L.Tables → List Line → Type 0
    ShowsAlong pages tables [] = Shows pages tables
    ShowsAlong pages tables (line ∷ lines) =
        Shows pages tables × ShowsAlong (page_step pages line) (step tables line) lines
