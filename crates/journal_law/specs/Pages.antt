-- The pages now and at each retained snapshot.
use Rattle.std.specs.Prelude.{ℕ, List, [], ◌∷◌}
use Rattle.history.specs.declared.journal.Line.{Line}
use Rattle.history.specs.Journal.{pages_behind}
use Rattle.history.specs.Sound.{Pin}
use Rattle.journal_law.specs.World.{World, behind, pins_behind}

-- the bytes of each page
abbrev pub Pages : Type 0
Pages = ℕ → List ℕ

-- the world behind a line
abbrev pub page_step : World Pages → Line → World Pages
page_step world line = behind (pages_behind world.current line.what) line.what world

-- the pages now and at each retained snapshot behind the lines of a journal
abbrev pub page_world : World Pages → List Line → World Pages
page_world opening [] = opening
page_world opening (line ∷ lines) = page_world (page_step opening line) lines

-- the snapshots that the looks keep which are open behind a journal
abbrev pub pins_from : World Pages → List Pin → List Line → List Pin
pins_from opening pins [] = pins
pins_from opening pins (line ∷ lines) =
    pins_from (page_step opening line) (pins_behind opening pins line.who line.what) lines

abbrev pub pins_of : World Pages → List Line → List Pin
pins_of opening lines = pins_from opening [] lines
