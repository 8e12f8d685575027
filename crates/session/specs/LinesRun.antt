-- What the statement lines of a transaction leave that run over pages, one after the other.
use Rattle.std.specs.Prelude.{◌≡◌, ◌⊎◌, ◌++◌, ℕ, true, false, List, [], flat_map, Result, Ok, Err}
use Rattle.retro_base.specs.declared.refusal.Refusal.{Refusal}
use Rattle.retro_base.specs.declared.refusal.Refusal.TheVariants as refusal
use Rattle.sql_tree.specs.declared.statement.Statement.{Statement}
use Rattle.tables.specs.Tables.{Tables}
use Rattle.tables.specs.declared.reply.Reply.{Reply}
use Rattle.pager.specs.Pages.{Pages}
use Rattle.pager.specs.declared.stop.Stop.{Stop}
use Rattle.pager.specs.declared.stop.Stop.TheVariants as stop
use Rattle.script.specs.declared.structure.Reading.{Reading}
use Rattle.script.specs.declared.structure.Reading.TheVariants.{Read, Syntax}
use Rattle.sql_exec.specs.Stored.{IsStored}
use Rattle.session.specs.Reach.{AtOne, LineIsShort, LineReaches, StepsTo}
use Rattle.session.specs.Statements.{Lines, changes, changes_line, does_line, replies, transaction}
use Rattle.session.specs.Wording.{outcome_text}

-- whatever pages a pager began with, it shows one list of pages
abbrev pub ShowsOne : {P : Type 0} → (P → Pages → Pages → Type 0) → Type 0
ShowsOne {P} tells = (p : P) (base one other : Pages) → tells p base one → tells p base other → one ≡ other

-- want of memory, pages that are no store's, and want of pages end an attempt; each other refusal is a statement's
-- reply
abbrev pub reply_or_end : Refusal → Result Refusal Refusal
reply_or_end refusal.OutOfMemory = Err refusal.OutOfMemory
reply_or_end (refusal.NotAStore device place) = Err (refusal.NotAStore device place)
reply_or_end (refusal.PagesFull pages) = Err (refusal.PagesFull pages)
reply_or_end why = Ok why

-- so does a fault of the pager: by the refusal that the attempt keeps, or else for want of memory
abbrev pub reply_or_stop : {F : Type 0} → Stop F → Result Refusal Refusal
reply_or_stop (stop.Refused why) = reply_or_end why
reply_or_stop (stop.Pager fault) = Err refusal.OutOfMemory

-- such a refusal
abbrev pub IsStop : Refusal → Type 0
IsStop refusal.OutOfMemory = Unit {0}
IsStop (refusal.NotAStore device place) = Unit {0}
IsStop (refusal.PagesFull pages) = Unit {0}
IsStop why = ⊥

-- ---- one line

-- a page that counts as edited behind a line did so before it, or the line may edit it
abbrev pub LineMarks : ℕ → Reading Statement → Pages → Tables → Pages → Type 0
LineMarks size line was tables now = (page : ℕ) → now.edited page ≡ true → (was.edited page ≡ true)
    ⊎ LineReaches size page line was tables

-- a line has run from pages that hold these tables: its outcome is its meaning, and the pages hold the tables behind it
pub record LineRan (size : ℕ) (line : Reading Statement) (was : Pages) (tables : Tables) (now : Pages)
    (outcome : Result Reply Refusal) : Type 0 where
  pub outcome_is : (does_line line tables).1 ≡ outcome
  pub stored : IsStored size now (does_line line tables).0
  pub steps : StepsTo size line was (does_line line tables).1 now
  pub marks : LineMarks size line was tables now
  pub selects : changes_line line ≡ false → now ≡ was

-- why a line ends the attempt
abbrev pub EndsLine : ℕ → Reading Statement → Pages → Tables → Refusal → Type 0
EndsLine size line was tables refusal.OutOfMemory = Unit {0}
EndsLine size line was tables (refusal.PagesFull pages) = (pages ≡ size) × LineIsShort size line was tables
EndsLine size line was tables why = ⊥

-- what a line gives over pages that hold these tables: its outcome, or why it ends the attempt
abbrev pub LineGivesOver : ℕ → Reading Statement → Pages → Tables → Pages → Result (Result Reply Refusal) Refusal →
    Type 0
LineGivesOver size line was tables now (Ok outcome) = LineRan size line was tables now outcome
LineGivesOver size line was tables now (Err why) = EndsLine size line was tables why
    × LineMarks size line was tables now

-- whatever tables the pages hold
abbrev pub LineGives : ℕ → Reading Statement → Pages → Pages → Result (Result Reply Refusal) Refusal → Type 0
LineGives size line was now result = (tables : Tables) → IsStored size was tables →
    LineGivesOver size line was tables now result

-- the same, where the text of a line's outcome was added to a text
abbrev pub LineAddsOver : ℕ → Reading Statement → List ℕ → List ℕ → Pages → Tables → Pages → Result (Unit {0}) Refusal →
    Type 0
LineAddsOver size line old new was tables now (Ok u) = LineRan size line was tables now (does_line line tables).1
    × (new ≡ old ++ outcome_text (does_line line tables).1)
LineAddsOver size line old new was tables now (Err why) = EndsLine size line was tables why
    × LineMarks size line was tables now

abbrev pub LineAdds : ℕ → Reading Statement → List ℕ → List ℕ → Pages → Pages → Result (Unit {0}) Refusal → Type 0
LineAdds size line old new was now result = (tables : Tables) → IsStored size was tables →
    LineAddsOver size line old new was tables now result

-- ---- many lines

-- Of lines that run from pages which hold these tables, those before the rest have run; they left these pages, and the
-- text has their replies.
pub record Midway (size : ℕ) (lines : Lines) (was : Pages) (tables : Tables) (rest : Lines) (now : Pages)
    (text : List ℕ) : Type 0 where
  pub behind : Tables
  pub stored : IsStored size now behind
  pub leaves : transaction rest behind ≡ transaction lines tables
  pub replied : text ++ flat_map outcome_text (replies rest behind) ≡ flat_map outcome_text (replies lines tables)
  pub shorts : AtOne size (LineIsShort size) rest now behind → AtOne size (LineIsShort size) lines was tables
  pub reaches : (page : ℕ) → AtOne size (LineReaches size page) rest now behind →
      AtOne size (LineReaches size page) lines was tables
  pub marks : (page : ℕ) → now.edited page ≡ true → (was.edited page ≡ true)
      ⊎ AtOne size (LineReaches size page) lines was tables
  pub selects : changes lines ≡ false → (changes rest ≡ false) × (now ≡ was)

-- why lines end the attempt
abbrev pub EndsLines : ℕ → Lines → Pages → Tables → Refusal → Type 0
EndsLines size lines was tables refusal.OutOfMemory = Unit {0}
EndsLines size lines was tables (refusal.PagesFull pages) =
    (pages ≡ size) × AtOne size (LineIsShort size) lines was tables
EndsLines size lines was tables why = ⊥

-- lines were cut short
pub record Cut (size : ℕ) (lines : Lines) (was : Pages) (tables : Tables) (now : Pages) (why : Refusal) : Type 0 where
  pub is_why : EndsLines size lines was tables why
  pub marks : (page : ℕ) → now.edited page ≡ true → (was.edited page ≡ true)
      ⊎ AtOne size (LineReaches size page) lines was tables

-- what lines give over pages that hold these tables
abbrev pub LinesGiveOver : ℕ → Lines → Pages → Tables → Pages → List ℕ → Result (Unit {0}) Refusal → Type 0
LinesGiveOver size lines was tables now text (Ok u) = Midway size lines was tables [] now text
LinesGiveOver size lines was tables now text (Err why) = Cut size lines was tables now why

abbrev pub LinesGive : ℕ → Lines → List ℕ → Result (Unit {0}) Refusal → Pages → Pages → Type 0
LinesGive size lines text result was now = (tables : Tables) → IsStored size was tables →
    LinesGiveOver size lines was tables now text result
