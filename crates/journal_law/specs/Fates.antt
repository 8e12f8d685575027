-- What became of an item, and what is told of it.
use Rattle.std.specs.Prelude.{◌≡◌, ◌+◌, ◌++◌, ℕ, List, [], ◌∷◌, Option, Some, None, Result, Ok, Err, if◌then◌else◌}
use Rattle.std.specs.Option.{option_map_or}
use Rattle.retro_base.specs.declared.refusal.Refusal.{Refusal}
use Rattle.retro_base.specs.declared.refusal.Refusal.TheVariants.{DiskFault, Overlap}
use Rattle.retro_base.specs.declared.who.Who.{Who}
use Rattle.history.specs.declared.journal.Line.{Line}
use Rattle.history.specs.declared.journal.What.{What}
use Rattle.history.specs.declared.journal.What.TheVariants.{Done, Overlapped, RolledBack}
use Rattle.history.specs.declared.journal.What.TheVariants.{Unlooked, Dropped, Refused, Fault}
use Rattle.history.specs.Lines.{begins}
use Rattle.history.specs.Sound.{same_item}
use Rattle.journal_law.specs.Language.{Language, answer}
use Rattle.journal_law.specs.Pages.{Pages}
use Rattle.journal_law.specs.Shows.{ShowsAlong, step}
use Rattle.journal_law.specs.World.{World, newest}

-- what an item's last line says, the world at its place, and the world in which its last attempt or look began
pub record Fate (X : Type 0) : Type 0 where
  pub now : World X
  pub last : What
  pub began : Option (World X)

abbrev pub began_of : {X : Type 0} → Option (Fate X) → Option (World X)
began_of None = None
began_of (Some f) = f.began

-- the world in which the last attempt or look of an item began
abbrev pub began_at : {X : Type 0} → Fate X → World X
began_at f = option_map_or (λ began. began) f.began f.now

-- behind a line of the item at this world
abbrev pub fate_with : {X : Type 0} → World X → What → Option (Fate X) → Fate X
fate_with now what known = record { now = now; last = what; began = if begins what then Some now else began_of known }

module _ (L : Language) where
  module _ (items : Who → Option L.Item) where
    -- behind lines from this world on, where this was known of the item
    abbrev pub fate_behind : Who → World L.Tables → Option (Fate L.Tables) → List Line → Option (Fate L.Tables)
    fate_behind who now known [] = known
    fate_behind who now known (line ∷ lines) =
        fate_behind who (step L items now line)
        (if same_item line.who who then Some (fate_with now line.what known) else known) lines

    -- what became of an item by the lines of a journal, from this opening on
    abbrev pub fate : Who → World L.Tables → List Line → Option (Fate L.Tables)
    fate who opening lines = fate_behind who opening None lines

  abbrev pub answer_text : L.Item → Result (List ℕ) Refusal → List ℕ
  answer_text item (Ok text) = text
  answer_text item (Err why) = (L.words item).refused why

  -- The reply lines of an item by its last line: a commit's are those of its statements over the tables at its place, a
  -- rollback's those over the tables with which its attempt began, a look's those of its query in the world in which it
  -- looked.
  abbrev pub reply_at : L.Item → Fate L.Tables → What → List ℕ
  reply_at item f (Done label writes) =
      L.replies item f.now.current ++ (L.words item).committed (newest f.now + 1) label
  reply_at item f RolledBack = L.replies item (began_at f).current ++ (L.words item).rolled_back
  reply_at item f Unlooked = answer_text item (answer L item (began_at f))
  reply_at item f (Dropped below) = (L.words item).dropped below
  reply_at item f (Refused why) = (L.words item).refused why
  reply_at item f (Overlapped session other) = (L.words item).refused (Overlap session other)
  reply_at item f (Fault device count call) = (L.words item).refused (DiskFault device count)
  reply_at item f what = (L.words item).not_run

  -- the reply lines of an item by what became of it
  abbrev pub reply : L.Item → Option (Fate L.Tables) → List ℕ
  reply item (Some f) = reply_at item f f.last
  reply item None = (L.words item).not_run

  -- What a seat knows of an item of its own that has ended: whatever tables the pages held up to there, this is its
  -- reply.
  abbrev pub IsReply : (Who → Option L.Item) → World Pages → Who → L.Item → List Line → List ℕ → Type 0
  IsReply items pages who item front text =
      (tables : World L.Tables) → ShowsAlong L items pages tables front
      → text ≡ reply item (fate items who tables front)
