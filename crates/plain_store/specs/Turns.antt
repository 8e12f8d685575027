-- Sessions one after the other, at one store.
use Rattle.std.specs.Prelude.{◌≡◌, ◌≢◌, ◌++◌, ℕ, List, []}
use Rattle.std.specs.List.{AllByRecursion}
use Rattle.history.specs.declared.journal.Line.{Line}
use Rattle.journal_law.specs.Facts.{HasSeen}
use Rattle.journal_law.specs.Lawful.{IsFault}
use Rattle.journal_law.specs.Seats.{Moves, View}
use Rattle.plain_store.specs.Plain.{Plain, ground_of, view_of}

-- in the turn of a session the journal grows by lines of its own, and none tells a fault
abbrev pub OwnTurn : ℕ → Line → Type 0
OwnTurn session line = (line.who.session ≡ session) × (IsFault line.what → ⊥)

pub record GoesOn (old new : Plain) : Type 0 where
  pub session : new.session ≡ old.session
  pub opened : ground_of new ≡ ground_of old
  pub more : List Line
  pub own : AllByRecursion (OwnTurn old.session) more
  pub whole : new.book.lines ≡ old.book.lines ++ more

-- what a session has seen at the end of its turn it has seen in turns of others, and at the end
pub record TurnsJoin : Type 0 where
  pub here : (store : Plain) → HasSeen store.session store.book.lines store.book.lines
  pub on : (session : ℕ) (front : List Line) (old new : Plain) → session ≢ old.session → GoesOn old new
      → HasSeen session front old.book.lines → HasSeen session front new.book.lines
  -- its next turn begins where others have added lines
  pub moves : (view : View) (store : Plain) → view.session ≡ store.session → ground_of store ≡ view.opened
      → HasSeen view.session view.front store.book.lines → Moves view (view_of store) []
