-- What a journal leaves in the log, and what it makes of the pages.
use Rattle.std.specs.Prelude.{nat_lt, ℕ, List, [], ◌∷◌, ◌++◌, Option, Some, None, if◌then◌else◌}
use Rattle.std.specs.Option.{option_to_list}
use Rattle.history.specs.declared.entry.Base.{Base}
use Rattle.history.specs.declared.entry.Change.{Change}
use Rattle.history.specs.declared.entry.Change.TheVariants.{Commit, Drop}
use Rattle.history.specs.declared.journal.Line.{Line}
use Rattle.history.specs.declared.journal.What.{What}
use Rattle.history.specs.declared.journal.What.TheVariants.{Done, Dropped}
use Rattle.history.specs.Marks.{oldest}
use Rattle.history.specs.History.{History, written, bases_after, now, with_changes}

-- the change that a line leaves in the log, if any: a commit that writes or declares, and a drop that drops something
abbrev pub change_of : Base → What → Option Change
change_of base (Done None []) = None
change_of base (Done label writes) = Some (Commit label writes)
change_of base (Dropped below) = if nat_lt (oldest base.marks) below then Some (Drop below) else None
change_of base _ = None

-- what the log says behind a line
abbrev pub base_behind : Base → Line → Base
base_behind base line = bases_after base (option_to_list (change_of base line.what))

-- the changes that a journal leaves in the log
abbrev pub changes_of : Base → List Line → List Change
changes_of base [] = []
changes_of base (line ∷ lines) = option_to_list (change_of base line.what) ++ changes_of (base_behind base line) lines

-- the pages behind a line: a committed item writes its pages
abbrev pub pages_behind : (ℕ → List ℕ) → What → ℕ → List ℕ
pages_behind pages (Done label writes) = written pages writes
pages_behind pages _ = pages

-- the pages after a journal
abbrev pub pages_after_journal : (ℕ → List ℕ) → List Line → ℕ → List ℕ
pages_after_journal pages [] = pages
pages_after_journal pages (line ∷ lines) = pages_after_journal (pages_behind pages line.what) lines

-- a history, and the changes of a journal behind it
abbrev pub after_journal : History → List Line → History
after_journal history lines = with_changes history (changes_of (now history).base lines)
