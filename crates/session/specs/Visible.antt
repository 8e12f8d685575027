-- The journal's visible lines, as text.
use Rattle.std.specs.Prelude.{◌+◌, ◌++◌, ◌==◌, ℕ, List, [], ◌∷◌, codes, Option, Some, None, if◌then◌else◌}
use Rattle.std.specs.Fmt.{decimal}
use Rattle.retro_base.specs.Device.{device_name}
use Rattle.retro_base.specs.Refusal.{number_of}
use Rattle.retro_base.specs.declared.limits.TheConstants.{SESSIONS}
use Rattle.retro_base.specs.declared.who.Who.{Who}
use Rattle.history.specs.declared.journal.Line.{Line}
use Rattle.history.specs.declared.journal.What.{What}
use Rattle.history.specs.declared.journal.What.TheVariants.{Began, Done, Overlapped, RolledBack, Looked}
use Rattle.history.specs.declared.journal.What.TheVariants.{LookedAll, Unlooked, Dropped, Refused, Fault}
use Rattle.session.specs.Line.{line}
use Rattle.session.specs.Plan.{Plan, names_at}
use Rattle.session.specs.Texts.{value_text}
use Rattle.session.specs.Wording.{session_name, word}

-- the workers behind the sessions of a phase: the copier, and then the flusher
abbrev pub worker_name : ℕ → List ℕ
worker_name session = if session == SESSIONS then codes "copier" else if session == SESSIONS + 1 then codes "flusher"
    else []

-- whose a line is: a session of its phase, or a worker
abbrev pub name_of : Plan → Who → List ℕ
name_of plan who = session_name (names_at plan who.phase) who.session ++ worker_name who.session

-- what a line says, where it is shown, behind a snapshot of this number
abbrev pub what_text : ℕ → What → Option (List ℕ)
what_text newest Began = None
what_text newest (Overlapped session other) = None
what_text newest (Done None writes) = Some (codes "done")
what_text newest (Done (Some label) writes) = Some (codes "done as " ++ decimal (newest + 1))
what_text newest RolledBack = Some (codes "rolled back")
what_text newest (Looked snapshot) = Some (codes "looked " ++ decimal snapshot)
what_text newest LookedAll = Some (codes "looked all")
what_text newest Unlooked = Some (codes "unlooked")
what_text newest (Dropped below) = Some (codes "dropped below " ++ decimal below)
what_text newest (Refused why) = Some (codes "refused " ++ decimal (number_of why))
what_text newest (Fault device count call) = Some (codes "fault " ++ device_name device ++ value_text count)

-- a visible line: phase, name, item, and what it says
abbrev pub shown_line : Plan → Who → Option (List ℕ) → List ℕ
shown_line plan who None = []
shown_line plan who (Some text) =
    line (decimal who.phase ++ word (name_of plan who) ++ value_text who.item ++ word text)

-- the number of the newest snapshot behind a line; dropping leaves the newest
abbrev pub newest_behind : What → ℕ → ℕ
newest_behind (Done (Some label) writes) newest = newest + 1
newest_behind what newest = newest

-- the visible lines in order, behind a snapshot of this number
abbrev pub visible_text : Plan → ℕ → List Line → List ℕ
visible_text plan newest [] = []
visible_text plan newest (l ∷ lines) =
    shown_line plan l.who (what_text newest l.what) ++ visible_text plan (newest_behind l.what newest) lines
