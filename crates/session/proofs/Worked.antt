-- A worked transcript, literal: a drop, a drop that a pin refuses, a line that the grammar refuses, an item cut short, one that is not run, and a worker's fault.
use Rattle.std.specs.Prelude.{◌≡◌, ◌++◌, true, false, List, [], ◌∷◌, codes}
use Rattle.std.proofs.Common.{refl}
use Rattle.std.specs.Fmt.{digits}
use Rattle.retro_base.specs.declared.device.Device.TheVariants.{Maplog}
use Rattle.retro_base.specs.declared.refusal.Refusal.TheVariants.{Pinned}
use Rattle.retro_base.specs.declared.who.Who.{Who}
use Rattle.tables.specs.Tables.{Tables, no_tables}
use Rattle.history.specs.declared.journal.FailedCall.TheVariants.{Write}
use Rattle.history.specs.declared.journal.Line.{Line}
use Rattle.history.specs.declared.journal.What.TheVariants.{Dropped, Refused, Fault}
use Rattle.journal_law.specs.World.{World}
use Rattle.session.specs.Line.{line as text}
use Rattle.session.specs.Plan.{Plan}
use Rattle.session.specs.Replies.{transcript, who_is}
use Rattle.session.specs.declared.plan.Task.TheVariants.{DropBelow, Syntax}

abbrev pub two_sessions : Plan
two_sessions = (record { name = codes "a"; tasks = DropBelow 2 ∷ DropBelow 3 ∷ [] } ∷ record { name = codes "b"; tasks = Syntax 4 ∷ DropBelow 3 ∷ Syntax 0 ∷ [] } ∷ []) ∷ []

abbrev pub lines : List Line
lines =
    record { who = who_is 1 0 1; what = Dropped 2 } ∷ record { who = who_is 1 0 2; what = Refused (Pinned 2 1) } ∷ record { who = who_is 1 16 0; what = Fault Maplog 7 Write } ∷ []

abbrev pub opening : World Tables
opening = record { current = no_tables; marks = [] }

pub worked : transcript 16 two_sessions (λ (who : Who). false) opening lines
    ≡ text (codes "phase 1")
    ++ text (codes "session a") ++ text (codes "item 1") ++ text (codes "dropped below 2") ++ text (codes "item 2") ++ text (codes "refused 11 Pinned 2 b")
    ++ text (codes "session b") ++ text (codes "item 1") ++ text (codes "refused 19 Syntax 4") ++ text (codes "item 2") ++ text (codes "refused 1 OutOfMemory") ++ text (codes "item 3") ++ text (codes "not run")
    ++ text (codes "journal") ++ text (codes "1 a 1 dropped below 2") ++ text (codes "1 a 2 refused 11") ++ text (codes "1 copier 0 fault maplog 7")
unfolding digits
worked = refl
