-- What follows for the bases behind changes, and what a change owes its record.
use Rattle.std.specs.Prelude.{◌<◌, ◌≤◌, ◌^◌, length}
use Rattle.std.specs.List.{AllByRecursion}
use Rattle.retro_base.specs.declared.limits.TheConstants.{EDITED_PAGES}
use Rattle.history.specs.declared.entry.Base.{Base}
use Rattle.history.specs.declared.entry.Change.{Change}
use Rattle.history.specs.declared.entry.Change.TheVariants.{Commit, Drop}
use Rattle.history.specs.declared.log.Version.{Version}
use Rattle.history.specs.History.{base_after}
use Rattle.history.specs.Right.{IsBase, IsRight}
use Rattle.records.specs.Entries.{BaseFits, ChangeFits, page_width}

-- a base that fits its record does so behind a change that fits its own
abbrev pub FittingBasesStay : Type 0
FittingBasesStay =
    (version : Version) (base : Base) (change : Change) → IsBase base → BaseFits version base
    → ChangeFits version change → IsRight base change → BaseFits version (base_after base change)

-- a change within the limits of its record: what its parts do not keep by themselves
abbrev pub IsWithinRecord : Version → Change → Type 0
IsWithinRecord version (Commit label writes) =
    (length writes ≤ EDITED_PAGES) × AllByRecursion (λ write. write.page < 256 ^ page_width version) writes
IsWithinRecord version (Drop below) = Unit {0}
