-- What a crash leaves of the devices of a store.
use Rattle.std.specs.Prelude.{◌≡◌, ◌⊎◌, ℕ, List, Option, Some, None}
use Rattle.disk_model.specs.declared.four.Four.{Four}
use Rattle.disk_model.specs.Disk.{State}
use Rattle.history.specs.declared.entry.Change.{Change}
use Rattle.history.specs.declared.journal.Line.{Line}
use Rattle.history.specs.declared.log.Version.{Version}
use Rattle.history.specs.History.{History, now, with_change}
use Rattle.history.specs.Journal.{after_journal}
use Rattle.history.specs.Lines.{doubt_in}
use Rattle.history.specs.Right.{MayFollow}
use Rattle.opening.specs.Devices.{AreImages}
use Rattle.opening.specs.Opening.{Hold}
use Rattle.race_model.specs.Images.{IsSameWorld}
use Rattle.skippy.specs.Mappings.{end_of}
use Rattle.replay.specs.Joined.{AreJoined}
use Rattle.replay.specs.Opened.{Contents, opened}

-- no reader can tell what the contents open to from the history, or from it with the change that is in doubt, which may
-- follow it
abbrev pub OpensTo : Contents → History → Option Change → Type 0
OpensTo contents history None = IsSameWorld (opened contents) history
OpensTo contents history (Some change) =
    IsSameWorld (opened contents) history
    ⊎ (MayFollow (now history).base change × IsSameWorld (opened contents) (with_change history change))

-- the devices hold contents that belong together, in records of the version, and open so
pub record HoldWorld (version : Version) (devices : Four (List ℕ)) (history : History)
    (doubt : Option Change) : Type 0 where
  pub contents : Contents
  pub hold : Hold version devices contents
  pub joined : AreJoined contents
  pub opens : OpensTo contents history doubt

-- Whatever a crash leaves of the four devices opens to the history behind the journal, or to it with the one change
-- that the journal tells to be in doubt.
abbrev pub CrashesOpen : {D : Type 0} → (D → State) → Version → History → List Line → Four D → Type 0
CrashesOpen state version history lines disks = (devices : Four (List ℕ)) → AreImages state disks devices →
    HoldWorld version devices (after_journal history lines) (doubt_in lines)

-- Whatever a crash leaves of the four devices, its Maplog maps captures, from its lowest on, up to this count.
abbrev pub CrashesMap : {D : Type 0} → (D → State) → Version → ℕ → Four D → Type 0
CrashesMap state version count disks = (devices : Four (List ℕ)) (contents : Contents) →
    AreImages state disks devices → Hold version devices contents → end_of contents.mappings ≡ count
