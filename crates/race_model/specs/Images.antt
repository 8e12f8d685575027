-- What images of the devices of a machine hold, and what they open to.
use Rattle.std.specs.Prelude.{◌≡◌, ◌⊎◌, ◌%◌, ◌<◌, ◌≤◌, ℕ, List, drop}
use Rattle.history.specs.declared.log.Version.{Version}
use Rattle.history.specs.Marks.{oldest_start}
use Rattle.history.specs.History.{History, now, captures, with_change}
use Rattle.skippy.specs.Mappings.{Mappings, end_of}
use Rattle.replay.specs.Opened.{Contents, opened}
use Rattle.race_model.specs.Desk.{Doubt, Sure, OneMore, NewBase, Desk, captured, capacity_of, IsLogOf, ArePagesOf}
use Rattle.race_model.specs.Vault.{IsMaplogOf, AreSlotsOf}
use Rattle.race_model.specs.Fits.{MappingsFit, AreOfStore}
use Rattle.race_model.specs.Machine.{Machine}

-- an image of the four devices, its Maplog in records of some version
pub record AreImagesOf (machine : Machine) (contents : Contents) : Type 0 where
  pub log : IsLogOf machine.desk contents.log
  pub pages : ArePagesOf machine.desk contents.pages
  pub version : Version
  pub maplog : IsMaplogOf machine.vault (record { version = version; mappings = contents.mappings })
  pub slots : AreSlotsOf machine.vault contents.slots

-- no reader can tell the two apart: the log says the same, the pages are the same, and so are the captures that a
-- retained snapshot may need
pub record IsSameWorld (history other : History) : Type 0 where
  pub base : (now history).base ≡ (now other).base
  pub pages : (page : ℕ) → (now history).pages page ≡ (now other).pages page
  pub captures : drop (oldest_start (now other).base.marks) (captures history)
      ≡ drop (oldest_start (now other).base.marks) (captures other)

-- contents that belong together, their log in records of the version, and open to the world of the history
pub record OpenTo (contents : Contents) (version : Version) (history : History) : Type 0 where
  pub in_version : contents.log.version ≡ version
  pub store : AreOfStore contents
  pub same : IsSameWorld (opened contents) history

-- to the desk's history, or to it with the change that is in doubt; in the desk's version, or in that of the new base
-- that is in doubt
abbrev pub OpenInDoubt : Contents → Desk → Doubt → Type 0
OpenInDoubt contents desk Sure = OpenTo contents desk.version desk.history
OpenInDoubt contents desk (NewBase version) = OpenTo contents desk.version desk.history
    ⊎ OpenTo contents version desk.history
OpenInDoubt contents desk (OneMore change) = OpenTo contents desk.version desk.history
    ⊎ OpenTo contents desk.version (with_change desk.history change)

-- an image of the archive that holds at least so many captures
pub record HoldsCaptures (history : History) (floor count : ℕ) (mappings : Mappings) (slots : ℕ → List ℕ) : Type 0 where
  pub mapped : MappingsFit history floor mappings
  pub enough : count ≤ end_of mappings
  pub filled : (number : ℕ) → oldest_start (now history).base.marks ≤ number → number < end_of mappings
      → slots (number % capacity_of history) ≡ (captured history number).bytes
