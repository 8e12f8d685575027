-- What follows from these definitions.
use Rattle.std.specs.Prelude.{◌≡◌, ℕ, List}
use Rattle.disk_model.specs.declared.four.Four.{Four}
use Rattle.retro_base.specs.declared.device.Device.{Device}
use Rattle.history.specs.declared.log.Version.{Version}
use Rattle.replay.specs.Joined.{AreJoined}
use Rattle.replay.specs.Opened.{Contents}
use Rattle.opening.specs.Opening.{Hold, DevicesBreak}

-- four devices hold one store at most, or break at one place of one device at most, and not both
pub record AreReadOneWay : Type 0 where
  pub one_store : (version : Version) (devices : Four (List ℕ)) (contents other : Contents)
      → Hold version devices contents → Hold version devices other → contents ≡ other
  pub one_device : (version : Version) (devices : Four (List ℕ)) (device other : Device) (broken place : ℕ)
      → DevicesBreak version devices device broken → DevicesBreak version devices other place → device ≡ other
  pub one_place : (version : Version) (devices : Four (List ℕ)) (device : Device) (broken place : ℕ)
      → DevicesBreak version devices device broken → DevicesBreak version devices device place → broken ≡ place
  pub not_both : (version : Version) (devices : Four (List ℕ)) (contents : Contents) (device : Device) (broken : ℕ)
      → Hold version devices contents → AreJoined contents → DevicesBreak version devices device broken → ⊥
