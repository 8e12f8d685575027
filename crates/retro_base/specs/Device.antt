-- The devices by name.
use Rattle.std.specs.Prelude.{ℕ, List, codes}
use Rattle.retro_base.specs.declared.device.Device.{Device}
use Rattle.retro_base.specs.declared.device.Device.TheVariants.{Log, Pages, Pagelog, Maplog, Cabinet}

-- the name of a device
abbrev pub device_name : Device → List ℕ
device_name Log = codes "log"
device_name Pages = codes "pages"
device_name Pagelog = codes "pagelog"
device_name Maplog = codes "maplog"
device_name Cabinet = codes "cabinet"
