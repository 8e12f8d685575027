-- Faults of devices: those that lines tell, and those that a change of the counts tells.
use Rattle.std.specs.Prelude.{◌==◌, nat_lt, ◌||◌, ℕ, List, [], ◌∷◌, ◌++◌, Bool, true, false, if◌then◌else◌}
use Rattle.retro_base.specs.declared.device.Device.{Device}
use Rattle.retro_base.specs.declared.device.Device.TheVariants.{Log, Pages, Pagelog, Maplog, Cabinet}
use Rattle.history.specs.declared.journal.Line.{Line}
use Rattle.history.specs.declared.journal.What.{What}
use Rattle.history.specs.declared.journal.What.TheVariants.{Fault}
use Rattle.history.specs.Lines.{same_device}
use Rattle.turn.specs.Queue.{total}

-- the value at which a count of faults stays
abbrev pub LAST : ℕ
LAST = 18446744073709551615

-- the log and the pages are the desk's, the others the vault's
abbrev pub is_of_desk : Device → Bool
is_of_desk Log = true
is_of_desk Pages = true
is_of_desk _ = false

-- 1 where a fault is of this device and count
abbrev pub one_fault : Device → ℕ → Device × ℕ → ℕ
one_fault device count fault = if same_device fault.0 device then (if fault.1 == count then 1 else 0) else 0

-- how often it is among these
abbrev pub fault_times : Device → ℕ → List (Device × ℕ) → ℕ
fault_times device count faults = total (one_fault device count) faults

-- 1 where a line tells this fault
abbrev pub line_fault : Device → ℕ → What → ℕ
line_fault device count (Fault d c call) = one_fault device count (d, c)
line_fault device count _ = 0

-- how many lines tell it
abbrev pub fault_lines : Device → ℕ → List Line → ℕ
fault_lines device count lines = total (λ (line : Line). line_fault device count line.what) lines

-- whether this tells a fault of the device, and whether one of these lines does
abbrev pub tells_of : Device → What → Bool
tells_of device (Fault d c call) = same_device d device
tells_of device _ = false

abbrev pub some_tells : Device → List Line → Bool
some_tells device [] = false
some_tells device (line ∷ lines) = tells_of device line.what || some_tells device lines

-- the faults of devices of which none of these lines tells one
abbrev pub untold_by : List Line → List (Device × ℕ) → List (Device × ℕ)
untold_by lines [] = []
untold_by lines (fault ∷ faults) =
    if some_tells fault.0 lines then untold_by lines faults else fault ∷ untold_by lines faults

-- the fault of a device whose count rose, or stands at its last value
abbrev pub rose : (Device → ℕ) → (Device → ℕ) → Device → List (Device × ℕ)
rose old new device = if nat_lt (old device) (new device) || (new device == LAST) then (device, new device) ∷ [] else []

abbrev pub desk_faults : (Device → ℕ) → (Device → ℕ) → List (Device × ℕ)
desk_faults old new = rose old new Log ++ rose old new Pages

abbrev pub vault_faults : (Device → ℕ) → (Device → ℕ) → List (Device × ℕ)
vault_faults old new = rose old new Pagelog ++ (rose old new Maplog ++ rose old new Cabinet)

-- the count of a device, of which one side has it
abbrev pub count_of : (Device → ℕ) → (Device → ℕ) → Device → ℕ
count_of desk vault device = if is_of_desk device then desk device else vault device
