-- What crashes within a call leave of a device in memory, which tells each of them.
use Rattle.std.specs.Prelude.{List, ℕ, length}
use Rattle.disk_mem.specs.Disks.{Device}
use Rattle.disk_mem.specs.History.{LeftSince}

-- each image that a crash might have left since the first state has P
abbrev pub EachLeft : Device → Device → (List ℕ → Type 0) → Type 0
EachLeft old new P = (image : List ℕ) → LeftSince new.past (length old.past.steps) image → P image
