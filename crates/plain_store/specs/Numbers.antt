-- Calls that are refused by the number of a snapshot.
use Rattle.std.specs.Prelude.{◌==◌, ◌||◌, nat_lt, ℕ, List, Option, Some, None, if◌then◌else◌}
use Rattle.std.specs.Option.{option_or}
use Rattle.retro_base.specs.declared.refusal.Refusal.{Refusal}
use Rattle.retro_base.specs.declared.refusal.Refusal.TheVariants.{Dropped, NoSuchSnapshot}
use Rattle.history.specs.declared.entry.Mark.{Mark}
use Rattle.history.specs.Marks.{newest, oldest}

-- no snapshot has this number
abbrev pub no_snapshot : ℕ → List Mark → Option Refusal
no_snapshot number marks =
    if (number == 0) || nat_lt (newest marks) number then Some (NoSuchSnapshot number (newest marks)) else None

-- or it is dropped
abbrev pub look_refused : ℕ → List Mark → Option Refusal
look_refused number marks =
    option_or (no_snapshot number marks)
    (if nat_lt number (oldest marks) then Some (Dropped number (oldest marks)) else None)
