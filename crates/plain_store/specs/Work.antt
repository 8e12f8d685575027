-- What the session has open.
use Rattle.std.specs.Prelude.{◌+◌, ℕ, List, Option, Some, None, Bool, true, false}
use Rattle.plain_store.specs.declared.work.Work.{Work}
use Rattle.plain_store.specs.declared.work.Work.TheVariants.{Looking, Open}

abbrev pub is_open : Work → Bool
is_open (Open transaction) = true
is_open work = false

abbrev pub is_looking : Work → Bool
is_looking (Looking look) = true
is_looking work = false

-- an edit of the open transaction was refused as one too many
abbrev pub has_too_many : Work → Bool
has_too_many (Open transaction) = transaction.too_many
has_too_many work = false

-- the number of the snapshot that is declared behind this one
abbrev pub number_behind : ℕ → Option (List ℕ) → Option ℕ
number_behind newest None = None
number_behind newest (Some label) = Some (newest + 1)
