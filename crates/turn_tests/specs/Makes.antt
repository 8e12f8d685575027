-- What the calls of the small desk make of it.
use Rattle.std.specs.Prelude.{◌≡◌, ◌≢◌, ◌⊎◌, ◌<◌, ℕ, Bool, [], ◌∷◌, ◌++◌, None, slice_index_or, if◌then◌else◌}
use Rattle.history.specs.declared.journal.Line.{Line}
use Rattle.turn.specs.Faults.{LAST}
use Rattle.turn_tests.specs.Meanings.{newest_behind}
use Rattle.turn_tests.specs.declared.small.Book.{Book}

-- a line more, or none
pub record Makes (line : Line) (added : Bool) (old new : Book) : Type 0 where
  pub lines : new.lines ≡ old.lines ++ (if added then line ∷ [] else [])
  pub newest : new.newest ≡ (if added then newest_behind old.newest line.what else old.newest)
  pub works : (n : ℕ) → n ≢ line.who.session → slice_index_or new.works n None ≡ slice_index_or old.works n None
  pub start : new.start ≡ old.start
  pub faults : new.faults ≡ old.faults
  pub acked : new.acked ≡ old.acked

-- a count of faults rose, or stands at its last value
pub record IsMore (old new : ℕ) : Type 0 where
  pub more : (old < new) ⊎ (new ≡ LAST)
