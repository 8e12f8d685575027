-- What the bodies of the log stand for.
use Rattle.std.specs.Prelude.{◌≡◌, ℕ, List, [], ◌∷◌}
use Rattle.history.specs.declared.entry.Base.{Base}
use Rattle.history.specs.declared.entry.Change.{Change}
use Rattle.history.specs.declared.log.Log.{Log}
use Rattle.history.specs.declared.log.Version.{Version}
use Rattle.history.specs.History.{base_after}
use Rattle.history.specs.Right.{IsBase, IsRight}
use Rattle.records.specs.declared.entry.Entry.TheVariants as entries
use Rattle.records.specs.Entries.{entry_bytes, EntryFits}
use Rattle.records.specs.InTurn.{InTurn}

-- the body of a right base
pub record IsBaseBody (version : Version) (body : List ℕ) (base : Base) : Type 0 where
  pub spelled : body ≡ entry_bytes version (entries.Base base)
  pub fits : EntryFits version (entries.Base base)
  pub right : IsBase base

-- the body of a change that is right there
pub record IsChangeBody (version : Version) (base : Base) (body : List ℕ) (change : Change) : Type 0 where
  pub spelled : body ≡ entry_bytes version (entries.Change change)
  pub fits : EntryFits version (entries.Change change)
  pub right : IsRight base change

-- The bodies are those of a log of this version: a right base, and changes that are right in turn.
abbrev pub IsLog : Version → List (List ℕ) → Log → Type 0
IsLog version [] log = ⊥
IsLog version (body ∷ bodies) log = (log.version ≡ version) × IsBaseBody version body log.base
    × InTurn (IsChangeBody version) base_after log.base bodies log.changes
