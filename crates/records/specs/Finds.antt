-- Searches that either give what has a property, or tell that nothing has it.
use Rattle.std.specs.Prelude.{Result, Ok, Err}
use Rattle.records.specs.declared.decoding.DecodeError.{DecodeError}
use Rattle.records.specs.declared.decoding.DecodeError.TheVariants.{OutOfMemory, Malformed}

-- nothing has the property, unless memory ran out
abbrev pub FindsNone : {X : Type 0} → (X → Type 0) → DecodeError → Type 0
FindsNone Has OutOfMemory = Unit {0}
FindsNone Has Malformed = (x : _) → Has x → ⊥

-- the value has the property, or nothing has it, unless memory ran out
abbrev pub Finds : {X : Type 0} → (X → Type 0) → Result X DecodeError → Type 0
Finds Has (Ok x) = Has x
Finds Has (Err e) = FindsNone Has e
