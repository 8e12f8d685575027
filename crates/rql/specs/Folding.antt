-- States into which what is taken of the answers is folded, one part more at a time.
use Rattle.std.specs.Prelude.{◌≡◌, ◌++◌, ℕ, List, [], ◌∷◌, Result, Ok, Err, length}
use Rattle.retro_base.specs.declared.refusal.Refusal.{Refusal}
use Rattle.sql_tree.specs.declared.statement.Column.{Column}

-- a part goes into a state at a place: where the old state held so many parts, the new one holds them and this one
abbrev pub Adds : {S X : Type 0} → (List Column → S → List X → Type 0) → ℕ → X → S → S → Type 0
Adds {X = X} holds place part old new =
    (columns : List Column) (parts : List X) → length parts ≡ place → holds columns old parts
    → holds columns new (parts ++ part ∷ [])

-- a state holds so many parts
abbrev pub HoldsMany : {S X : Type 0} → (List Column → S → List X → Type 0) → ℕ → List Column × S → Type 0
HoldsMany {X = X} holds many found = (parts : List X) × (length parts ≡ many) × holds found.0 found.1 parts

-- a state holds what was gathered, a part for each of so many snapshots; else the refusal is its own
abbrev pub IsHeld : {S X : Type 0} → (List Column → S → List X → Type 0) → ℕ → Result (List Column × List X) Refusal
    → Result (List Column × S) Refusal → Type 0
IsHeld {X = X} holds places whole (Ok found) =
    (parts : List X) × (length parts ≡ places) × holds found.0 found.1 parts × (whole ≡ Ok (found.0, parts))
IsHeld holds places whole (Err why) = whole ≡ Err why
