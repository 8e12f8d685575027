-- What becomes of the rows of a table, one after the other, and how many pages that opens in an index.
use Rattle.std.specs.Prelude.{◌+◌, ℕ, List, [], ◌∷◌, Option, Some, None}
use Rattle.values.specs.declared.value.Value.{Value}
use Rattle.pager.specs.declared.index.Found.{Found}
use Rattle.heap_file.specs.declared.chain.Placed.{Placed}
use Rattle.relation.specs.declared.listing.Moved.{Moved}
use Rattle.relation.specs.Entries.{entry_in, entry_of, entry_out}

-- a row as it stood, and as it stands then: one that is added did not stand before, one that is taken out does not then
pub record Turn : Type 0 where
  pub before : Option Placed
  pub behind : Option Placed

-- a row is added, is taken out, moves
abbrev pub comes : Placed → Turn
comes placed = record { before = None; behind = Some placed }

abbrev pub goes : Placed → Turn
goes placed = record { before = Some placed; behind = None }

abbrev pub moves : Moved → Turn
moves moved = record { before = Some moved.was; behind = Some moved.becomes }

-- the entry that an index over the column at that place gives up then, if any
abbrev pub given_up : ℕ → Option Placed → Option Placed → Option Found
given_up place None behind = None
given_up place (Some was) None = entry_of place was
given_up place (Some was) (Some becomes) = entry_out place (record { was = was; becomes = becomes })

-- and the entry that it takes in
abbrev pub taken_in : ℕ → Option Placed → Option Placed → Option Found
taken_in place before None = None
taken_in place None (Some becomes) = entry_of place becomes
taken_in place (Some was) (Some becomes) = entry_in place (record { was = was; becomes = becomes })

-- what an index holds with an entry less, and with one more
abbrev pub shape_less : {Shape : Type 0} → (Found → Shape → Shape) → Option Found → Shape → Shape
shape_less without None shape = shape
shape_less without (Some entry) shape = without entry shape

abbrev pub shape_more : {Shape : Type 0} → (Found → Shape → Shape) → Option Found → Shape → Shape
shape_more put None shape = shape
shape_more put (Some entry) shape = put entry shape

-- how many pages an entry opens
abbrev pub entry_opens : {Shape : Type 0} → (Value → ℕ → Shape → ℕ) → Option Found → Shape → ℕ
entry_opens opens None shape = 0
entry_opens opens (Some entry) shape = opens entry.value entry.number shape

-- what an index over the column at that place holds once rows turned, in order
abbrev pub turned_shape : {Shape : Type 0} → (Found → Shape → Shape) → (Found → Shape → Shape) → ℕ → List Turn → Shape
    → Shape
turned_shape put without place [] shape = shape
turned_shape put without place (turn ∷ turns) shape =
    turned_shape put without place turns
    (shape_more put (taken_in place turn.before turn.behind)
    (shape_less without (given_up place turn.before turn.behind) shape))

-- and how many pages that opens
abbrev pub turns_open : {Shape : Type 0} → (Found → Shape → Shape) → (Found → Shape → Shape) → (Value → ℕ → Shape → ℕ)
    → ℕ → List Turn → Shape → ℕ
turns_open put without opens place [] shape = 0
turns_open put without opens place (turn ∷ turns) shape =
    entry_opens opens (taken_in place turn.before turn.behind)
    (shape_less without (given_up place turn.before turn.behind) shape)
    + turns_open put without opens place turns
    (shape_more put (taken_in place turn.before turn.behind)
    (shape_less without (given_up place turn.before turn.behind) shape))

-- what an index holds once entries are added, in order
abbrev pub entered : {Shape : Type 0} → (Found → Shape → Shape) → List Found → Shape → Shape
entered put [] shape = shape
entered put (entry ∷ entries) shape = entered put entries (put entry shape)

-- and how many pages that opens
abbrev pub entries_open : {Shape : Type 0} → (Found → Shape → Shape) → (Value → ℕ → Shape → ℕ) → List Found → Shape → ℕ
entries_open put opens [] shape = 0
entries_open put opens (entry ∷ entries) shape =
    opens entry.value entry.number shape + entries_open put opens entries (put entry shape)
