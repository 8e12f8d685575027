-- The stores of a cabinet in memory, by name.
use Rattle.std.specs.Prelude.{◌≡◌, ◌==◌, ℕ, Bool, List, [], Option, Some, None, replicate, string_bytes}
use mathlib.Core.Path.{ap}
use Rattle.std.specs.Cmp.Lexicographic.{pointwise}
use Rattle.std.specs.List.{find}
use Rattle.std.specs.Option.{option_map}
use Rattle.disk_model.specs.declared.four.Four.{Four}
use Rattle.disk_mem.specs.Disks.{Device, fresh}
use Rattle.disk_model.specs.Sizes.{log_bytes, maplog_bytes, pagelog_bytes, pages_bytes}
use Rattle.disk_model.specs.declared.four.Sizes.{Sizes}
use Rattle.mem_cabinet.specs.declared.cabinet.Shelf.{Shelf}

-- whether the shelf has these bytes as its name
abbrev pub has_name : List ℕ → Shelf → Bool
has_name name shelf = pointwise ◌==◌ (string_bytes shelf.name) name

-- what the first shelf of that name holds: a store, or none while it is out
abbrev pub shelf_of : List Shelf → List ℕ → Option (Option (Four Device))
shelf_of shelves name = option_map (λ shelf. shelf.store) (find (has_name name) shelves)

abbrev pub store_on : Option (Option (Four Device)) → Option (Four Device)
store_on None = None
store_on (Some store) = store

-- the store of that name
abbrev pub store_of : List Shelf → List ℕ → Option (Four Device)
store_of shelves name = store_on (shelf_of shelves name)

-- the store of that name is out
abbrev pub IsOut : List Shelf → List ℕ → Type 0
IsOut shelves name = shelf_of shelves name ≡ Some None

-- where a store is out none stands
pub none_out : (shelves : List Shelf) (name : List ℕ) → IsOut shelves name → store_of shelves name ≡ None
none_out shelves name out = ap store_on out

-- a device of that many bytes, all of them 0, of which no call fails
abbrev pub blank : ℕ → Device
blank size = fresh (replicate size 0) [] None

-- the devices of a new store of these sizes
abbrev pub blank_store : Sizes → Four Device
blank_store sizes = record {
  log = blank log_bytes;
  pages = blank (pages_bytes sizes.pages);
  pagelog = blank (pagelog_bytes sizes.capacity);
  maplog = blank (maplog_bytes sizes.capacity);
}
