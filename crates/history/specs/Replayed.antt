-- A store in memory, as a place in a history.
use Rattle.std.specs.Prelude.{ℕ, List, [], slice_index_or}
use Rattle.history.specs.declared.replaying.Replayed.{Replayed}
use Rattle.history.specs.History.{State}

-- the bytes of a page in a list of pages; none where there is no such page
abbrev pub page_in : List (List ℕ) → ℕ → List ℕ
page_in pages page = slice_index_or pages page []

abbrev pub state_of : Replayed → State
state_of store = record { base = store.base; pages = page_in store.pages }
