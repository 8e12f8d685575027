-- What adding and taking out make of the entries of a page.
use Rattle.std.specs.Prelude.{◌==◌, not, ℕ, Bool, List, [], ◌∷◌, if◌then◌else◌}
use Rattle.std.specs.List.{list_any, position_or_len}
use Rattle.std.specs.Ordering.{is_gt, is_lt, match_ordering}
use Rattle.values.specs.Value.{value_cmp}
use Rattle.values.specs.declared.value.Value.{Value}
use Rattle.pager.specs.Index.{found_cmp}
use Rattle.pager.specs.declared.index.Found.{Found}

-- whether an entry stands at or behind the place of another
abbrev pub is_behind : Found → Found → Bool
is_behind entry found = not (is_lt (found_cmp found entry))

-- whether some entry does: then the place is among these
abbrev pub reaches : Found → List Found → Bool
reaches entry = list_any (is_behind entry)

-- the place of another entry: that of the first one that does, or the end
abbrev pub entry_place : Found → List Found → ℕ
entry_place entry = position_or_len (is_behind entry)

-- the entries with one more, before the first that is not below it, which gives way where it is of its value and row
-- number
abbrev pub entry_inserted : Found → List Found → List Found
entry_inserted entry [] = entry ∷ []
entry_inserted entry (found ∷ rest) =
    match_ordering (found_cmp found entry) (found ∷ entry_inserted entry rest) (entry ∷ rest) (entry ∷ found ∷ rest)

-- the entries without one, where it is the first that is not below it
abbrev pub taken_out : Found → List Found → List Found
taken_out entry [] = []
taken_out entry (found ∷ rest) =
    match_ordering (found_cmp found entry) (found ∷ taken_out entry rest)
    (if found.page == entry.page then rest else found ∷ rest) (found ∷ rest)

-- whether some entry's value is above this one
abbrev pub is_past : Value → List Found → Bool
is_past high = list_any (λ (found : Found). is_gt (value_cmp found.value high))
