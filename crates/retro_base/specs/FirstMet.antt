-- The first mapping of a page among numbered mappings.
use Rattle.std.specs.Prelude.{◌+◌, ◌-◌, ◌==◌, ℕ, List, Option, take, drop, position}
use Rattle.std.specs.Option.{option_map}

-- the number of the first mapping of this page at or behind `from` and before `to`; the mappings, told by their pages,
-- are numbered from 0
abbrev pub first_met : List ℕ → ℕ → ℕ → ℕ → Option ℕ
first_met pages from to page =
    option_map (λ place. from + place) (position (λ other. other == page) (take (to - from) (drop from pages)))
