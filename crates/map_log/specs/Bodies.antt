-- The records in which mappings are written anew.
use Rattle.std.specs.Prelude.{◌+◌, ◌*◌, ℕ, List, ◌∷◌, length, map, take, drop}
use Rattle.std.specs.Int.{div_ceil}
use Rattle.std.specs.List.{range_with_len}
use Rattle.history.specs.declared.log.Version.{Version}
use Rattle.records.specs.Entries.{page_width}
use Rattle.records.specs.Maplog.{map_entry_bytes}
use Rattle.records.specs.declared.map_entry.MapEntry.{MapEntry}
use Rattle.records.specs.declared.map_entry.MapEntry.TheVariants.{Start, Run}
use Rattle.records.specs.declared.map_entry.TheConstants.{RUN_PAGES}

-- the bytes of the body of a low mark
abbrev pub low_length : ℕ
low_length = 9

-- the bytes of the body of a run of so many pages
abbrev pub run_length : Version → ℕ → ℕ
run_length version count = 13 + page_width version * count

-- the run of that index: `RUN_PAGES` of the mappings numbered from `low` on, the last run as many as there are
abbrev pub run_at : ℕ → List ℕ → ℕ → MapEntry
run_at low pages index = Run (low + index * RUN_PAGES) (take RUN_PAGES (drop (index * RUN_PAGES) pages))

-- a start, and so many runs
abbrev pub bodies_to : Version → ℕ → ℕ → List ℕ → ℕ → List (List ℕ)
bodies_to version capacity low pages count =
    map_entry_bytes version (Start low capacity) ∷ map (λ index. map_entry_bytes version (run_at low pages index))
    (range_with_len 0 count)

-- a start, and runs of all mappings
abbrev pub maplog_bodies : Version → ℕ → ℕ → List ℕ → List (List ℕ)
maplog_bodies version capacity low pages = bodies_to version capacity low pages (div_ceil (length pages) RUN_PAGES)
