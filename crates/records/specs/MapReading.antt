-- Reading a record of the Maplog from the front of bytes, field by field. That it gives exactly the records whose bytes
-- these are is said where one is decoded.
use Rattle.std.specs.Prelude.{◌==◌, ◌&&◌, nat_le, ℕ, zero, suc, List, [], ◌∷◌}
use Rattle.std.specs.Prelude.{length, Option, Some, None, if◌then◌else◌}
use Rattle.history.specs.declared.log.Version.{Version}
use Rattle.records.specs.Entries.{page_width}
use Rattle.history.specs.Log.{version_number}
use Rattle.records.specs.Reading.{◌>>=◌, where_true, take_number, take_list}
use Rattle.records.specs.declared.map_entry.MapEntry.{MapEntry}
use Rattle.records.specs.declared.map_entry.MapEntry.TheVariants.{Start, Run, Low}
use Rattle.records.specs.declared.map_entry.TheConstants.{RUN_PAGES}

unfoldable pub take_start : Version → List ℕ → Option (MapEntry × List ℕ)
take_start version bytes = do
  number ← take_number 2 bytes
  low ← take_number 8 number.1
  capacity ← take_number 4 low.1
  where_true (number.0 == version_number version) (Start low.0 capacity.0, capacity.1)

-- a page's number, whatever page was before
abbrev pub take_mapped : Version → ℕ → List ℕ → Option (ℕ × List ℕ)
take_mapped version _ bytes = take_number (page_width version) bytes

abbrev pub no_matter : ℕ → ℕ
no_matter page = 0

unfoldable pub take_run : Version → List ℕ → Option (MapEntry × List ℕ)
take_run version bytes = do
  first ← take_number 8 bytes
  count ← take_number 4 first.1
  pages ← if nat_le 1 count.0 && nat_le count.0 RUN_PAGES
      then take_list (take_mapped version) no_matter count.0 0 count.1 else None
  Some (Run first.0 pages.0, pages.1)

unfoldable pub take_low : List ℕ → Option (MapEntry × List ℕ)
take_low bytes = do
  low ← take_number 8 bytes
  Some (Low low.0, low.1)

-- the first byte tells which record it is
unfoldable pub take_map_entry : Version → List ℕ → Option (MapEntry × List ℕ)
take_map_entry version [] = None
take_map_entry version (zero ∷ bytes) = None
take_map_entry version (suc zero ∷ bytes) = take_start version bytes
take_map_entry version (suc (suc zero) ∷ bytes) = take_run version bytes
take_map_entry version (suc (suc (suc zero)) ∷ bytes) = take_low bytes
take_map_entry version (suc (suc (suc (suc tag))) ∷ bytes) = None

-- a record, all of the bytes
unfoldable pub whole_map_entry : Version → List ℕ → Option MapEntry
whole_map_entry version bytes = do
  entry ← take_map_entry version bytes
  where_true (length entry.1 == 0) entry.0
