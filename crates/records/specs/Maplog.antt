-- What the bodies of the Maplog stand for.
use Rattle.std.specs.Prelude.{◌≡◌, ◌+◌, ◌≤◌, ◌<◌, ◌^◌, ◌++◌, ℕ, List, [], ◌∷◌, length}
use Rattle.std.specs.List.{AllByRecursion, flat_map}
use Rattle.retro_base.specs.declared.limits.TheConstants.{MAX_CAPTURES}
use Rattle.retro_base.specs.Fields.{field_bytes}
use Rattle.history.specs.declared.log.Version.{Version}
use Rattle.records.specs.Entries.{page_width}
use Rattle.history.specs.Log.{version_number}
use Rattle.skippy.specs.Mappings.{Mappings, end_of, push, trim}
use Rattle.records.specs.declared.map_entry.MapEntry.{MapEntry}
use Rattle.records.specs.declared.map_entry.MapEntry.TheVariants.{Start, Run, Low}
use Rattle.records.specs.declared.map_entry.TheConstants.{RUN_PAGES}
use Rattle.records.specs.InTurn.{InTurn, reached}

-- A start: 1, the version, the number of the first mapping, and the capacity. A run: 2, the number of its first
-- mapping, how many there are, and their pages. A low mark: 3, and the number.
abbrev pub map_entry_bytes : Version → MapEntry → List ℕ
map_entry_bytes version (Start low capacity) =
    1 ∷ (field_bytes 2 (version_number version) ++ (field_bytes 8 low ++ field_bytes 4 capacity))
map_entry_bytes version (Run first pages) =
    2 ∷ (field_bytes 8 first ++ (field_bytes 4 (length pages) ++ flat_map (field_bytes (page_width version)) pages))
map_entry_bytes version (Low low) = 3 ∷ field_bytes 8 low

-- an entry whose fields fit theirs
abbrev pub MapEntryFits : Version → MapEntry → Type 0
MapEntryFits version (Start low capacity) = (low < 2 ^ 64) × (capacity < 2 ^ 32)
MapEntryFits version (Run first pages) = (first < 2 ^ 64) × (1 ≤ length pages) × (length pages ≤ RUN_PAGES)
    × AllByRecursion (λ page. page < 256 ^ page_width version) pages
MapEntryFits version (Low low) = low < 2 ^ 64

-- the mappings behind a record: a run adds its own, a low mark forgets those below it
abbrev pub mappings_after : Mappings → MapEntry → Mappings
mappings_after mappings (Start low capacity) = mappings
mappings_after mappings (Run first pages) = push mappings pages
mappings_after mappings (Low low) = trim mappings low

-- A right record behind these mappings of a store of that many pages: a run goes on where they end, up to the most
-- captures, with pages of the store; a low mark does not fall, and is at most their end.
abbrev pub IsRightMapping : ℕ → Mappings → MapEntry → Type 0
IsRightMapping page_count mappings (Start low capacity) = ⊥
IsRightMapping page_count mappings (Run first pages) =
    (first ≡ end_of mappings) × (end_of mappings + length pages ≤ MAX_CAPTURES)
    × AllByRecursion (λ page. page < page_count) pages
IsRightMapping page_count mappings (Low low) = (mappings.low ≤ low) × (low ≤ end_of mappings)

-- a start, of that capacity, and the mappings behind it: none from its number on
pub record IsStart (capacity : ℕ) (entry : MapEntry) (mappings : Mappings) : Type 0 where
  pub low : ℕ
  pub is : entry ≡ Start low capacity
  pub right : low ≤ MAX_CAPTURES
  pub none : mappings ≡ record { low = low; pages = [] }

-- the body of such a start
pub record IsStartBody (version : Version) (capacity : ℕ) (body : List ℕ) (mappings : Mappings) : Type 0 where
  pub entry : MapEntry
  pub spelled : body ≡ map_entry_bytes version entry
  pub fits : MapEntryFits version entry
  pub start : IsStart capacity entry mappings

-- the body of a record that is right there
pub record IsMappingBody (version : Version) (page_count : ℕ) (mappings : Mappings) (body : List ℕ)
    (entry : MapEntry) : Type 0 where
  pub spelled : body ≡ map_entry_bytes version entry
  pub fits : MapEntryFits version entry
  pub right : IsRightMapping page_count mappings entry

-- The bodies, in records of this version and beside a log of that many pages and that capacity, are a start and records
-- that are right in turn, and these mappings are kept behind them.
pub record MapsTo (version : Version) (page_count capacity : ℕ) (body : List ℕ) (bodies : List (List ℕ))
    (mappings : Mappings) : Type 0 where
  pub start : Mappings
  pub entries : List MapEntry
  pub first : IsStartBody version capacity body start
  pub others : InTurn (IsMappingBody version page_count) mappings_after start bodies entries
  pub kept : mappings ≡ reached mappings_after start entries

abbrev pub IsMaplog : Version → ℕ → ℕ → List (List ℕ) → Mappings → Type 0
IsMaplog version page_count capacity [] mappings = ⊥
IsMaplog version page_count capacity (body ∷ bodies) mappings = MapsTo version page_count capacity body bodies mappings
