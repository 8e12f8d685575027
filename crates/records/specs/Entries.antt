-- The bytes of the log's records.
use Rattle.std.specs.Prelude.{◌≡◌, ◌≤◌, ◌<◌, ◌^◌, ◌+◌, ◌++◌, ℕ, IsTrue, List, [], ◌∷◌, length, Option, Some, None}
use Rattle.std.specs.List.{AllByRecursion, flat_map}
use Rattle.retro_base.specs.declared.limits.TheConstants.{EDITED_PAGES, PAGE_BYTES}
use Rattle.retro_base.specs.Fields.{field_bytes}
use Rattle.history.specs.declared.entry.Base.{Base}
use Rattle.history.specs.declared.entry.Mark.{Mark}
use Rattle.history.specs.declared.entry.Change.{Change}
use Rattle.history.specs.declared.entry.Change.TheVariants.{Commit, Drop}
use Rattle.records.specs.declared.entry.Entry.{Entry}
use Rattle.records.specs.declared.entry.Entry.TheVariants as entries
use Rattle.history.specs.declared.log.Version.{Version}
use Rattle.history.specs.declared.log.Version.TheVariants.{One, Two}
use Rattle.history.specs.declared.writes.PageImage.{PageImage}
use Rattle.history.specs.Label.{is_label}
use Rattle.history.specs.Log.{version_number}
use Rattle.history.specs.Marks.{oldest, newest}
use Rattle.history.specs.Writes.{pages_of, rises}

-- how many bytes a page's number takes
abbrev pub page_width : Version → ℕ
page_width One = 2
page_width Two = 4

-- a byte of length, and the label
abbrev pub label_bytes : List ℕ → List ℕ
label_bytes label = length label ∷ label

abbrev pub mark_bytes : Mark → List ℕ
mark_bytes mark = field_bytes 8 mark.start ++ label_bytes mark.label

abbrev pub write_bytes : Version → PageImage → List ℕ
write_bytes version write = field_bytes (page_width version) write.page ++ write.bytes

-- 1, the version, and the sizes
abbrev pub sizes_bytes : Version → Base → List ℕ
sizes_bytes version base =
    1 ∷ (field_bytes 2 (version_number version) ++ (field_bytes 4 base.page_count ++ field_bytes 4 base.capacity))

-- how many changes and captures there were, the oldest and the newest snapshot, and how many pages are captured since
abbrev pub counts_bytes : Base → List ℕ
counts_bytes base =
    field_bytes 8 base.changes
    ++ (field_bytes 8 base.captures
    ++ (field_bytes 4 (oldest base.marks)
    ++ (field_bytes 4 (newest base.marks) ++ field_bytes 4 (length base.captured))))

-- a base: its sizes and counts, the snapshots, and the captured pages
abbrev pub base_bytes : Version → Base → List ℕ
base_bytes version base =
    sizes_bytes version base
    ++ (counts_bytes base
    ++ (flat_map mark_bytes base.marks ++ flat_map (field_bytes (page_width version)) base.captured))

-- a flag, and the label where there is one
abbrev pub declaration_bytes : Option (List ℕ) → List ℕ
declaration_bytes None = 0 ∷ []
declaration_bytes (Some label) = 1 ∷ label_bytes label

-- A commit: 2, its declaration, how many pages it writes, and the writes. A drop: 3, and the number.
abbrev pub change_bytes : Version → Change → List ℕ
change_bytes version (Commit label writes) =
    2 ∷ (declaration_bytes label ++ (field_bytes 2 (length writes) ++ flat_map (write_bytes version) writes))
change_bytes version (Drop below) = 3 ∷ field_bytes 4 below

abbrev pub entry_bytes : Version → Entry → List ℕ
entry_bytes version (entries.Base base) = base_bytes version base
entry_bytes version (entries.Change change) = change_bytes version change

-- no number is left out, from this one on
abbrev pub IsNumberedFrom : ℕ → List Mark → Type 0
IsNumberedFrom number [] = Unit {0}
IsNumberedFrom number (mark ∷ marks) = (mark.number ≡ number) × IsNumberedFrom (number + 1) marks

-- a mark whose fields fit theirs
pub record MarkFits (mark : Mark) : Type 0 where
  pub label : IsTrue (is_label mark.label)
  pub start : mark.start < 2 ^ 64

-- a base whose fields fit theirs
pub record BaseFits (version : Version) (base : Base) : Type 0 where
  pub page_count : base.page_count < 2 ^ 32
  pub capacity : base.capacity < 2 ^ 32
  pub changes : base.changes < 2 ^ 64
  pub captures : base.captures < 2 ^ 64
  pub horizon : (oldest base.marks < 2 ^ 32) × (newest base.marks < 2 ^ 32)
  pub marks : AllByRecursion MarkFits base.marks
  pub numbered : IsNumberedFrom (oldest base.marks) base.marks
  pub count : length base.captured < 2 ^ 32
  pub rising : IsTrue (rises 0 base.captured)
  pub pages : AllByRecursion (λ page. page < 256 ^ page_width version) base.captured

-- a page image whose page fits its field
pub record WriteFits (version : Version) (write : PageImage) : Type 0 where
  pub page : write.page < 256 ^ page_width version
  pub whole : length write.bytes ≡ PAGE_BYTES

abbrev pub LabelFits : Option (List ℕ) → Type 0
LabelFits None = Unit {0}
LabelFits (Some label) = IsTrue (is_label label)

abbrev pub ChangeFits : Version → Change → Type 0
ChangeFits version (Commit label writes) = LabelFits label × (length writes ≤ EDITED_PAGES)
    × IsTrue (rises 0 (pages_of writes)) × AllByRecursion (WriteFits version) writes
ChangeFits version (Drop below) = below < 2 ^ 32

-- an entry whose fields fit theirs
abbrev pub EntryFits : Version → Entry → Type 0
EntryFits version (entries.Base base) = BaseFits version base
EntryFits version (entries.Change change) = ChangeFits version change
