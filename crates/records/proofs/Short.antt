-- How long records are.
use Rattle.std.proofs.Common.{◌≡◌, ◌<◌, ◌≤◌, ◌+◌, ◌*◌, ◌^◌, ◌++◌, ℕ, true, leb, List, [], ◌∷◌, length, Option, Some, None, arith, length-append}
use Rattle.std.specs.List.{AllByRecursion, flat_map, list_all}
use Rattle.std.proofs.lemmas.Bool.{and_parts, leb-true}
use Rattle.retro_base.specs.declared.limits.TheConstants.{LABEL_BYTES}
use Rattle.retro_base.specs.Fields.{field_bytes}
use Rattle.retro_base.proofs.FieldLaws.{length-field_bytes}
use Rattle.history.specs.declared.entry.Base.{Base}
use Rattle.history.specs.declared.entry.Mark.{Mark}
use Rattle.history.specs.declared.entry.Change.{Change}
use Rattle.history.specs.declared.entry.Change.TheVariants.{Commit, Drop}
use Rattle.history.specs.declared.log.Version.{Version}
use Rattle.history.specs.declared.log.Version.TheVariants.{One, Two}
use Rattle.history.specs.declared.writes.PageImage.{PageImage}
use Rattle.history.specs.Log.{version_number}
use Rattle.history.specs.Marks.{oldest, newest}
use Rattle.history.specs.Label.{is_label, is_printable}
use Rattle.history.specs.Right.{IsBase}
use Rattle.history.specs.Writes.{rises}
use Rattle.records.specs.Entries.{page_width, sizes_bytes, counts_bytes, label_bytes, mark_bytes, write_bytes, declaration_bytes, MarkFits, WriteFits, LabelFits, ChangeFits, base_bytes, change_bytes}
use Rattle.records.specs.declared.entry.Entry.TheVariants as entries
use Rattle.records.specs.Laws.{BasesAreShort, RecordsAreShort}

-- so many items of at most so many bytes
flat-short : {X : Type 0} (f : X → List ℕ) (most : ℕ) (xs : List X) → AllByRecursion (λ x. length (f x) ≤ most) xs → length (flat_map f xs) ≤ length xs * most
flat-short f most [] all = omega arith
flat-short f most (x ∷ xs) all = omega (arith, length-append (f x) (flat_map f xs), flat-short f most xs all.1, all.0)

-- pages that rise up to a limit are no more than it
rises-few : (least limit : ℕ) (pages : List ℕ) → rises least pages ≡ true → AllByRecursion (λ page. page < limit) pages → least ≤ limit → least + length pages ≤ limit
rises-few least limit [] up all le = omega (arith, le)
rises-few least limit (page ∷ pages) up all le =
    let both = and_parts (leb least page) (rises (page + 1) pages) up in
    omega (arith, leb-true least page both.0, rises-few (page + 1) limit pages both.1 all.1 (omega (arith, all.0)))

narrow : (version : Version) → page_width version ≤ 4
narrow One = omega arith
narrow Two = omega arith

label-short : (label : List ℕ) → is_label label ≡ true → length label ≤ 64
label-short label is = leb-true (length label) LABEL_BYTES (and_parts (leb (length label) LABEL_BYTES) (list_all is_printable label) is).0

marks-short : (marks : List Mark) → AllByRecursion MarkFits marks → AllByRecursion (λ mark. length (mark_bytes mark) ≤ 73) marks
marks-short [] all = tt
marks-short (mark ∷ marks) all =
    (omega (arith, length-append (field_bytes 8 mark.start) (label_bytes mark.label), length-field_bytes 8 mark.start, label-short mark.label all.0.label), marks-short marks all.1)

pages-short : (version : Version) (pages : List ℕ) → AllByRecursion (λ page. length (field_bytes (page_width version) page) ≤ 4) pages
pages-short version [] = tt
pages-short version (page ∷ pages) = (omega (arith, length-field_bytes (page_width version) page, narrow version), pages-short version pages)

writes-short : (version : Version) (writes : List PageImage) → AllByRecursion (WriteFits version) writes → AllByRecursion (λ write. length (write_bytes version write) ≤ 1028) writes
writes-short version [] all = tt
writes-short version (write ∷ writes) all =
    (omega (arith, length-append (field_bytes (page_width version) write.page) write.bytes, length-field_bytes (page_width version) write.page, narrow version, all.0.whole), writes-short version writes all.1)

declaration-short : (label : Option (List ℕ)) → LabelFits label → length (declaration_bytes label) ≤ 66
declaration-short None fits = omega arith
declaration-short (Some label) fits = omega (arith, label-short label fits)

base-long : (version : Version) (base : Base) → length (base_bytes version base) ≡ 39 + length (flat_map mark_bytes base.marks) + length (flat_map (field_bytes (page_width version)) base.captured)
base-long version base =
    let ends : List ℕ = flat_map (field_bytes (page_width version)) base.captured in
    let middle : List ℕ = flat_map mark_bytes base.marks in
    omega (
      arith,
      length-append (sizes_bytes version base) (counts_bytes base ++ (middle ++ ends)),
      length-append (counts_bytes base) (middle ++ ends),
      length-append middle ends,
      length-append (field_bytes 2 (version_number version)) (field_bytes 4 base.page_count ++ field_bytes 4 base.capacity),
      length-append (field_bytes 4 base.page_count) (field_bytes 4 base.capacity),
      length-append (field_bytes 8 base.changes) (field_bytes 8 base.captures ++ (field_bytes 4 (oldest base.marks) ++ (field_bytes 4 (newest base.marks) ++ field_bytes 4 (length base.captured)))),
      length-append (field_bytes 8 base.captures) (field_bytes 4 (oldest base.marks) ++ (field_bytes 4 (newest base.marks) ++ field_bytes 4 (length base.captured))),
      length-append (field_bytes 4 (oldest base.marks)) (field_bytes 4 (newest base.marks) ++ field_bytes 4 (length base.captured)),
      length-append (field_bytes 4 (newest base.marks)) (field_bytes 4 (length base.captured)),
      length-field_bytes 2 (version_number version),
      length-field_bytes 4 base.page_count,
      length-field_bytes 4 base.capacity,
      length-field_bytes 8 base.changes,
      length-field_bytes 8 base.captures,
      length-field_bytes 4 (oldest base.marks),
      length-field_bytes 4 (newest base.marks),
      length-field_bytes 4 (length base.captured),
    )

pub changes_are_short : (version : Version) (change : Change) → ChangeFits version change → length (change_bytes version change) < 2 ^ 32
changes_are_short version (Commit label writes) fits =
    let images = flat-short (write_bytes version) 1028 writes (writes-short version writes fits.3) in
    omega (
      arith,
      length-append (declaration_bytes label) (field_bytes 2 (length writes) ++ flat_map (write_bytes version) writes),
      length-append (field_bytes 2 (length writes)) (flat_map (write_bytes version) writes),
      length-field_bytes 2 (length writes),
      declaration-short label fits.0,
      fits.1,
      images,
    )
changes_are_short version (Drop below) fits = omega (arith, length-field_bytes 4 below)

-- the captured pages of a right base are pages of its store
pub captured_few : (base : Base) → IsBase base → length base.captured ≤ 65536
captured_few base right = omega (arith, rises-few 0 base.page_count base.captured right.rising right.in_store (omega arith), right.pages.1)

-- 39 bytes, and those of at most 65,536 snapshots of 73 and 65,536 pages of 4
pub bases_are_short : BasesAreShort
bases_are_short version base fits right =
    let marks = flat-short mark_bytes 73 base.marks (marks-short base.marks fits.marks) in
    let captured = flat-short (field_bytes (page_width version)) 4 base.captured (pages-short version base.captured) in
    omega (arith, base-long version base, marks, captured, captured_few base right, right.limits.retained)

pub records_are_short : RecordsAreShort
records_are_short version (entries.Base base) fits right = omega (arith, bases_are_short version base fits right)
records_are_short version (entries.Change change) fits right = changes_are_short version change fits
