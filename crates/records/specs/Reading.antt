-- Reading an entry from the front of bytes, field by field. That it gives exactly the entries whose bytes these are is
-- said where an entry is decoded.
use Rattle.std.specs.Prelude.{◌≡◌, ◌+◌, ◌-◌, ◌==◌, ◌&&◌, nat_lt, nat_le, ℕ, zero, suc, Bool, List, [], ◌∷◌}
use Rattle.std.specs.Prelude.{length, take, drop, Option, Some, None, Result, Ok, Err, if◌then◌else◌}
use Rattle.retro_base.specs.declared.limits.TheConstants.{EDITED_PAGES, PAGE_BYTES}
use Rattle.retro_base.specs.Fields.{number_at}
use Rattle.history.specs.declared.entry.Base.{Base}
use Rattle.history.specs.declared.entry.Mark.{Mark}
use Rattle.history.specs.declared.entry.Change.{Change}
use Rattle.history.specs.declared.entry.Change.TheVariants.{Commit, Drop}
use Rattle.records.specs.declared.entry.Entry.{Entry}
use Rattle.records.specs.declared.entry.Entry.TheVariants as entries
use Rattle.history.specs.declared.log.Version.{Version}
use Rattle.history.specs.declared.writes.PageImage.{PageImage}
use Rattle.records.specs.declared.decoding.DecodeError.{DecodeError}
use Rattle.records.specs.declared.decoding.DecodeError.TheVariants.{OutOfMemory, Malformed}
use Rattle.history.specs.Label.{is_label}
use Rattle.records.specs.Entries.{page_width}
use Rattle.history.specs.Log.{version_number}

infixl 10 ◌>>=◌
abbrev pub ◌>>=◌ : {A B : Type 0} → Option A → (A → Option B) → Option B
None >>= f = None
(Some x) >>= f = f x

-- an error is what reading gives, unless memory ran out
abbrev pub Fails : {Y : Type 0} → DecodeError → Option Y → Type 0
Fails OutOfMemory reading = Unit {0}
Fails Malformed reading = reading ≡ None

-- an answer, seen by `view`, is what reading gives, unless memory ran out
abbrev pub Decodes : {X Y : Type 0} → (X → Y) → Result X DecodeError → Option Y → Type 0
Decodes view (Ok x) reading = reading ≡ Some (view x)
Decodes view (Err e) reading = Fails e reading

-- the value if the test passes
abbrev pub where_true : {X : Type 0} → Bool → X → Option X
where_true test x = if test then Some x else None

abbrev pub take_number : ℕ → List ℕ → Option (ℕ × List ℕ)
take_number width bytes = if nat_lt (length bytes) width then None else Some (number_at width bytes 0, drop width bytes)

abbrev pub take_bytes : ℕ → List ℕ → Option (List ℕ × List ℕ)
take_bytes count bytes = if nat_lt (length bytes) count then None else Some (take count bytes, drop count bytes)

unfoldable pub take_label : List ℕ → Option (List ℕ × List ℕ)
take_label bytes = do
  count ← take_number 1 bytes
  label ← take_bytes count.0 count.1
  where_true (is_label label.0) label

unfoldable pub take_declaration : List ℕ → Option (Option (List ℕ) × List ℕ)
take_declaration [] = None
take_declaration (zero ∷ bytes) = Some (None, bytes)
take_declaration (suc zero ∷ bytes) = do
  label ← take_label bytes
  Some (Some label.0, label.1)
take_declaration (suc (suc flag) ∷ bytes) = None

-- a mark with this number
unfoldable pub take_mark : ℕ → List ℕ → Option (Mark × List ℕ)
take_mark number bytes = do
  start ← take_number 8 bytes
  label ← take_label start.1
  Some (record { number = number; label = label.0; start = start.0 }, label.1)

-- a page whose number is at least this one
unfoldable pub take_page : Version → ℕ → List ℕ → Option (ℕ × List ℕ)
take_page version least bytes = do
  page ← take_number (page_width version) bytes
  where_true (nat_le least page.0) page

-- a page image whose page is at least this one
unfoldable pub take_image : Version → ℕ → List ℕ → Option (PageImage × List ℕ)
take_image version least bytes = do
  page ← take_page version least bytes
  image ← take_bytes PAGE_BYTES page.1
  Some (record { page = page.0; bytes = image.0 }, image.1)

-- so many items, each read with the number that `next` gives of the one before
unfoldable pub take_list : {X : Type 0} → (ℕ → List ℕ → Option (X × List ℕ)) → (X → ℕ) → ℕ → ℕ → List ℕ →
    Option (List X × List ℕ)
take_list item next zero number bytes = Some ([], bytes)
take_list item next (suc count) number bytes = do
  first ← item number bytes
  others ← take_list item next count (next first.0) first.1
  Some (first.0 ∷ others.0, others.1)

abbrev pub after_mark : Mark → ℕ
after_mark mark = mark.number + 1

abbrev pub after_page : ℕ → ℕ
after_page page = page + 1

abbrev pub after_image : PageImage → ℕ
after_image image = image.page + 1

-- the marks from the oldest to the newest; there are none exactly where these are 1 and 0
unfoldable pub take_marks : ℕ → ℕ → List ℕ → Option (List Mark × List ℕ)
take_marks oldest newest bytes =
    if nat_lt newest oldest then where_true (oldest == 1 && newest == 0) ([], bytes)
    else take_list take_mark after_mark (newest + 1 - oldest) oldest bytes

-- the fields of a base stand at these places, and behind them the marks and the captured pages
unfoldable pub base_from : Version → List ℕ → Option (Base × List ℕ)
base_from version bytes = do
  marks ← take_marks (number_at 4 bytes 27) (number_at 4 bytes 31) (drop 39 bytes)
  captured ← take_list (take_page version) after_page (number_at 4 bytes 35) 0 marks.1
  Some (
    record {
      page_count = number_at 4 bytes 3;
      capacity = number_at 4 bytes 7;
      changes = number_at 8 bytes 11;
      captures = number_at 8 bytes 19;
      marks = marks.0;
      captured = captured.0;
    },
    captured.1,
  )

unfoldable pub take_base : Version → List ℕ → Option (Base × List ℕ)
take_base version bytes = if nat_lt (length bytes) 39 then None else if number_at 2 bytes 1 == version_number version
    then base_from version bytes else None

unfoldable pub take_commit : Version → List ℕ → Option (Change × List ℕ)
take_commit version bytes = do
  label ← take_declaration bytes
  count ← take_number 2 label.1
  writes ← if nat_le count.0 EDITED_PAGES then take_list (take_image version) after_image count.0 0 count.1 else None
  Some (Commit label.0 writes.0, writes.1)

unfoldable pub take_drop : List ℕ → Option (Change × List ℕ)
take_drop bytes = do
  below ← take_number 4 bytes
  Some (Drop below.0, below.1)

-- the first byte tells which entry it is
unfoldable pub take_entry : Version → List ℕ → Option (Entry × List ℕ)
take_entry version [] = None
take_entry version (zero ∷ bytes) = None
take_entry version (suc zero ∷ bytes) = do
  base ← take_base version (1 ∷ bytes)
  Some (entries.Base base.0, base.1)
take_entry version (suc (suc zero) ∷ bytes) = do
  change ← take_commit version bytes
  Some (entries.Change change.0, change.1)
take_entry version (suc (suc (suc zero)) ∷ bytes) = do
  change ← take_drop bytes
  Some (entries.Change change.0, change.1)
take_entry version (suc (suc (suc (suc tag))) ∷ bytes) = None

-- an entry, all of the bytes
unfoldable pub whole_entry : Version → List ℕ → Option Entry
whole_entry version bytes = do
  entry ← take_entry version bytes
  where_true (length entry.1 == 0) entry.0
