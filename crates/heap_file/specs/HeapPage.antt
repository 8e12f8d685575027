-- Pages that hold rows.
use Rattle.std.specs.Prelude.{◌≡◌, ◌<◌, ◌≤◌, ◌-◌, ◌^◌, ◌++◌, ℕ, Bool, IsTrue, List, [], ◌∷◌}
use Rattle.std.specs.Prelude.{length, drop, replicate, nat_le, slice_index, Option, Some, None}
use Rattle.std.specs.List.{flat_map, AllByRecursion}
use Rattle.retro_base.specs.Fields.{number_at, field_bytes}
use Rattle.retro_base.specs.declared.limits.TheConstants.{COLUMNS, PAGE_BYTES, ROW_BYTES}
use Rattle.values.specs.declared.value.Value.{Value}
use Rattle.values.specs.Row.{row_bytes}
use Rattle.row_codec.specs.RowCode.{row_code, IsEncoded}
use Rattle.heap_file.specs.declared.page.Entry.{Entry}
use Rattle.heap_file.specs.declared.page.HeapPage.{HeapPage}
use Rattle.heap_file.specs.declared.page.TheConstants.{ENTRY_BYTES}

-- an entry: the length of the encoded row in two bytes, and the encoded row
abbrev pub entry_code : Entry → List ℕ
entry_code entry = field_bytes 2 (length (row_code entry.number entry.row)) ++ row_code entry.number entry.row

-- what an entry may be
abbrev pub IsEntry : Entry → Type 0
IsEntry entry = IsEncoded (row_code entry.number entry.row) entry.number entry.row

-- what a row may be that is put into a page: one to sixteen values, and at most 900 bytes encoded
pub record IsShort (row : List Value) : Type 0 where
  pub some : 1 ≤ length row
  pub few : length row ≤ COLUMNS
  pub short : row_bytes row ≤ ROW_BYTES

-- the bytes that entries take
abbrev pub entry_bytes : List Entry → List ℕ
entry_bytes entries = flat_map entry_code entries

-- What the bytes of a page hold. A page of kind 0 was never written. What stands behind the entries is not read.
pub record HoldsRows (bytes : List ℕ) (page : HeapPage) : Type 0 where
  pub kind : slice_index bytes 0 ≤ 1
  pub count : number_at 2 bytes 2 ≡ length page.entries
  pub next : number_at 4 bytes 4 ≡ page.next
  pub next_number : number_at 8 bytes 8 ≡ page.next_number
  pub last : number_at 4 bytes 16 ≡ page.last
  pub behind : List ℕ
  pub packed : drop 20 bytes ≡ entry_bytes page.entries ++ behind
  pub lawful : AllByRecursion IsEntry page.entries

-- what the bytes hold, or none where they are no heap page's
abbrev pub IsHeld : List ℕ → Option HeapPage → Type 0
IsHeld bytes None = (page : HeapPage) → HoldsRows bytes page → ⊥
IsHeld bytes (Some page) = HoldsRows bytes page

-- the bytes of a page before its entries
abbrev pub header : HeapPage → List ℕ
header page =
    1 ∷ 0 ∷ field_bytes 2 (length page.entries) ++ field_bytes 4 page.next ++ field_bytes 8 page.next_number
    ++ field_bytes 4 page.last

-- how a page is written; the rest is zero
unfoldable pub page_bytes : HeapPage → List ℕ
page_bytes page =
    header page ++ entry_bytes page.entries ++ replicate (ENTRY_BYTES - length (entry_bytes page.entries)) 0

-- whether entries have room on one page
abbrev pub have_room : List Entry → Bool
have_room entries = nat_le (length (entry_bytes entries)) ENTRY_BYTES

abbrev pub HaveRoom : List Entry → Type 0
HaveRoom entries = IsTrue (have_room entries)

-- what can be written
pub record IsHeapPage (page : HeapPage) : Type 0 where
  pub lawful : AllByRecursion IsEntry page.entries
  pub fits : HaveRoom page.entries

-- each number fits its field
pub record IsNarrow (page : HeapPage) : Type 0 where
  pub next : page.next < 2 ^ 32
  pub next_number : page.next_number < 2 ^ 64
  pub last : page.last < 2 ^ 32

-- a page without entries, the last of its chain
abbrev pub empty_page : HeapPage
empty_page = record { next = 0; next_number = 0; last = 0; entries = [] }

-- entries that stand first in the bytes, so many, or none where so many do not stand there
abbrev pub AreFirstEntries : List ℕ → ℕ → Option (List Entry) → Type 0
AreFirstEntries bytes count None =
    (entries : List Entry) (behind : List ℕ) → length entries ≡ count → AllByRecursion IsEntry entries → bytes
    ≡ entry_bytes entries ++ behind → ⊥
AreFirstEntries bytes count (Some entries) =
    (length entries ≡ count) × AllByRecursion IsEntry entries × (behind : List ℕ)
    × (bytes ≡ entry_bytes entries ++ behind)

-- the entry that stands first in the bytes, and how many bytes it takes, or none where no entry stands there
abbrev pub IsFirstEntry : List ℕ → Option (Entry × ℕ) → Type 0
IsFirstEntry bytes None = (entry : Entry) (behind : List ℕ) → IsEntry entry → bytes ≡ entry_code entry ++ behind → ⊥
IsFirstEntry bytes (Some found) =
    IsEntry found.0 × (found.1 ≤ length bytes) × (bytes ≡ entry_code found.0 ++ drop found.1 bytes)

-- an entry under a number, with a length, whose row is this
abbrev pub entry_of : List Value → ℕ × ℕ → Entry × ℕ
entry_of row found = (record { number = found.0; row = row }, found.1)

-- bytes hold one thing alone
abbrev pub HoldsOne : Type 0
HoldsOne = (bytes : List ℕ) (p q : HeapPage) → HoldsRows bytes p → HoldsRows bytes q → p ≡ q

-- a page that was never written is an empty heap page
abbrev pub ZeroIsEmpty : Type 0
ZeroIsEmpty = HoldsRows (replicate PAGE_BYTES 0) empty_page

-- a page that was written holds what was written
abbrev pub WrittenHolds : Type 0
WrittenHolds = (page : HeapPage) → page.next < 2 ^ 32 → page.next_number < 2 ^ 64 → page.last < 2 ^ 32 → IsHeapPage page
    → HoldsRows (page_bytes page) page
