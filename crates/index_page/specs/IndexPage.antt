-- Pages of indexes as bytes.
use Rattle.std.specs.Prelude.{◌≡◌, ◌<◌, ◌≤◌, ◌+◌, ◌-◌, ◌*◌, ◌^◌, ◌++◌, ℕ, suc, Bool, List, [], ◌∷◌, length}
use Rattle.std.specs.Prelude.{take, drop, replicate, slice_index, nat_le, Option, Some, None, if◌then◌else◌}
use Rattle.std.specs.List.{flat_map, AllByRecursion}
use Rattle.retro_base.specs.Fields.{number_at, field_bytes}
use Rattle.values.specs.declared.value.Value.{Value}
use Rattle.row_codec.specs.RowCode.{row_code}
use Rattle.pager.specs.Index.{IsFound}
use Rattle.pager.specs.declared.index.Found.{Found}
use Rattle.index_page.specs.declared.page.Form.{Form}
use Rattle.index_page.specs.declared.page.Form.TheVariants as form
use Rattle.index_page.specs.declared.page.IndexPage.{IndexPage}
use Rattle.index_page.specs.declared.page.TheConstants.{ENTRY_BYTES}

-- the first byte of a page
abbrev pub form_byte : Form → ℕ
form_byte form.Run = 4
form_byte form.Inner = 5
form_byte form.Leaf = 6

-- the form that a first byte tells
abbrev pub IsPageForm : ℕ → Option Form → Type 0
IsPageForm byte None = (form : Form) → byte ≡ form_byte form → ⊥
IsPageForm byte (Some form) = byte ≡ form_byte form

-- an entry's value as a row under the entry's number
unfoldable pub row_of : Found → List ℕ
row_of entry = row_code entry.number (entry.value ∷ [])

-- an entry: the length of that row in two bytes, the page in four, and the row
abbrev pub entry_code : Found → List ℕ
entry_code entry = field_bytes 2 (length (row_of entry)) ++ (field_bytes 4 entry.page ++ row_of entry)

-- the bytes that entries take
abbrev pub entry_bytes : List Found → List ℕ
entry_bytes entries = flat_map entry_code entries

-- how many bytes that are
abbrev pub width : List Found → ℕ
width entries = length (entry_bytes entries)

-- What the bytes of a page hold. What stands behind the entries is not read.
pub record HoldsIndex (bytes : List ℕ) (page : IndexPage) : Type 0 where
  pub form : slice_index bytes 0 ≡ form_byte page.form
  pub count : number_at 2 bytes 2 ≡ length page.entries
  pub link : number_at 4 bytes 4 ≡ page.link
  pub behind : List ℕ
  pub packed : drop 8 bytes ≡ entry_bytes page.entries ++ behind
  pub lawful : AllByRecursion IsFound page.entries

-- what the bytes hold, or none where they are no index's page
abbrev pub IsHeldIndex : List ℕ → Option IndexPage → Type 0
IsHeldIndex bytes None = (page : IndexPage) → HoldsIndex bytes page → ⊥
IsHeldIndex bytes (Some page) = HoldsIndex bytes page

-- the bytes of a page before its entries
abbrev pub header : IndexPage → List ℕ
header page = form_byte page.form ∷ 0 ∷ field_bytes 2 (length page.entries) ++ field_bytes 4 page.link

-- how a page is written; the rest is zero
unfoldable pub page_bytes : IndexPage → List ℕ
page_bytes page = header page ++ entry_bytes page.entries ++ replicate (ENTRY_BYTES - width page.entries) 0

-- the entries have room on one page
abbrev pub HaveRoom : List Found → Type 0
HaveRoom entries = width entries ≤ ENTRY_BYTES

abbrev pub have_room : List Found → Bool
have_room entries = nat_le (width entries) ENTRY_BYTES

-- what can be written
pub record AreWritable (entries : List Found) : Type 0 where
  pub lawful : AllByRecursion IsFound entries
  pub fits : HaveRoom entries

-- entries that stand first in the bytes, so many, or none where so many do not stand there
abbrev pub AreFirstFound : List ℕ → ℕ → Option (List Found) → Type 0
AreFirstFound bytes count None =
    (entries : List Found) (behind : List ℕ) → length entries ≡ count → AllByRecursion IsFound entries → bytes
    ≡ entry_bytes entries ++ behind → ⊥
AreFirstFound bytes count (Some entries) =
    (length entries ≡ count) × AllByRecursion IsFound entries × (behind : List ℕ)
    × (bytes ≡ entry_bytes entries ++ behind)

-- the entry that stands first in the bytes, and how many bytes it takes, or none where no entry stands there
abbrev pub IsFirstFound : List ℕ → Option (Found × ℕ) → Type 0
IsFirstFound bytes None = (entry : Found) (behind : List ℕ) → IsFound entry → bytes ≡ entry_code entry ++ behind → ⊥
IsFirstFound bytes (Some found) =
    IsFound found.0 × (found.1 ≤ length bytes) × (bytes ≡ entry_code found.0 ++ drop found.1 bytes)

-- how many more of the first entries it takes to fill half of so many bytes
abbrev pub more_for_half : ℕ → ℕ → List Found → ℕ
more_for_half total filled [] = 0
more_for_half total filled (entry ∷ rest) =
    if nat_le total (2 * filled) then 0 else suc (more_for_half total (filled + length (entry_code entry)) rest)

-- the least number of first entries that fill half of the bytes of all
abbrev pub half : List Found → ℕ
half entries = more_for_half (width entries) 0 entries

-- bytes hold one thing alone
abbrev pub HoldsOneIndex : Type 0
HoldsOneIndex = (bytes : List ℕ) (p q : IndexPage) → HoldsIndex bytes p → HoldsIndex bytes q → p ≡ q

-- a page that was written holds what was written
abbrev pub WrittenHoldsIndex : Type 0
WrittenHoldsIndex =
    (page : IndexPage) → page.link < 2 ^ 32 → AreWritable page.entries → HoldsIndex (page_bytes page) page

-- fewer than four entries leave room for one more in a page
abbrev pub FourFit : Type 0
FourFit = (entries : List Found) → AllByRecursion IsFound entries → length entries ≤ 4 → HaveRoom entries

-- entries of one page and one more at most, which takes no more than 217 bytes
abbrev pub AreOneMore : List Found → Type 0
AreOneMore entries = width entries ≤ ENTRY_BYTES + 217

-- entries of one page and one more have room on two
abbrev pub HalvesFit : Type 0
HalvesFit = (entries : List Found) → AllByRecursion IsFound entries → AreOneMore entries
    → HaveRoom (take (half entries) entries) × HaveRoom (drop (half entries) entries)

-- the value of a row of one value
abbrev pub IsOnlyValue : List Value → Option Value → Type 0
IsOnlyValue row None = (value : Value) → row ≡ value ∷ [] → ⊥
IsOnlyValue row (Some value) = row ≡ value ∷ []
