-- A page, and what it was at earlier snapshots.
use Rattle.std.specs.Prelude.{◌≡◌, ◌⊎◌, ◌≤◌, ◌==◌, ◌||◌, ◌++◌, nat_lt, ℕ, Bool, true, false}
use Rattle.std.specs.Prelude.{List, [], ◌∷◌, length, slice_index_or, if◌then◌else◌}
use Rattle.std.specs.List.{AllByRecursion}
use Rattle.history.specs.declared.writes.PageImage.{PageImage}
use Rattle.history.specs.History.{written}
use Rattle.plain_store.specs.declared.page.Version.{Version}

-- a page's bytes, and the bytes that it had up to snapshots, in rising number
pub record PlainPage : Type 0 where
  pub bytes : List ℕ
  pub past : List Version

-- the numbers do not fall
abbrev pub DoNotFall : ℕ → List Version → Type 0
DoNotFall least [] = Unit {0}
DoNotFall least (version ∷ past) = (least ≤ version.upto) × DoNotFall version.upto past

-- the bytes at a snapshot: of the first version up to it or a later one, else these
abbrev pub bytes_at : ℕ → List ℕ → List Version → List ℕ
bytes_at snapshot bytes [] = bytes
bytes_at snapshot bytes (version ∷ past) =
    if nat_lt version.upto snapshot then bytes_at snapshot bytes past else version.bytes

-- the last version is up to this snapshot
abbrev pub ends_at : ℕ → List Version → Bool
ends_at snapshot [] = false
ends_at snapshot (version ∷ []) = version.upto == snapshot
ends_at snapshot (version ∷ next ∷ past) = ends_at snapshot (next ∷ past)

-- the page may change: there is no snapshot, or a version is up to the newest one
abbrev pub may_change : ℕ → List Version → Bool
may_change newest past = (newest == 0) || ends_at newest past

-- the page, kept as it is for the newest snapshot
abbrev pub captured : ℕ → PlainPage → PlainPage
captured newest page = if may_change newest page.past then page else record page {
  past = page.past ++ record { upto = newest; bytes = page.bytes } ∷ [];
}

-- no version is up to a later snapshot
abbrev pub IsWithin : ℕ → PlainPage → Type 0
IsWithin newest page = AllByRecursion (λ (version : Version). version.upto ≤ newest) page.past

-- the page of that number
abbrev pub page_at : List PlainPage → ℕ → PlainPage
page_at pages number = slice_index_or pages number (record { bytes = []; past = [] })

-- each page is as it was, or captured
pub record AreCaptured (newest : ℕ) (old new : List PlainPage) : Type 0 where
  pub long : length new ≡ length old
  pub each : (page : ℕ)
      → (page_at new page ≡ page_at old page) ⊎ (page_at new page ≡ captured newest (page_at old page))

-- each of these pages may change
abbrev pub MayChange : ℕ → List PlainPage → List PageImage → Type 0
MayChange newest pages writes =
    AllByRecursion (λ (write : PageImage). may_change newest (page_at pages write.page).past ≡ true) writes

abbrev pub bytes_in : List PlainPage → ℕ → List ℕ
bytes_in pages page = (page_at pages page).bytes

-- the pages have what was written, and their versions
pub record AreWritten (writes : List PageImage) (old new : List PlainPage) : Type 0 where
  pub long : length new ≡ length old
  pub bytes : (page : ℕ) → bytes_in new page ≡ written (bytes_in old) writes page
  pub past : (page : ℕ) → (page_at new page).past ≡ (page_at old page).past
