-- A sorted chain as the entries of its pages.
use Rattle.std.specs.Prelude.{◌≡◌, ◌<◌, ◌≤◌, ◌^◌, ◌++◌, ◌==◌, ◌||◌, ℕ, List, []}
use Rattle.std.specs.Prelude.{◌∷◌, length, take, drop, nat_eq, if◌then◌else◌}
use Rattle.std.specs.List.{flat_map, AllByRecursion, IsDistinct}
use Rattle.values.specs.declared.value.Value.{Value}
use Rattle.pager.specs.Index.{IsInOrder}
use Rattle.pager.specs.Pages.{Pages}
use Rattle.pager.specs.declared.index.Found.{Found}
use Rattle.index_page.specs.Entries.{entry_inserted, reaches, taken_out}
use Rattle.index_page.specs.IndexPage.{AreWritable, have_room, half}
use Rattle.index_page.specs.Paging.{IsIndexAt}
use Rattle.index_page.specs.declared.page.Form.TheVariants as form
use Rattle.index_page.specs.declared.page.IndexPage.{IndexPage}

-- all entries, page by page
abbrev pub entries_of : List (List Found) → List Found
entries_of shape = flat_map (λ (page : List Found). page) shape

-- what the entries of pages are: at least one page, all in order, and each page one that can be written
pub record IsShape (shape : List (List Found)) : Type 0 where
  pub some : 1 ≤ length shape
  pub in_order : IsInOrder (entries_of shape)
  pub writable : AllByRecursion AreWritable shape

-- the page in which an entry belongs: the first with an entry at or behind its place, or else the last
abbrev pub target : Found → List (List Found) → List Found
target entry [] = []
target entry (page ∷ rest) = if (length rest == 0) || reaches entry page then page else target entry rest

-- the pages with that page changed
abbrev pub at_target : Found → (List Found → List (List Found)) → List (List Found) → List (List Found)
at_target entry change [] = []
at_target entry change (page ∷ rest) =
    if (length rest == 0) || reaches entry page then change page ++ rest else page ∷ at_target entry change rest

-- entries on one page where they fit, else in two halves
abbrev pub paged : List Found → List (List Found)
paged entries =
    if have_room entries then entries ∷ [] else take (half entries) entries ∷ drop (half entries) entries ∷ []

-- the pages with one more entry
abbrev pub put : Found → List (List Found) → List (List Found)
put entry = at_target entry (λ page. paged (entry_inserted entry page))

-- the pages without one
abbrev pub without : Found → List (List Found) → List (List Found)
without entry = at_target entry (λ page. taken_out entry page ∷ [])

-- how many pages one more entry opens: one where it belongs in a page that is full
abbrev pub opens : Value → ℕ → List (List Found) → ℕ
opens value number shape =
    let entry : Found = record { value = value; number = number; page = 0 } in
    if have_room (entry_inserted entry (target entry shape)) then 0 else 1

-- a page of a chain
abbrev pub run_of : ℕ → List Found → IndexPage
run_of link entries = record { form = form.Run; link = link; entries = entries }

-- these pages, from that one on, hold these entries, each page names the next, and the last names that one
abbrev pub IsWay : ℕ → Pages → ℕ → List (List Found) → List ℕ → ℕ → Type 0
IsWay size pages from [] [] to = from ≡ to
IsWay size pages from [] (page ∷ held) to = ⊥
IsWay size pages from (entries ∷ shape) [] to = ⊥
IsWay size pages from (entries ∷ shape) (page ∷ held) to =
    (from ≡ page) × (link : ℕ) × IsIndexAt size pages page (run_of link entries) × IsWay size pages link shape held to

-- these pages are a chain that begins with the root page
pub record Lists (size : ℕ) (pages : Pages) (root : ℕ) (shape : List (List Found)) (held : List ℕ) : Type 0 where
  pub narrow : AllByRecursion (λ page. page < 2 ^ 32) held
  pub is_shape : IsShape shape
  pub leads : IsWay size pages root shape held 0
  pub distinct : IsDistinct nat_eq held
