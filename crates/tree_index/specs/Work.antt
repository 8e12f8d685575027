-- What the calls do to the pages.
use Rattle.std.specs.Prelude.{◌≡◌, ◌<◌, ◌^◌, ◌++◌, ◌-◌, ◌==◌, ℕ, List, [], ◌∷◌, take}
use Rattle.std.specs.Prelude.{drop, IfOk, Option, Some, None, Result, Ok, Err}
use Rattle.std.specs.List.{flat_map}
use Rattle.retro_base.specs.declared.refusal.Refusal.{Refusal}
use Rattle.values.specs.Value.{kind_of}
use Rattle.values.specs.declared.value.Value.{Value}
use Rattle.pager.specs.Allows.{◌>>=◌, only, either}
use Rattle.pager.specs.Index.{between}
use Rattle.pager.specs.Pages.{Pages, with_bytes}
use Rattle.pager.specs.Root.{taken}
use Rattle.pager.specs.declared.index.Found.{Found}
use Rattle.index_page.specs.Entries.{entry_inserted, taken_out}
use Rattle.index_page.specs.IndexPage.{have_room, half, page_bytes}
use Rattle.index_page.specs.declared.page.Form.{Form}
use Rattle.index_page.specs.declared.page.Form.TheVariants as form
use Rattle.index_page.specs.declared.page.IndexPage.{IndexPage}
use Rattle.tree_index.specs.declared.climb.Climb.{Climb}
use Rattle.tree_index.specs.declared.climb.Parts.{Parts}
use Rattle.tree_index.specs.declared.walk.Met.{Met}
use Rattle.tree_index.specs.Walk.{walked}

-- the page that is taken, whose number fits in four bytes
abbrev pub taken_page : ℕ → Pages → Result (ℕ × Pages) Refusal → Type 0
taken_page size pages answer = (taken size pages ≡ answer) × IfOk answer (λ next. next.0 < 2 ^ 32)

-- the pages after these are written, one after the other
abbrev pub all_written : Pages → List Met → Pages
all_written pages [] = pages
all_written pages (met ∷ rest) = all_written (with_bytes pages met.page (page_bytes met.held)) rest

-- a page with other entries
abbrev pub with_entries : IndexPage → List Found → IndexPage
with_entries held entries = record { form = held.form; link = held.link; entries = entries }

-- a page is taken for a leaf without entries
abbrev pub made : ℕ → Pages → Result (ℕ × Pages) Refusal → Type 0
made size pages = do
  next ← taken_page size pages
  only
      (Ok (
        next.0,
        with_bytes next.1 next.0 (page_bytes (record { form = form.Leaf; link = 0; entries = [] })),
      ))

-- the page behind the first half: an inner page begins with the child that its key named
abbrev pub second : Form → ℕ → Found → List Found → IndexPage
second form.Inner link first rest = record { form = form.Inner; link = first.page; entries = rest }
second other link first rest = record { form = other; link = link; entries = first ∷ rest }

-- a page in two halves, of which the second goes to that next page, under its first key
abbrev pub parted : IndexPage → ℕ → Result Parts Refusal → Type 0
parted whole next (Ok parts) =
    (first : Found) × (rest : List Found) × (drop (half whole.entries) whole.entries ≡ first ∷ rest)
    × (parts ≡ record {
      left = with_entries whole (take (half whole.entries) whole.entries);
      key = record { value = first.value; number = first.number; page = next };
      right = second whole.form whole.link first rest;
    })
parted whole next (Err why) = ⊥

-- the root page over two others
abbrev pub root_over : ℕ → ℕ → Found → Met
root_over root first key =
    record { page = root; held = record { form = form.Inner; link = first; entries = key ∷ [] } }

-- the first half of the root page goes on a page that is taken, and the root page names both halves
abbrev pub lifted : ℕ → ℕ → IndexPage → Found → List Met → Pages → Result (Climb × Pages) Refusal → Type 0
lifted size root left key edits pages = do
  first ← taken_page size pages
  only
      (Ok (
        record { edits = edits ++ record { page = first.0; held = left } ∷ root_over root first.0 key ∷ []; up = None },
        first.1,
      ))

-- a page that is full goes on itself and a next one; the root page on two others
abbrev pub split : ℕ → ℕ → ℕ → IndexPage → List Met → Pages → Result (Climb × Pages) Refusal → Type 0
split size root page whole edits pages = do
  next ← taken_page size pages
  parts ← parted whole next.0
  let begun = edits ++ record { page = next.0; held = parts.right } ∷ []
  either (page == root)
      (lifted size root parts.left parts.key begun next.1)
      (only
      (Ok (
        record { edits = begun ++ record { page = page; held = parts.left } ∷ []; up = Some parts.key },
        next.1,
      )))

-- an entry or key goes on a page
abbrev pub placed : ℕ → ℕ → Met → List Met → Option Found → Pages → Result (Climb × Pages) Refusal → Type 0
placed size root met edits None pages = only (Ok (record { edits = edits; up = None }, pages))
placed size root met edits (Some key) pages =
    let whole = with_entries met.held (entry_inserted key met.held.entries) in
    either (have_room whole.entries)
    (only (Ok (record { edits = edits ++ record { page = met.page; held = whole } ∷ []; up = None }, pages)))
    (split size root met.page whole edits pages)

-- an entry is added on the way's last page, and then on each page above it the key of a page that was opened
abbrev pub climbed : ℕ → ℕ → Found → Pages → List Met → Result (Climb × Pages) Refusal → Type 0
climbed size root entry pages [] = only (Ok (record { edits = []; up = Some entry }, pages))
climbed size root entry pages (met ∷ below) = do
  state ← climbed size root entry pages below
  placed size root met state.0.edits state.0.up state.1

-- what those pages are to hold
abbrev pub edited : ℕ → ℕ → Found → Pages → List Met → Result (List Met × Pages) Refusal → Type 0
edited size root entry pages way = do
  state ← climbed size root entry pages way
  only (Ok (state.0.edits, state.1))

-- an entry is added
abbrev pub added : ℕ → ℕ → Found → Pages → Result (Unit {0} × Pages) Refusal → Type 0
added size root entry pages = do
  way ← walked entry entry (kind_of entry.value) size pages root
  edits ← edited size root entry pages way
  only (Ok (tt, all_written edits.1 edits.0))

-- the last page of a way without an entry
abbrev pub cut : Found → List Met → List Met
cut entry [] = []
cut entry (met ∷ []) =
    record { page = met.page; held = with_entries met.held (taken_out entry met.held.entries) } ∷ []
cut entry (met ∷ (next ∷ below)) = cut entry (next ∷ below)

-- an entry is taken out of the page in which it belongs
abbrev pub removed : ℕ → ℕ → Found → Pages → Result (Unit {0} × Pages) Refusal → Type 0
removed size root entry pages = do
  way ← walked entry entry (kind_of entry.value) size pages root
  only (Ok (tt, all_written pages (cut entry way)))

-- what is seen of the entries of a page, if it is a leaf
abbrev pub on_leaf : (List Found → List Found) → Form → List Found → List Found
on_leaf view form.Leaf entries = view entries
on_leaf view _ entries = []

abbrev pub along : (List Found → List Found) → List Met → List Found
along view = flat_map (λ (met : Met). on_leaf view met.held.form met.held.entries)

-- the entries between two values
abbrev pub ranged : ℕ → ℕ → Value → Value → Pages → Result (List Found) Refusal → Type 0
ranged size root low high pages = do
  way ←
      walked
      (record { value = low; number = 0; page = 0 })
      (record { value = high; number = 2 ^ 64 - 1; page = 0 })
      (kind_of low) size pages root
  only (Ok (along (between low high) way))
