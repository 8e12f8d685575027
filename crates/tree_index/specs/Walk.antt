-- The way down a tree.
use Rattle.std.specs.Prelude.{◌≡◌, ◌<◌, ◌≤◌, ◌⊎◌, ◌++◌, ℕ, List, [], ◌∷◌, length, Result, Ok, Err, if◌then◌else◌}
use Rattle.std.specs.Ordering.{is_lt}
use Rattle.retro_base.specs.declared.refusal.Refusal.{Refusal}
use Rattle.values.specs.declared.value.Kind.{Kind}
use Rattle.pager.specs.Index.{AreOfKind, found_cmp}
use Rattle.pager.specs.Pages.{Pages, broken}
use Rattle.pager.specs.declared.index.Found.{Found}
use Rattle.index_page.specs.IndexPage.{AreWritable}
use Rattle.index_page.specs.Paging.{IsIndexAt}
use Rattle.index_page.specs.declared.page.Form.{Form}
use Rattle.index_page.specs.declared.page.Form.TheVariants as form
use Rattle.index_page.specs.declared.page.IndexPage.{IndexPage}
use Rattle.tree_index.specs.declared.walk.Met.{Met}

-- the page is one of a tree whose entries are of that kind
abbrev pub IsOfTree : Kind → Form → List Found → Type 0
IsOfTree kind form.Run entries = ⊥
IsOfTree kind form.Inner entries = Unit {0}
IsOfTree kind form.Leaf entries = AreOfKind kind entries

-- the page of that number is such a page, and holds this
abbrev pub IsTree : Kind → ℕ → Pages → ℕ → IndexPage → Type 0
IsTree kind size pages page held = IsIndexAt size pages page held × IsOfTree kind held.form held.entries

-- what a page of a tree holds; any other page is broken
abbrev pub tree_page : Kind → ℕ → Pages → ℕ → Result IndexPage Refusal → Type 0
tree_page kind size pages page (Ok held) = IsTree kind size pages page held
tree_page kind size pages page (Err why) =
    (why ≡ broken page) × ((held : IndexPage) → IsTree kind size pages page held → ⊥)

-- Of a child and those that keys name behind it, the ones in which entries from `low` up to `high` belong: what is
-- under a child is not below the key that names it, and below the next key.
abbrev pub chosen : Found → Found → ℕ → List Found → List ℕ
chosen low high child [] = child ∷ []
chosen low high child (key ∷ rest) =
    (if is_lt (found_cmp low key) then child ∷ [] else [])
    ++ (if is_lt (found_cmp high key) then [] else chosen low high key.page rest)

-- those of the children of a page
abbrev pub children_of : Found → Found → Form → ℕ → List Found → List ℕ
children_of low high form.Inner link keys = chosen low high link keys
children_of low high _ link keys = []

abbrev pub children : Found → Found → IndexPage → List ℕ
children low high held = children_of low high held.form held.link held.entries

-- these pages are met from the first that is to be met on, each before its children, and those are left
abbrev pub Meets : Found → Found → Kind → ℕ → Pages → List ℕ → List Met → List ℕ → Type 0
Meets low high kind size pages todo [] left = todo ≡ left
Meets low high kind size pages todo (met ∷ rest) left =
    (behind : List ℕ) × (todo ≡ met.page ∷ behind) × IsTree kind size pages met.page met.held
    × Meets low high kind size pages (children low high met.held ++ behind) rest left

-- the pages that are met from the root page on; a page that is none of a tree's is broken, and so is the next one after
-- as many pages as the store has
abbrev pub walked : Found → Found → Kind → ℕ → Pages → ℕ → Result (List Met) Refusal → Type 0
walked low high kind size pages root (Ok way) =
    Meets low high kind size pages (root ∷ []) way [] × (length way ≤ size)
walked low high kind size pages root (Err why) =
    (way : List Met) × (page : ℕ) × (behind : List ℕ)
    × Meets low high kind size pages (root ∷ []) way (page ∷ behind) × (why ≡ broken page)
    × ((length way ≡ size) ⊎ ((held : IndexPage) → IsTree kind size pages page held → ⊥))

-- a page of the store that can be written
abbrev pub IsStored : ℕ → Met → Type 0
IsStored size met = (met.page < size) × AreWritable met.held.entries
