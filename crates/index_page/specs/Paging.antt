-- The pages of an index in a store.
use Rattle.std.specs.Prelude.{◌≡◌, ◌<◌, ◌≤◌, ℕ, Result, Ok, Err}
use Rattle.retro_base.specs.declared.refusal.Refusal.{Refusal}
use Rattle.values.specs.declared.value.Kind.{Kind}
use Rattle.pager.specs.Index.{AreOfKind}
use Rattle.pager.specs.Pages.{Pages, broken}
use Rattle.index_page.specs.declared.page.IndexPage.{IndexPage}
use Rattle.index_page.specs.IndexPage.{HoldsIndex}

-- the page of that number is one of the store's behind its first two, and holds this
pub record IsIndexAt (size : ℕ) (pages : Pages) (page : ℕ) (held : IndexPage) : Type 0 where
  pub low : 2 ≤ page
  pub there : page < size
  pub holds : HoldsIndex (pages.at page) held

-- what a page holds; one that is not there, or whose bytes are no index's page, is broken
abbrev pub any_page : ℕ → Pages → ℕ → Result IndexPage Refusal → Type 0
any_page size pages page (Ok held) = IsIndexAt size pages page held
any_page size pages page (Err why) = (why ≡ broken page) × ((held : IndexPage) → IsIndexAt size pages page held → ⊥)

-- the page of that number holds this, with values of one kind
abbrev pub IsOfKind : Kind → ℕ → Pages → ℕ → IndexPage → Type 0
IsOfKind kind size pages page held = IsIndexAt size pages page held × AreOfKind kind held.entries

-- what a page holds; one that is not there, whose bytes are no index's page, or that has a value of another kind, is
-- broken
abbrev pub index_page : Kind → ℕ → Pages → ℕ → Result IndexPage Refusal → Type 0
index_page kind size pages page (Ok held) = IsOfKind kind size pages page held
index_page kind size pages page (Err why) =
    (why ≡ broken page) × ((held : IndexPage) → IsOfKind kind size pages page held → ⊥)
