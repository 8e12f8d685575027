-- The way along a chain.
use Rattle.std.specs.Prelude.{◌≡◌, ◌<◌, ◌⊎◌, ◌==◌, ◌||◌, ℕ, Bool, false, true, List, [], ◌∷◌, length, Result, Ok, Err}
use Rattle.retro_base.specs.declared.refusal.Refusal.{Refusal}
use Rattle.values.specs.declared.value.Kind.{Kind}
use Rattle.pager.specs.Pages.{Pages, broken}
use Rattle.pager.specs.declared.index.Found.{Found}
use Rattle.index_page.specs.Paging.{IsOfKind}
use Rattle.index_page.specs.declared.page.Form.TheVariants as form
use Rattle.index_page.specs.declared.page.IndexPage.{IndexPage}
use Rattle.run_index.specs.declared.walk.Met.{Met}

-- the page of that number is one of a chain whose values are of that kind, and holds this
abbrev pub IsRun : Kind → ℕ → Pages → ℕ → IndexPage → Type 0
IsRun kind size pages page held = IsOfKind kind size pages page held × (held.form ≡ form.Run)

-- what a page of a chain holds; any other page is broken
abbrev pub run_page : Kind → ℕ → Pages → ℕ → Result IndexPage Refusal → Type 0
run_page kind size pages page (Ok held) = IsRun kind size pages page held
run_page kind size pages page (Err why) =
    (why ≡ broken page) × ((held : IndexPage) → IsRun kind size pages page held → ⊥)

-- a way ends where no page is named, and where the entries pass the test
abbrev pub is_end : (List Found → Bool) → IndexPage → Bool
is_end test held = (held.link == 0) || test held.entries

-- these pages are met from that one on, none of them is the end, and each names the next, up to that one
abbrev pub Passes : (List Found → Bool) → Kind → ℕ → Pages → ℕ → List Met → ℕ → Type 0
Passes test kind size pages from [] to = from ≡ to
Passes test kind size pages from (met ∷ rest) to =
    (from ≡ met.page) × IsRun kind size pages met.page met.held × (is_end test met.held ≡ false)
    × Passes test kind size pages met.held.link rest to

-- the pages that are passed, and the page where the way ends; a page that is none of a chain's is broken, and so is the
-- next one after as many pages as the store has
abbrev pub walked : (List Found → Bool) → Kind → ℕ → Pages → ℕ → Result (List Met × Met) Refusal → Type 0
walked test kind size pages from (Ok way) =
    Passes test kind size pages from way.0 way.1.page × IsRun kind size pages way.1.page way.1.held
    × (is_end test way.1.held ≡ true) × (length way.0 < size)
walked test kind size pages from (Err why) =
    (passed : List Met) × (page : ℕ) × Passes test kind size pages from passed page × (why ≡ broken page)
    × ((length passed ≡ size) ⊎ ((held : IndexPage) → IsRun kind size pages page held → ⊥))

-- the page where the way ends
abbrev pub met_at : (List Found → Bool) → Kind → ℕ → Pages → ℕ → Result Met Refusal → Type 0
met_at test kind size pages from (Ok met) = (passed : List Met) × walked test kind size pages from (Ok (passed, met))
met_at test kind size pages from (Err why) = walked test kind size pages from (Err why)
