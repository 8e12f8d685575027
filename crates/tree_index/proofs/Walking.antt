-- On the way down a tree.
use Rattle.std.proofs.Common.{◌≡◌, ◌++◌, ◌<◌, ℕ, List, [], ◌∷◌, length, get_or, refl, sym, ap, arith}
use Rattle.std.specs.List.{remove}
use Rattle.values.specs.declared.value.Kind.{Kind}
use Rattle.pager.specs.Draft.{drafted}
use Rattle.pager.specs.Pages.{Pages}
use Rattle.pager.specs.declared.index.Found.{Found}
use Rattle.index_page.specs.declared.page.IndexPage.{IndexPage}
use Rattle.tree_index.specs.declared.walk.Met.{Met}
use Rattle.tree_index.specs.Walk.{IsTree, Meets, children}

-- the first that is to be met
pub first-rest : (todo : List ℕ) (page : ℕ) → 0 < length todo → page ≡ get_or todo 0 page → todo ≡ page ∷ remove todo 0
first-rest [] page some e = absurd (omega arith)
first-rest (x ∷ todo) page some e = ap (λ (q : ℕ). q ∷ todo) (sym e)

-- one page more is met
pub meets-more : (low high : Found) (kind : Kind) (size : ℕ) (pages : Pages) (todo behind : List ℕ) (page : ℕ) (held : IndexPage) (way : List Met) → Meets low high kind size pages todo way (page ∷ behind) → IsTree kind size pages page held → Meets low high kind size pages todo (way ++ record { page = page; held = held } ∷ []) (children low high held ++ behind)
meets-more low high kind size pages todo behind page held [] way tree = (behind, way, tree, refl)
meets-more low high kind size pages todo behind page held (met ∷ rest) way tree =
    (way.0, way.1, way.2, meets-more low high kind size pages (children low high met.held ++ way.0) behind page held rest way.3 tree)

-- the pages that are met so far, whatever the store's pages are that agree with what was read
pub record Meeting (tells : Pages → Pages → Type 0) (low high : Found) (kind : Kind) (size : ℕ) (list : List (ℕ × List ℕ)) (root count : ℕ) (todo : List ℕ) (way : List Met) : Type 0 where
  pub count_is : length way ≡ count
  pub way_is : (base shown : Pages) → tells base shown → Meets low high kind size (drafted shown list) (root ∷ []) way todo
