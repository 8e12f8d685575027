use Rattle.std.proofs.Common.{◌≡◌, ◌+◌, ◌++◌, ◌∷◌, ◌∙◌, [], ap, sym, take}
use Rattle.std.proofs.lemmas.List.{take_more}
use Rattle.pager.specs.Draft.{drafted}
use Rattle.pager.specs.Pages.{Pages, with_bytes}
use Rattle.index_page.specs.IndexPage.{page_bytes}
use Rattle.tree_index.specs.declared.walk.Met.{Met}
use Rattle.tree_index.specs.Work.{all_written}
use Rattle.tree_index.proofs.Climbed.{written-more}
use Rattle.tree_index.proofs.climb.store_all.Goals as goal

pub edits-preserved : goal.edits-preserved
edits-preserved c =
    let edits = c.args.edits.now in
    let i = c.edits.met-index in
    let met = c.met-item.result in
    let more : take (i + 1) edits ≡ take i edits ++ met ∷ [] = take_more edits i met c.edits-test.true ∙ ap (λ (m : Met). take i edits ++ m ∷ []) (sym c.met-item.is) in
    record {
      size = c.in_ok-store.ensures.size ∙ c.edits.invariant.size;
      drafted = λ pages.
          c.in_ok-store.ensures.drafted pages ∙ ap (λ (p : Pages). with_bytes p met.page (page_bytes met.held)) (c.edits.invariant.drafted pages)
          ∙ sym (ap (all_written (drafted pages c.args.draft.now.list)) more ∙ written-more (drafted pages c.args.draft.now.list) (take i edits) met);
    }
