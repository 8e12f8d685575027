-- On the way along a chain.
use Rattle.std.proofs.Common.{◌≡◌, ◌++◌, ◌∙◌, ℕ, Bool, false, List, [], ◌∷◌, length, Err, Ok, Result, ap, inl, inr, refl, sym}
use Rattle.std.specs.List.{flat_map}
use Rattle.std.proofs.lemmas.List.{append-nil}
use Rattle.std.proofs.lemmas.List.Concat.{flat_map-append}
use Rattle.retro_base.specs.declared.refusal.Refusal.{Refusal}
use Rattle.values.specs.Value.{kind_of}
use Rattle.values.specs.declared.value.Kind.{Kind}
use Rattle.values.specs.declared.value.Value.{Value}
use Rattle.pager.specs.Draft.{drafted}
use Rattle.pager.specs.Index.{between}
use Rattle.pager.specs.Pages.{Pages}
use Rattle.pager.specs.declared.index.Found.{Found}
use Rattle.index_page.specs.Entries.{entry_inserted, reaches}
use Rattle.index_page.specs.declared.page.IndexPage.{IndexPage}
use Rattle.run_index.specs.declared.walk.Met.{Met}
use Rattle.run_index.specs.Walk.{IsRun, Passes, is_end, met_at}
use Rattle.run_index.specs.Work.{added, stored}

-- The pages that are passed so far, whatever the store's pages are that agree with what was read.
pub record Walking (tells : Pages → Pages → Type 0) (test : List Found → Bool) (kind : Kind) (size : ℕ) (list : List (ℕ × List ℕ)) (from page count : ℕ) (Also : List Met → Type 0) : Type 0 where
  pub passed : List Met
  pub count_is : length passed ≡ count
  pub way : (base shown : Pages) → tells base shown → Passes test kind size (drafted shown list) from passed page
  pub also : Also passed

-- one page more is passed
pub passes-more : (test : List Found → Bool) (kind : Kind) (size : ℕ) (pages : Pages) (from page : ℕ) (held : IndexPage) (passed : List Met) → Passes test kind size pages from passed page → IsRun kind size pages page held → is_end test held ≡ false → Passes test kind size pages from (passed ++ record { page = page; held = held } ∷ []) held.link
passes-more test kind size pages from page held [] way run on = (way, run, on, refl)
passes-more test kind size pages from page held (met ∷ passed) way run on =
    (way.0, way.1, way.2, passes-more test kind size pages met.held.link page held passed way.3 run on)

-- what is found on one page more
pub collected : (low high : Value) (passed : List Met) (met : Met) (before after : List Found) → before ≡ flat_map (λ (m : Met). between low high m.held.entries) passed → after ≡ before ++ between low high met.held.entries → after ≡ flat_map (λ (m : Met). between low high m.held.entries) (passed ++ met ∷ [])
collected low high passed met before after so_far more =
    more ∙ ap (λ (l : List Found). l ++ between low high met.held.entries) so_far
    ∙ sym (flat_map-append (λ (m : Met). between low high m.held.entries) passed (met ∷ []) ∙ ap (λ (l : List Found). flat_map (λ (m : Met). between low high m.held.entries) passed ++ l) (append-nil (between low high met.held.entries)))

-- an entry is added on the page that was found
pub added-there : (size root : ℕ) (entry : Found) (pages : Pages) (met : Met) → met_at (reaches entry) (kind_of entry.value) size pages root (Ok met) → (answer : Result (Unit {0} × Pages) Refusal) → stored size pages met.page met.held.link (entry_inserted entry met.held.entries) answer → added size root entry pages answer
added-there size root entry pages met found (Ok y) h = (met, found, h)
added-there size root entry pages met found (Err why) h = inr (met, found, h)
