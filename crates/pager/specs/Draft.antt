-- Edits that are kept in memory until all of them are known.
use Rattle.std.specs.Prelude.{◌≡◌, ◌<◌, ◌||◌, ℕ, List, Option, is_some, nat_eq, Result, Ok, Err}
use Rattle.std.specs.List.{AllByRecursion}
use Rattle.std.specs.Map.{lookup}
use Rattle.std.specs.Option.{unwrap_or}
use Rattle.retro_base.specs.declared.refusal.Refusal.{Refusal}
use Rattle.pager.specs.Pages.{Pages, IsPartOf, Leads}
use Rattle.pager.specs.Stop.{Allowed}
use Rattle.pager.specs.declared.stop.Stop.{Stop}
use Rattle.pager.specs.declared.stop.Stop.TheVariants as stop

-- the edits of a store of so many pages: for each page that has one, its number and bytes
pub record Edits : Type 0 where
  pub size : ℕ
  pub list : List (ℕ × List ℕ)

-- the edit of a page, if there is one
abbrev pub edit_of : List (ℕ × List ℕ) → ℕ → Option (List ℕ)
edit_of edits page = lookup (nat_eq page) edits

-- the pages as they will be after these edits
abbrev pub drafted : Pages → List (ℕ × List ℕ) → Pages
drafted pages edits = record {
  at = λ page. unwrap_or (edit_of edits page) (pages.at page);
  edited = λ page. is_some (edit_of edits page) || pages.edited page;
}

-- every edited page is one of the store's
abbrev pub AreInside : ℕ → List (ℕ × List ℕ) → Type 0
AreInside size edits = AllByRecursion (λ edit. edit.0 < size) edits

-- what a call that only reads answers is what the definition allows of the pages that the pager shows, under a draft
abbrev pub Reads : {X Y F : Type 0} → (X → Y) → (Pages → Pages → Type 0) → List (ℕ × List ℕ)
    → (Pages → Result Y Refusal → Type 0) → Result X (Stop F) → Type 0
Reads view tells edits allows result =
    (base shown : Pages) → tells base shown → Allowed view (allows (drafted shown edits)) result

-- what a call that drafts edits answers, and the pages under the draft after it, are what the definition allows of the
-- pages under the draft before it
abbrev pub Drafts : {X Y F : Type 0} → (X → Y) → (Pages → Pages → Type 0) → List (ℕ × List ℕ) → List (ℕ × List ℕ)
    → (Pages → Result (Y × Pages) Refusal → Type 0) → Result X (Stop F) → Type 0
Drafts view tells before after allows result =
    (base shown : Pages) → tells base shown → Allowed (λ x. (view x, drafted shown after))
    (allows (drafted shown before)) result

-- where the pages stand after a draft is written: all edits are made, or the pager failed and some of them are
abbrev pub Writes : {F : Type 0} → (Pages → Pages → Type 0) → (Pages → Pages → Type 0) → List (ℕ × List ℕ)
    → Result (Unit {0}) (Stop F) → Type 0
Writes before after list (Ok done) = Leads before after (λ was now. now ≡ drafted was list)
Writes before after list (Err (stop.Refused why)) = ⊥
Writes before after list (Err (stop.Pager fault)) = Leads before after (λ was now. IsPartOf was (drafted was list) now)
