-- The pages that a run left, as the next run finds them.
use Rattle.std.proofs.Common.{◌≡◌, ◌⊎◌, ◌∙◌, List, [], ◌∷◌, None, Some, Option, ap, inl, inr, refl, sym}
use Rattle.std.proofs.Math.Path.{fun_ext}
use Rattle.history.specs.declared.entry.Base.{Base}
use Rattle.history.specs.declared.entry.Change.{Change}
use Rattle.history.specs.declared.entry.Mark.{Mark as MarkOf}
use Rattle.history.specs.History.{History, State, now}
use Rattle.history.proofs.Captures.{now-with}
use Rattle.race_model.proofs.Histories.{page_count_after}
use Rattle.journal_law.specs.Pages.{Pages}
use Rattle.journal_law.specs.World.{Mark, World}
use Rattle.replay.specs.Opened.{Contents, opened}
use Rattle.store.specs.Crashes.{OpensTo}
use Rattle.store.specs.Recovery.{ShowsOneOf, changed_world}
use Rattle.retro.specs.Storing.{IsBaseOf}
use Rattle.store.specs.Worlds.{AreMarksOf, IsWorldOf}

marks_one : (history : History) (marks : List MarkOf) (one other : List (Mark Pages)) → AreMarksOf history marks one → AreMarksOf history marks other → one ≡ other
marks_one history [] [] [] a b = refl
marks_one history [] [] (q ∷ qs) a b = absurd b
marks_one history [] (p ∷ ps) qs a b = absurd a
marks_one history (m ∷ ms) [] qs a b = absurd a
marks_one history (m ∷ ms) (p ∷ ps) [] a b = absurd b
marks_one history (m ∷ ms) (p ∷ ps) (q ∷ qs) a b =
    let number = a.0 ∙ sym b.0 in
    let label = a.1 ∙ sym b.1 in
    let held : p.held ≡ q.held = fun_ext (λ page. a.2 page ∙ sym (b.2 page)) in
    let rest = marks_one history ms ps qs a.3 b.3 in
    λ i. record { number = number i; label = label i; held = held i } ∷ rest i

-- readers see one world of a history
pub worlds_one : (history : History) (one other : World Pages) → IsWorldOf history one → IsWorldOf history other → one ≡ other
worlds_one history one other a b =
    let current : one.current ≡ other.current = fun_ext (λ page. a.current page ∙ sym (b.current page)) in
    let marks = marks_one history _ one.marks other.marks a.marks b.marks in
    λ i. record { current = current i; marks = marks i }

-- The base of contents that open to a history, or to it with a change in doubt.
pub opens_base : (contents : Contents) (history : History) (doubt : Option Change) → OpensTo contents history doubt → IsBaseOf (now (opened contents)).base (now history).base doubt
opens_base contents history None same = same.base
opens_base contents history (Some change) (inl same) = inl same.base
opens_base contents history (Some change) (inr (follows, same)) = inr (same.base ∙ ap (λ (s : State). s.base) (now-with history change))

-- it is of as many pages
pub base_count : (found base : Base) (doubt : Option Change) → IsBaseOf found base doubt → found.page_count ≡ base.page_count
base_count found base None is = ap (λ (b : Base). b.page_count) is
base_count found base (Some change) (inl is) = ap (λ (b : Base). b.page_count) is
base_count found base (Some change) (inr is) = ap (λ (b : Base). b.page_count) is ∙ page_count_after base change

-- Readers see one of two worlds: that behind a journal, or that behind the change in doubt.
pub shows_one : (contents : Contents) (world : World Pages) (doubt : Option Change) → ShowsOneOf contents world doubt
    → IsWorldOf (opened contents) world ⊎ ((change : Change) × (doubt ≡ Some change) × IsWorldOf (opened contents) (changed_world change world))
shows_one contents world None shows = inl shows
shows_one contents world (Some change) (inl shows) = inl shows
shows_one contents world (Some change) (inr shows) = inr (change, refl, shows)
