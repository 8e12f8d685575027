use Rattle.std.proofs.Common.{◌≡◌, ◌∙◌, ℕ, List, sym, ap}
use Rattle.history.specs.declared.entry.Base.{Base}
use Rattle.history.specs.declared.entry.Change.{Change}
use Rattle.history.specs.declared.replaying.Replayed.{Replayed}
use Rattle.history.specs.declared.writes.PageImage.{PageImage}
use Rattle.history.specs.History.{base_after, pages_after, written}
use Rattle.history.specs.Replayed.{page_in}
use Rattle.history.proofs.PageLists.{same_state}
use Rattle.history.proofs.replaying.Replayed.apply.Goals as goal
use Rattle.history.proofs.replaying.Replayed.apply.Goals.{in-Commit+in_ok-store-in-Commit, in-Drop}

pub returns-clause-state : goal.returns-clause-state
returns-clause-state c =
    let old = c.args.self in
    let store = c.match-change.store in
    let change = c.args.change.now in
    let base_is : store.base ≡ old.base = elim c.match-change.branch [
      | in-Commit+in_ok-store-in-Commit w ↦ ap (λ (s : Replayed). s.base) w.store-is ∙ w.in_ok-store-in-Commit.ensures.base
      | in-Drop w ↦ ap (λ (s : Replayed). s.base) w.store-is
    ] in
    let pages_are : (p : ℕ) → page_in store.pages p ≡ pages_after (page_in old.pages) change p = λ p. elim c.match-change.branch [
      | in-Commit+in_ok-store-in-Commit w ↦
          ap (λ (s : Replayed). page_in s.pages p) w.store-is
          ∙ w.in_ok-store-in-Commit.ensures.pages p
          ∙ ap (λ (ws : List PageImage). written (page_in old.pages) ws p) w.images.ensures.value
          ∙ ap (λ (x : Change). pages_after (page_in old.pages) x p) (sym w.in-Commit.is)
      | in-Drop w ↦ ap (λ (s : Replayed). page_in s.pages p) w.store-is ∙ ap (λ (x : Change). pages_after (page_in old.pages) x p) (sym w.in-Drop.is)
    ] in
    same_state c.apply.new.self (base_after old.base change) (page_in store.pages) (pages_after (page_in old.pages) change) (c.in_ok-apply.ensures.done ∙ ap (λ (b : Base). base_after b change) base_is) pages_are
