-- What open looks pin is retained.
use Rattle.std.proofs.Common.{◌≡◌, ◌∙◌, ◌||◌, ℕ, Bool, true, false, cond, eqb, List, [], ◌∷◌, map, filter, refl, sym, ap, subst, Some}
use Rattle.std.specs.List.{AllByRecursion}
use Rattle.std.proofs.lemmas.Bool.{eqb-true}
use Rattle.disk_model.specs.Disk.{State}
use Rattle.retro_base.specs.declared.who.Who.{Who}
use Rattle.history.specs.declared.entry.Base.{Base}
use Rattle.history.specs.History.{History, now}
use Rattle.history.specs.Lines.{base_of, pinned_by}
use Rattle.history.specs.Marks.{is_retained}
use Rattle.history.specs.Sound.{Pin, pins_of, same_item}
use Rattle.history.specs.Writes.{is_among}
use Rattle.history.proofs.Items.{same_self}
use Rattle.history.proofs.Journals.{pinned_are_retained}
use Rattle.race_model.specs.Desk.{Desk}
use Rattle.journal_book.specs.declared.work.Work.TheVariants.{Looking}
use Rattle.journal_book.specs.Works.{work_at}
use Rattle.txn_set.specs.WorksFit.{pins_at}
use Rattle.store_core.specs.declared.desk_core.Core.{Core}
use Rattle.store_core.specs.Calls.{IsPinned}
use Rattle.store_core.specs.Core.{IsCore}
use Rattle.store_core.proofs.Cores.{base_is}

all_retained : (who : Who) (pins : List Pin) (P : ℕ → Type 0) → AllByRecursion (λ (pin : Pin). P pin.snapshot) pins → (snapshot : ℕ) → is_among snapshot (pinned_by who pins) ≡ true → P snapshot
all_retained who [] P all snapshot e = absurd cc
all_retained who (pin ∷ pins) P all snapshot e = at (same_item pin.who who) e (all_retained who pins P all.1 snapshot) where
  first : (test : Bool) → eqb pin.snapshot snapshot ≡ test → test || is_among snapshot (pinned_by who pins) ≡ true → (is_among snapshot (pinned_by who pins) ≡ true → P snapshot) → P snapshot
  first true f h later = subst P (eqb-true pin.snapshot snapshot f) all.0
  first false f h later = later h

  at : (test : Bool) → is_among snapshot (map (λ (p : Pin). p.snapshot) (cond test (pin ∷ filter (λ (p : Pin). same_item p.who who) pins) (filter (λ (p : Pin). same_item p.who who) pins))) ≡ true
      → (is_among snapshot (pinned_by who pins) ≡ true → P snapshot) → P snapshot
  at true h later = first (eqb pin.snapshot snapshot) refl h later
  at false h later = later h

pub pinned_retained : {D : Type 0} (honest : D → Type 0) (state : D → State) (opening : History) (core : Core D) (plain : Desk) → IsCore honest state opening core plain → (snapshot : ℕ) → IsPinned core.ledger snapshot
    → is_retained snapshot core.desk.base.marks ≡ true
pinned_retained honest state opening core plain is snapshot pinned =
    let owner : pinned.look.who.session ≡ pinned.session = is.ledger.works.sessions pinned.session (Looking pinned.look) pinned.there in
    let at : work_at core.ledger.works.slots pinned.look.who.session ≡ Some (Looking pinned.look) = ap (work_at core.ledger.works.slots) owner ∙ pinned.there in
    let own : pinned_by pinned.look.who (pins_of (now opening).base [] core.ledger.book.lines) ≡ pinned.look.pins =
    is.ledger.pins.pins pinned.look.who ∙ ap (pins_at pinned.look.who) at ∙ ap (λ (b : Bool). cond b pinned.look.pins []) (same_self pinned.look.who) in
    subst (λ (b : Base). is_retained snapshot b.marks ≡ true) (sym (base_is honest state opening core plain is))
    (all_retained pinned.look.who (pins_of (now opening).base [] core.ledger.book.lines) (λ n. is_retained n (base_of (now opening).base core.ledger.book.lines).marks ≡ true)
    (pinned_are_retained (now opening).base core.ledger.book.lines is.ledger.sound) snapshot (ap (is_among snapshot) own ∙ pinned.pinned))
