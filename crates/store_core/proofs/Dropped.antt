-- The core behind a drop that has its line.
use Rattle.std.proofs.Common.{◌≡◌, ◌⊎◌, ◌∙◌, ◌≤◌, ◌<◌, ◌&&◌, not, ℕ, Bool, cond, refl, sym, ap, subst, inl, Option, Some, None, Result, Ok, Err}
use Rattle.std.specs.Prelude.{IfErr, MatchResult, OnOk}
use Rattle.std.specs.Option.{option_to_list}
use Rattle.std.proofs.lemmas.Bool.{le-ltb}
use Rattle.disk_model.specs.Disk.{State}
use Rattle.retro_base.specs.declared.refusal.Refusal.{Refusal}
use Rattle.retro_base.specs.declared.refusal.Refusal.TheVariants.{OutOfMemory}
use Rattle.retro_base.specs.declared.who.Who.{Who}
use Rattle.gate_log.specs.Cause.{IsDiskFault}
use Rattle.history.specs.declared.entry.Base.{Base}
use Rattle.history.specs.declared.entry.Change.{Change}
use Rattle.history.specs.declared.entry.Change.TheVariants.{Drop}
use Rattle.history.specs.declared.journal.FailedCall.TheVariants.{Append}
use Rattle.history.specs.declared.journal.What.TheVariants as whats
use Rattle.history.specs.History.{History, base_after, with_changes}
use Rattle.history.specs.Journal.{change_of}
use Rattle.history.specs.Marks.{newest, oldest}
use Rattle.history.specs.Right.{IsRight}
use Rattle.page_pool.specs.Side.{held}
use Rattle.records.specs.declared.entry.Entry.TheVariants as entries
use Rattle.race_model.specs.Desk.{Desk}
use Rattle.race_model.specs.Machine.{changed, change_failed}
use Rattle.race_model.proofs.DeskKeeps.{change_keeps, change_failed_keeps}
use Rattle.desk.specs.declared.desk.RunningDesk.{RunningDesk}
use Rattle.desk.specs.Cause.{stop_behind}
use Rattle.desk.specs.Desk.{IsDesk}
use Rattle.desk.specs.Steps.{IsChangeOf, SameButPages}
use Rattle.desk.proofs.Steps.{going}
use Rattle.journal_book.specs.Works.{work_at}
use Rattle.txn_set.specs.declared.ledger.Ledger.{Ledger}
use Rattle.txn_set.specs.Ledger.{IsKeptDrop, closed, drop_kept, given_up, line_of}
use Rattle.txn_set.specs.WorksFit.{WorksFit}
use Rattle.store_core.specs.declared.desk_core.Core.{Core}
use Rattle.store_core.specs.Calls.{has_released}
use Rattle.store_core.specs.Core.{IsCore, StaysCore}
use Rattle.store_core.specs.Drops.{HasEndedDrop, drop_refused_by}
use Rattle.store_core.proofs.Cores.{told_new, with_nothing}
use Rattle.store_core.proofs.Drops.{core_dropped, drop_bounds, drop_follows, drop_goes}
use Rattle.store_core.proofs.Faulted.{core_fails}
use Rattle.store_core.proofs.Kept.{closes_drop, drops_some, kept_may_record}

drops_none : (base : Base) (below : ℕ) → below ≤ oldest base.marks → change_of base (whats.Dropped below) ≡ None
drops_none base below low = ap (λ (test : Bool). cond test (Some (Drop below)) None) (le-ltb (oldest base.marks) below low)

pub no_memory : (why : Refusal) → IsDiskFault why → why ≡ OutOfMemory → ⊥
no_memory why fault is = subst IsDiskFault is fault

module _ {D : Type 0} (honest : D → Type 0) (state : D → State) (opening : History) (core : Core D) (plain : Desk) (is : IsCore honest state opening core plain) (who : Who) (below : ℕ)
    (kept : IsKeptDrop (work_at core.ledger.works.slots who.session)) (none : drop_refused_by (newest core.desk.base.marks) below core.ledger ≡ None) where
  -- behind a drop of nothing
  pub core_dropped_none : (ledger : Ledger) → below ≤ oldest core.desk.base.marks → ledger ≡ closed who (whats.Dropped below) core.ledger → WorksFit ledger → IsCore honest state opening (record { desk = core.desk; ledger = ledger }) plain
  core_dropped_none ledger low ledger_is works =
      core_dropped honest state opening core plain is who below kept none core.desk ledger plain ledger_is works is.is is.fits
      (sym (with_nothing honest state opening core plain is plain.history) ∙ ap (λ (c : Option Change). with_changes plain.history (option_to_list c)) (sym (drops_none core.desk.base below low))) (λ page. refl) refl refl refl

  module _ (above : oldest core.desk.base.marks < below) where
    pub drop_right : IsRight core.desk.base (Drop below)
    drop_right = (above, (drop_bounds honest state opening core plain is who below kept none).1)

    pub drop_may : IsChangeOf honest state core.desk (entries.Change (Drop below)) plain (Drop below)
    drop_may = record {
      is = is.is;
      fits = is.fits;
      goes = going core.desk.stop plain.stopped is.is.stopped (drop_goes honest state opening core plain is who below kept none);
      spells = refl;
      follows = drop_follows honest state opening core plain is who below kept none above;
    }

    pub core_dropped_some : (desk : RunningDesk D) (ledger : Ledger) → ledger ≡ closed who (whats.Dropped below) core.ledger → WorksFit ledger → IsDesk honest state desk (changed plain (Drop below))
        → ((page : ℕ) → held desk.pool page ≡ held core.desk.pool page) → desk.stop ≡ core.desk.stop → desk.base ≡ base_after core.desk.base (Drop below)
        → IsCore honest state opening (record { desk = desk; ledger = ledger }) (changed plain (Drop below))
    core_dropped_some desk ledger ledger_is works is_desk same stop base =
        core_dropped honest state opening core plain is who below kept none desk ledger (changed plain (Drop below)) ledger_is works is_desk
        (change_keeps plain is.fits (Drop below) drop_may.goes drop_may.follows)
        (ap (λ (c : Option Change). with_changes plain.history (option_to_list c)) (sym (drops_some core.desk.base below above))) same stop (ap (λ (b : Base). b.page_count) base) refl

    -- behind a drop that a call of the log's device failed
    pub core_drop_fails : (between desk : RunningDesk D) (why : Refusal) (ledger : Ledger) → IsDiskFault why → between.stop ≡ stop_behind core.desk.stop why → IsDesk honest state between (change_failed plain (Drop below))
        → ((page : ℕ) → held between.pool page ≡ held core.desk.pool page) → SameButPages between desk → ((page : ℕ) → held desk.pool page ≡ (held between.pool page && not (has_released who why page core.ledger)))
        → HasEndedDrop who below why core.ledger ledger → WorksFit ledger → IsDesk honest state desk (change_failed plain (Drop below)) → IsCore honest state opening (record { desk = desk; ledger = ledger }) (change_failed plain (Drop below))
    core_drop_fails between desk why ledger fault stop sent same rest released ended works is_desk =
        core_fails honest state opening core plain is between desk (change_failed plain (Drop below)) who (Append (Drop below)) why ledger fault refl (kept_may_record who core.ledger kept).0
        (λ device count. closes_drop who (whats.Fault device count (Append (Drop below))) (work_at core.ledger.works.slots who.session) kept refl)
        (drop_goes honest state opening core plain is who below kept none) stop (sent.base ∙ sym is.is.base) same rest released (ended.other (no_memory why fault)) works is_desk
        (change_failed_keeps plain is.fits (Drop below) drop_may.follows) refl
        (λ device count. told_new core.ledger.book.lines (line_of who (whats.Fault device count (Append (Drop below)))) (Drop below) (sym is.stop ∙ drop_goes honest state opening core plain is who below kept none) refl)

-- ---- what a drop gives, said of the ledger before its line was kept

module _ (who : Who) (below newest : ℕ) (l kept new : Ledger) (is : kept ≡ drop_kept who l) (free : drop_refused_by newest below l ≡ None) where
  pub dropped_done : (r : Result (Unit {0}) Refusal) → MatchResult r (λ _. new ≡ closed who (whats.Dropped below) kept) (λ why. HasEndedDrop who below why kept new)
      → OnOk r ((drop_refused_by newest below l ≡ None) × (new ≡ closed who (whats.Dropped below) (drop_kept who l)))
  dropped_done (Ok x) m = (free, m ∙ ap (closed who (whats.Dropped below)) is)
  dropped_done (Err why) m = tt

  pub dropped_kept : (r : Result (Unit {0}) Refusal) → MatchResult r (λ _. new ≡ closed who (whats.Dropped below) kept) (λ why. HasEndedDrop who below why kept new)
      → IfErr r (λ why. HasEndedDrop who below why (drop_kept who l) new ⊎ ((why ≡ OutOfMemory) × (new ≡ given_up who l)))
  dropped_kept (Ok x) m = tt
  dropped_kept (Err why) m = inl (subst (λ (k : Ledger). HasEndedDrop who below why k new) is m)

pub stays_from : {D : Type 0} (honest : D → Type 0) (state : D → State) (old between new : Core D) (r : Result (Unit {0}) Refusal) → StaysCore honest state old between
    → IfErr r (λ why. (IsDiskFault why → ⊥) → StaysCore honest state between new) → IfErr r (λ why. (IsDiskFault why → ⊥) → StaysCore honest state old new)
stays_from honest state old between new (Ok x) first m = tt
stays_from honest state old between new (Err why) first m = λ other opening plain is. m other opening plain (first opening plain is)
