-- The core behind a drop.
use Rattle.std.proofs.Common.{◌≡◌, ◌∙◌, ◌≤◌, ◌<◌, ℕ, [], length, refl, sym, subst, arith, Option, Some, None}
use Rattle.std.specs.Prelude.{IsSome, option_map}
use Rattle.std.specs.Option.{option_or, option_to_list}
use Rattle.disk_model.specs.Disk.{State}
use Rattle.retro_base.specs.declared.who.Who.{Who}
use Rattle.history.specs.declared.entry.Base.{Base}
use Rattle.history.specs.declared.entry.Change.TheVariants.{Drop}
use Rattle.history.specs.declared.journal.What.TheVariants as whats
use Rattle.history.specs.History.{History, now, with_changes}
use Rattle.history.specs.Journal.{change_of}
use Rattle.history.specs.Lines.{base_of, first_stop, stop_of}
use Rattle.history.specs.Marks.{newest, oldest}
use Rattle.history.specs.Right.{IsRight, MayFollow}
use Rattle.history.specs.Sound.{KeepsRules, pins_of}
use Rattle.history.proofs.SoundLaws.{sound_with_one_more}
use Rattle.page_pool.specs.Side.{held}
use Rattle.race_model.specs.Desk.{Desk}
use Rattle.race_model.specs.Fits.{DeskFits}
use Rattle.desk.specs.declared.desk.RunningDesk.{RunningDesk}
use Rattle.desk.specs.Desk.{IsDesk}
use Rattle.history.specs.declared.stop.Stop.{Stop}
use Rattle.journal_book.specs.declared.work.Work.{Work}
use Rattle.journal_book.specs.declared.work.Work.TheVariants.{KeptDrop}
use Rattle.journal_book.specs.Works.{edits_of, work_at, with_work}
use Rattle.txn_set.specs.declared.ledger.Ledger.{Ledger}
use Rattle.txn_set.specs.Ledger.{IsKeptDrop, closed, line_of}
use Rattle.txn_set.specs.Refused.{drop_refused, stopped}
use Rattle.txn_set.specs.WorksFit.{WorksFit, pins_at}
use Rattle.txn_set.proofs.Drops.{drops_stay_sound}
use Rattle.txn_set.proofs.LedgerSteps.{some_kept}
use Rattle.store_core.specs.declared.desk_core.Core.{Core}
use Rattle.store_core.specs.Core.{IsCore}
use Rattle.store_core.proofs.Cores.{base_is, core_line, doubt_stays, holds_moved, same_edits}
use Rattle.store_core.proofs.Ledgers.{ledger_closed, own_ended}
use Rattle.store_core.proofs.Opened.{stop_stays}
use Rattle.store_core.proofs.Pins.{PinsForNone}

pub none_first : {X : Type 0} (a b : Option X) → option_or a b ≡ None → a ≡ None
none_first None b e = refl
none_first (Some x) b e = absurd cc

pub none_mapped : (stop : Option Stop) → option_map stopped stop ≡ None → stop ≡ None
none_mapped None e = refl
none_mapped (Some stop) e = absurd cc

-- a line that is kept for a drop pins nothing, and edits nothing
pub drop_some : (work : Option Work) → IsKeptDrop work → IsSome work
drop_some None k = absurd k
drop_some (Some work) k = refl

drop_others : (who : Who) (work : Option Work) → IsKeptDrop work → PinsForNone who work
drop_others who None k = absurd k
drop_others who (Some (KeptDrop kept)) k = λ other differs. refl
drop_others who (Some other) k = absurd k

drop_own : (who : Who) (work : Option Work) → IsKeptDrop work → pins_at who work ≡ []
drop_own who None k = absurd k
drop_own who (Some (KeptDrop kept)) k = refl
drop_own who (Some other) k = absurd k

pub drop_edits : (work : Option Work) → IsKeptDrop work → edits_of None ≡ edits_of work
drop_edits None k = refl
drop_edits (Some (KeptDrop kept)) k = refl
drop_edits (Some other) k = absurd k

module _ {D : Type 0} (honest : D → Type 0) (state : D → State) (opening : History) (core : Core D) (plain : Desk) (is : IsCore honest state opening core plain) (who : Who) (below : ℕ)
    (kept : IsKeptDrop (work_at core.ledger.works.slots who.session)) (none : drop_refused (first_stop core.ledger.book.lines) (newest core.desk.base.marks) below core.ledger.works.slots ≡ None) where
  pub drop_goes : core.desk.stop ≡ None
  drop_goes = is.stop ∙ none_mapped (first_stop core.ledger.book.lines) (none_first (option_map stopped (first_stop core.ledger.book.lines)) _ none)

  place : length core.ledger.book.lines < 65536
  place =
      let one : 1 ≤ core.ledger.book.kept = subst (λ (n : ℕ). 1 ≤ n) (sym is.ledger.works.kept) (some_kept core.ledger.works.slots who.session (drop_some (work_at core.ledger.works.slots who.session) kept)) in
      omega (arith, one, is.ledger.places.places)

  drop_rules : KeepsRules (base_of (now opening).base core.ledger.book.lines) (pins_of (now opening).base [] core.ledger.book.lines) (whats.Dropped below)
  drop_rules =
      ((sound_with_one_more (now opening).base core.ledger.book.lines (line_of who (whats.Dropped below))).0
      (drops_stay_sound (now opening).base (first_stop core.ledger.book.lines) core.ledger (line_of who (whats.Dropped below)) below is.ledger.sound place is.ledger.works is.ledger.pins
      (subst (λ (b : Base). drop_refused (first_stop core.ledger.book.lines) (newest b.marks) below core.ledger.works.slots ≡ None) (base_is honest state opening core plain is) none) refl)).2

  pub drop_bounds : (1 ≤ below) × (below ≤ newest core.desk.base.marks)
  drop_bounds = (drop_rules.0, subst (λ (b : Base). below ≤ newest b.marks) (sym (base_is honest state opening core plain is)) drop_rules.1)

  pub drop_follows : oldest core.desk.base.marks < below → MayFollow (now plain.history).base (Drop below)
  drop_follows above = record { right = subst (λ (b : Base). IsRight b (Drop below)) is.is.base (above, drop_bounds.1); rises = tt }

  pub core_dropped : (desk : RunningDesk D) (ledger : Ledger) (other : Desk) → ledger ≡ closed who (whats.Dropped below) core.ledger → WorksFit ledger → IsDesk honest state desk other → DeskFits other
      → other.history ≡ with_changes plain.history (option_to_list (change_of core.desk.base (whats.Dropped below))) → ((page : ℕ) → held desk.pool page ≡ held core.desk.pool page)
      → desk.stop ≡ core.desk.stop → desk.base.page_count ≡ core.desk.base.page_count → other.doubt ≡ plain.doubt → IsCore honest state opening (record { desk = desk; ledger = ledger }) other
  core_dropped desk ledger other ledger_is works is_desk fits history same stop count doubt =
      let work : Option Work = work_at core.ledger.works.slots who.session in
      subst (λ (l : Ledger). IsCore honest state opening (record { desk = desk; ledger = l }) other) (sym ledger_is)
      (core_line honest state opening core plain is (record { desk = desk; ledger = closed who (whats.Dropped below) core.ledger }) other (line_of who (whats.Dropped below)) refl refl
      (ledger_closed (now opening).base core.ledger is.ledger who (whats.Dropped below) (drop_some work kept) refl drop_rules (drop_others who work kept)
      (own_ended (now opening).base core.ledger.book.lines (line_of who (whats.Dropped below)) refl (is.ledger.pins.pins who ∙ drop_own who work kept)) (subst WorksFit ledger_is works))
      is_desk fits history
      (holds_moved core.desk.pool desk.pool core.ledger.works.slots (with_work core.ledger.works.slots who.session None) is.edits same (same_edits core.ledger.works.slots who.session None (drop_edits work kept)))
      (stop ∙ stop_stays core.desk.stop (stop_of (whats.Dropped below)) refl) count (doubt_stays honest state opening core plain is other (line_of who (whats.Dropped below)) doubt))
