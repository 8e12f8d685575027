-- The core behind a commit.
use Rattle.std.proofs.Common.{◌≡◌, ◌∙◌, ◌≤◌, ◌<◌, ◌+◌, ◌&&◌, ◌||◌, not, ℕ, Bool, true, false, cond, eqb, List, [], ◌∷◌, length, refl, sym, ap, subst, arith, Option, Some, None, Bor, option_copied}
use Rattle.std.specs.Prelude.{IsSome, is_some, ◌^◌}
use Rattle.std.specs.Option.{option_to_list}
use Rattle.std.specs.List.{AllByRecursion}
use Rattle.std.proofs.lemmas.Bool.{eq-eqb, ltb-false}
use Rattle.std.proofs.lemmas.List.Filters.{length-filter_both}
use Rattle.disk_model.specs.Disk.{State}
use Rattle.retro_base.specs.declared.limits.TheConstants.{EDITED_PAGES, JOURNAL_IMAGES, MAX_PAGES, PAGE_BYTES}
use Rattle.retro_base.specs.declared.who.Who.{Who}
use Rattle.history.specs.declared.entry.Base.{Base}
use Rattle.history.specs.declared.entry.Change.{Change}
use Rattle.history.specs.declared.entry.Change.TheVariants.{Commit}
use Rattle.history.specs.declared.journal.What.TheVariants as whats
use Rattle.history.specs.declared.log.Version.{Version}
use Rattle.history.specs.declared.log.Version.TheVariants.{One, Two}
use Rattle.history.specs.declared.writes.PageImage.{PageImage}
use Rattle.history.specs.History.{History, base_after, captures_page, now, with_changes}
use Rattle.history.specs.Journal.{change_of}
use Rattle.history.specs.Lines.{base_of, images_in, first_stop, stop_of}
use Rattle.history.specs.Right.{DoesSomething, IsBase, IsRight}
use Rattle.history.specs.Sound.{KeepsRules, MayCommit, pins_of}
use Rattle.history.specs.Writes.{is_among, pages_of}
use Rattle.history.proofs.SoundLaws.{sound_with_one_more}
use Rattle.page_pool.specs.Side.{Pool, held}
use Rattle.records.specs.Entries.{ChangeFits, LabelFits, WriteFits, page_width}
use Rattle.race_model.specs.Desk.{Desk}
use Rattle.race_model.specs.Machine.{changed}
use Rattle.race_model.proofs.DeskKeeps.{change_keeps}
use Rattle.desk.specs.declared.desk.RunningDesk.{RunningDesk}
use Rattle.desk.specs.Desk.{IsDesk}
use Rattle.desk.specs.Steps.{AreHeld}
use Rattle.desk.proofs.Steps.{going}
use Rattle.journal_book.specs.declared.work.Transaction.{Transaction}
use Rattle.journal_book.specs.declared.work.Work.{Work}
use Rattle.journal_book.specs.declared.work.Work.TheVariants.{Open}
use Rattle.journal_book.specs.Works.{edits_of, edits_page, work_at}
use Rattle.txn_set.specs.declared.ledger.Ledger.{Ledger}
use Rattle.txn_set.specs.Ledger.{committed, line_of, taken}
use Rattle.txn_set.specs.Refused.{captures_behind, commit_refused, counts_of, leaves_record}
use Rattle.txn_set.specs.WorksFit.{TransactionFits, WorksFit}
use Rattle.txn_set.proofs.Commits.{commits_are_right, commits_stay_sound, desk_goes_on, images_fit}
use Rattle.txn_set.proofs.LedgerSteps.{some_kept}
use Rattle.store_core.specs.declared.desk_core.Core.{Core}
use Rattle.journal_book.proofs.Slots.{work_at_with}
use Rattle.store_core.specs.Commits.{IsAllowed, IsMayCommit}
use Rattle.store_core.specs.Core.{IsCore}
use Rattle.store_core.proofs.Cores.{base_is, core_line, doubt_stays, holds_ended, with_nothing}
use Rattle.store_core.proofs.Ledgers.{ledger_committed}
use Rattle.store_core.proofs.Opened.{and_true, stop_stays}

-- a commit that leaves none has no mark
pub no_mark : (mark : Option (Bor (List ℕ))) (writes : List PageImage) → leaves_record (option_copied mark) writes ≡ false → is_some mark ≡ true → ⊥
no_mark None writes none e = cc e
no_mark (Some label) writes none e = cc none

-- a commit that leaves a record does something
does_so : (label : Option (List ℕ)) (writes : List PageImage) → leaves_record label writes ≡ true → DoesSomething label writes
does_so None [] e = absurd cc
does_so None (write ∷ writes) e = tt
does_so (Some label) writes e = tt

change_done : (base : Base) (label : Option (List ℕ)) (writes : List PageImage) → leaves_record label writes ≡ true → change_of base (whats.Done label writes) ≡ Some (Commit label writes)
change_done base None [] e = absurd cc
change_done base None (write ∷ writes) e = refl
change_done base (Some label) [] e = refl
change_done base (Some label) (write ∷ writes) e = refl

-- and one that leaves none writes and declares nothing
pub does_none : (label : Option (List ℕ)) (writes : List PageImage) → leaves_record label writes ≡ false → (label ≡ None) × (writes ≡ [])
does_none None [] e = (refl, refl)
does_none None (write ∷ writes) e = absurd (omega (arith, ltb-false 0 (length (write ∷ writes)) e))
does_none (Some label) writes e = absurd cc

held_each : {D : Type 0} (pool : Pool D) (writes : List PageImage) → ((page : ℕ) → is_among page (pages_of writes) ≡ true → held pool page ≡ true) → AreHeld pool writes
held_each pool [] all = tt
held_each pool (write ∷ writes) all =
    (all write.page (ap (λ (b : Bool). b || is_among write.page (pages_of writes)) (eq-eqb write.page write.page refl)), held_each pool writes (λ page e. all page (later write.page page (is_among page (pages_of writes)) e))) where
      later : (first page : ℕ) (b : Bool) → b ≡ true → eqb first page || b ≡ true
      later first page b e = ap (λ (x : Bool). eqb first page || x) e ∙ or_true (eqb first page) where
        or_true : (a : Bool) → a || true ≡ true
        or_true true = refl
        or_true false = refl

writes_fit : (version : Version) (pages : ℕ) (writes : List PageImage) → pages ≤ MAX_PAGES → AllByRecursion (λ write. write.page < pages) writes → AllByRecursion (λ write. length write.bytes ≡ PAGE_BYTES) writes → AllByRecursion (WriteFits version) writes
writes_fit version pages [] few inside whole = tt
writes_fit version pages (write ∷ writes) few inside whole = (record { page = width version; whole = whole.0 }, writes_fit version pages writes few inside.1 whole.1) where
  width : (version : Version) → write.page < 256 ^ page_width version
  width One = omega (arith, few, inside.0)
  width Two = omega (arith, few, inside.0)

module _ {D : Type 0} (honest : D → Type 0) (state : D → State) (opening : History) (core : Core D) (plain : Desk) (is : IsCore honest state opening core plain) where
  pub base_right : IsBase core.desk.base
  base_right = subst IsBase (sym is.is.base) is.fits.history.right

  module _ (who : Who) (t : Transaction) (label : Option (List ℕ)) (there : work_at core.ledger.works.slots who.session ≡ Some (Open t)) where
    pub fitting : TransactionFits core.ledger.book.pages core.ledger.book.lines t
    fitting = is.ledger.works.each who.session (Open t) there

    pub edits_inside : AllByRecursion (λ (edit : PageImage). edit.page < core.desk.base.page_count) t.edits
    edits_inside = subst (λ (n : ℕ). AllByRecursion (λ (edit : PageImage). edit.page < n) t.edits) is.pages fitting.edits_inside

    pub edits_held : AreHeld core.desk.pool t.edits
    edits_held = held_each core.desk.pool t.edits (λ page e. is.edits.kept page who.session (ap (edits_page page) there ∙ e))

    pub commit_fits : (version : Version) → LabelFits label → ChangeFits version (Commit label t.edits)
    commit_fits version fits =
        (fits, fitting.few, fitting.edits_rise, writes_fit version core.desk.base.page_count t.edits base_right.pages.1 edits_inside (subst (AllByRecursion (λ (edit : PageImage). length edit.bytes ≡ PAGE_BYTES)) (ap edits_of there) (is.ledger.whole who.session)))

    pub kept_one : 1 ≤ core.ledger.book.kept
    kept_one = subst (λ (n : ℕ). 1 ≤ n) (sym is.ledger.works.kept) (some_kept core.ledger.works.slots who.session (subst IsSome (sym there) refl))

    module _ (none : commit_refused (first_stop core.ledger.book.lines) (counts_of core.desk.base t.edits) core.ledger.book.lines t (is_some label) ≡ None) where
      pub images_room : images_in core.ledger.book.lines + length t.edits ≤ JOURNAL_IMAGES
      images_room = images_fit core.desk.base (first_stop core.ledger.book.lines) core.ledger.book.lines t label none

      module _ (leaves : leaves_record label t.edits ≡ true) where
        pub goes_on : core.desk.stop ≡ None
        goes_on = is.stop ∙ (desk_goes_on core.desk.base (first_stop core.ledger.book.lines) core.ledger.book.lines t label none leaves)

        pub commit_right : IsRight core.desk.base (Commit label t.edits)
        commit_right = commits_are_right core.desk.base (first_stop core.ledger.book.lines) core.ledger.book.lines t label base_right edits_inside none (does_so label t.edits leaves)

        pub may_commit : IsMayCommit honest state core.desk plain label t.edits
        may_commit = record {
          is = is.is;
          fits = is.fits;
          goes = going core.desk.stop plain.stopped is.is.stopped goes_on;
          follows = record { right = subst (λ (b : Base). IsRight b (Commit label t.edits)) is.is.base commit_right; rises = fitting.edits_rise };
        }

        commit_rules : KeepsRules (base_of (now opening).base core.ledger.book.lines) (pins_of (now opening).base [] core.ledger.book.lines) (whats.Done label t.edits)
        commit_rules = subst (λ (b : Base). MayCommit b label t.edits) (base_is honest state opening core plain is) (record { rises = fitting.edits_rise; in_store = edits_inside; limits = commit_right.2 })

        pub core_committed : (desk : RunningDesk D) (ledger : Ledger) → ledger ≡ committed who label t.edits (taken who core.ledger) → WorksFit ledger → IsDesk honest state desk (changed plain (Commit label t.edits))
            → ((page : ℕ) → held desk.pool page ≡ (held core.desk.pool page && not (is_among page (pages_of t.edits)))) → desk.stop ≡ core.desk.stop → desk.base ≡ base_after core.desk.base (Commit label t.edits)
            → IsCore honest state opening (record { desk = desk; ledger = ledger }) (changed plain (Commit label t.edits))
        core_committed desk ledger ledger_is works is_desk released stop base =
            let change : Change = Commit label t.edits in
            let behind : Ledger = committed who label t.edits (taken who core.ledger) in
            subst (λ (l : Ledger). IsCore honest state opening (record { desk = desk; ledger = l }) (changed plain change)) (sym ledger_is)
            (core_line honest state opening core plain is (record { desk = desk; ledger = behind }) (changed plain change) (line_of who (whats.Done label t.edits)) refl refl
            (ledger_committed (now opening).base core.ledger is.ledger who t label there commit_rules (subst WorksFit ledger_is works)) is_desk
            (change_keeps plain is.fits change may_commit.goes may_commit.follows)
            (ap (λ (c : Option Change). with_changes plain.history (option_to_list c)) (sym (change_done core.desk.base label t.edits leaves)))
            (holds_ended core.desk.pool desk.pool core.ledger.works.slots who.session is.edits is.ledger.works.apart
            (λ page. released page ∙ ap (λ (w : Option Work). held core.desk.pool page && not (is_among page (pages_of (edits_of w)))) (sym there)))
            (stop ∙ stop_stays core.desk.stop (stop_of (whats.Done label t.edits)) refl) (ap (λ (b : Base). b.page_count) base)
            (doubt_stays honest state opening core plain is (changed plain change) (line_of who (whats.Done label t.edits)) refl))

-- ---- the open transaction of a session is one

abbrev open_in : Option Work → Transaction → Transaction
open_in (Some (Open t)) other = t
open_in _ other = other

pub same_open : (work : Option Work) (a b : Transaction) → work ≡ Some (Open a) → work ≡ Some (Open b) → a ≡ b
same_open work a b one other = ap (λ (w : Option Work). open_in w a) (sym one ∙ other)

pub allowed_one : {D : Type 0} (core : Core D) (who : Who) (label : Option (List ℕ)) (a b : Transaction) → work_at core.ledger.works.slots who.session ≡ Some (Open b) → IsAllowed core who label a → IsAllowed core who label b
allowed_one core who label a b there allowed = subst (IsAllowed core who label) (same_open (work_at core.ledger.works.slots who.session) a b allowed.is_open there) allowed

pub taken_none : (who : Who) (l : Ledger) → work_at (taken who l).works.slots who.session ≡ None
taken_none who l = work_at_with l.works.slots who.session who.session None ∙ ap (λ (b : Bool). cond b None (work_at l.works.slots who.session)) (eq-eqb who.session who.session refl)

pub committed_same : (who : Who) (label other : Option (List ℕ)) (writes more : List PageImage) (l m : Ledger) → label ≡ other → writes ≡ more → l ≡ m → committed who label writes l ≡ committed who other more m
committed_same who label other writes more l m a b c = ap (λ x. committed who x writes l) a ∙ ap (λ x. committed who other x l) b ∙ ap (λ x. committed who other more x) c

pub core_pair : {D : Type 0} (a b : Core D) → a.desk ≡ b.desk → a.ledger ≡ b.ledger → a ≡ b
core_pair {D = D} a b desk ledger = ap (λ (d : RunningDesk D). let c : Core D = record a { desk = d } in c) desk ∙ ap (λ (l : Ledger). let c : Core D = record b { ledger = l } in c) ledger

module _ {D : Type 0} (honest : D → Type 0) (state : D → State) (opening : History) (core : Core D) (plain : Desk) (is : IsCore honest state opening core plain) (who : Who) (t : Transaction) (label : Option (List ℕ))
    (there : work_at core.ledger.works.slots who.session ≡ Some (Open t)) (none : commit_refused (first_stop core.ledger.book.lines) (counts_of core.desk.base t.edits) core.ledger.book.lines t (is_some label) ≡ None) where
  any_rules : KeepsRules (base_of (now opening).base core.ledger.book.lines) (pins_of (now opening).base [] core.ledger.book.lines) (whats.Done label t.edits)
  any_rules =
      let base = base_is honest state opening core plain is in
      ((sound_with_one_more (now opening).base core.ledger.book.lines (line_of who (whats.Done label t.edits))).0
      (commits_stay_sound (now opening).base (first_stop core.ledger.book.lines) core.ledger.book.lines (line_of who (whats.Done label t.edits)) t label is.ledger.sound
      (omega (arith, is.ledger.places.places, kept_one honest state opening core plain is who t label there))
      (fitting honest state opening core plain is who t label there).edits_rise
      (subst (λ (b : Base). AllByRecursion (λ (edit : PageImage). edit.page < b.page_count) t.edits) base (edits_inside honest state opening core plain is who t label there))
      (subst (λ (b : Base). commit_refused (first_stop core.ledger.book.lines) (counts_of b t.edits) core.ledger.book.lines t (is_some label) ≡ None) base none) refl)).2

  -- behind a commit that neither writes nor declares
  pub core_nothing : (ledger : Ledger) → ledger ≡ committed who label t.edits (taken who core.ledger) → WorksFit ledger → leaves_record label t.edits ≡ false → IsCore honest state opening (record { desk = core.desk; ledger = ledger }) plain
  core_nothing ledger ledger_is works leaves =
      let behind : Ledger = committed who label t.edits (taken who core.ledger) in
      let empty = does_none label t.edits leaves in
      subst (λ (l : Ledger). IsCore honest state opening (record { desk = core.desk; ledger = l }) plain) (sym ledger_is)
      (core_line honest state opening core plain is (record { desk = core.desk; ledger = behind }) plain (line_of who (whats.Done label t.edits)) refl refl
      (ledger_committed (now opening).base core.ledger is.ledger who t label there any_rules (subst WorksFit ledger_is works)) is.is is.fits
      (sym (with_nothing honest state opening core plain is plain.history)
      ∙ sym (ap (λ (l : Option (List ℕ)). with_changes plain.history (option_to_list (change_of core.desk.base (whats.Done l t.edits)))) empty.0
      ∙ ap (λ (w : List PageImage). with_changes plain.history (option_to_list (change_of core.desk.base (whats.Done None w)))) empty.1))
      (holds_ended core.desk.pool core.desk.pool core.ledger.works.slots who.session is.edits is.ledger.works.apart
      (λ page. and_true (held core.desk.pool page) ∙ ap (λ (l : List PageImage). held core.desk.pool page && not (is_among page (pages_of l))) (sym empty.1 ∙ sym (ap edits_of there))))
      (stop_stays core.desk.stop (stop_of (whats.Done label t.edits)) refl) refl (doubt_stays honest state opening core plain is plain (line_of who (whats.Done label t.edits)) refl))

-- the captures behind a commit stay below 2^64
pub captures_below : (base : Base) (writes : List PageImage) → IsBase base → length writes ≤ EDITED_PAGES → captures_behind (counts_of base writes) < 2 ^ 64
captures_below base writes is few = omega (arith, is.limits.total, few, length-filter_both (λ (w : PageImage). captures_page base w.page) (λ (w : PageImage). not (captures_page base w.page)) (λ w. refl) writes)
