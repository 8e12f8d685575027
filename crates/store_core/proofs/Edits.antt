-- The core behind pages that are read and edited.
use Rattle.std.proofs.Common.{◌≡◌, ◌∙◌, ◌&&◌, ◌||◌, not, ℕ, Bool, true, false, cond, eqb, ltb, List, [], ◌∷◌, length, refl, sym, ap, subst, Bor, Option, Some, None, Result, Ok, Err}
use Rattle.std.specs.Prelude.{MatchResult, OnOk, OnErr, IfErr, is_some, option_copied}
use Rattle.std.specs.List.{AllByRecursion}
use Rattle.std.proofs.lemmas.Bool.{eqb-true, eqb-false, eq-eqb}
use Rattle.disk_model.specs.Disk.{State}
use Rattle.retro_base.specs.declared.device.Device.{Device}
use Rattle.redo_log.specs.Cause.{IsMemoryOrFault}
use Rattle.retro_base.specs.declared.refusal.Refusal.{Refusal}
use Rattle.retro_base.specs.declared.limits.TheConstants.{PAGE_BYTES}
use Rattle.retro_base.specs.declared.refusal.Refusal.TheVariants.{OutOfMemory}
use Rattle.retro_base.specs.declared.who.Who.{Who}
use Rattle.history.specs.declared.writes.PageImage.{PageImage}
use Rattle.history.specs.History.{History, now}
use Rattle.history.specs.Writes.{is_among, pages_of}
use Rattle.page_pool.specs.Side.{Pool, held}
use Rattle.race_model.specs.Desk.{Desk}
use Rattle.desk.specs.declared.desk.RunningDesk.{RunningDesk}
use Rattle.desk.specs.Desk.{IsDesk}
use Rattle.desk.specs.Steps.{SameButPages}
use Rattle.journal_book.specs.declared.work.Transaction.{Transaction}
use Rattle.journal_book.specs.declared.work.Work.{Work}
use Rattle.journal_book.specs.declared.work.Work.TheVariants.{Open}
use Rattle.journal_book.specs.Works.{editing, edits_of, edits_page, keeping_refusal, own_edit, with_edit, work_at, with_work}
use Rattle.journal_book.proofs.EditLists.{edit_among}
use Rattle.journal_book.proofs.Slots.{with_work_same, work_at_with}
use Rattle.txn_set.specs.declared.ledger.Ledger.{Ledger}
use Rattle.txn_set.specs.Ledger.{is_kept, kept_behind, with_open}
use Rattle.txn_set.specs.Refused.{edit_refused}
use Rattle.txn_set.specs.WorksFit.{WorksFit}
use Rattle.txn_set.proofs.FitSteps.{edit_alone}
use Rattle.store_core.specs.declared.desk_core.Core.{Core}
use Rattle.store_core.specs.Calls.{HasAnswered}
use Rattle.store_core.specs.Core.{HoldsEdits, IsCore}
use Rattle.store_core.proofs.Cores.{core_still, holds_moved, same_edits}
use Rattle.store_core.proofs.Ledgers.{ledger_with}

-- the edits of a transaction stay where it keeps a refusal
pub kept_edits : (why : Refusal) (t : Transaction) → (kept_behind why t).edits ≡ t.edits
kept_edits why t = at (is_kept why) where
  at : (test : Bool) → (cond test (keeping_refusal why t) t).edits ≡ t.edits
  at true = refl
  at false = refl

module _ {D : Type 0} (honest : D → Type 0) (state : D → State) (opening : History) (core : Core D) (plain : Desk) (is : IsCore honest state opening core plain) where
  -- another pool, which holds the same pages
  pub core_read : (desk : RunningDesk D) → SameButPages core.desk desk → IsDesk honest state desk plain → ((page : ℕ) → held desk.pool page ≡ held core.desk.pool page) → IsCore honest state opening (record { desk = desk; ledger = core.ledger }) plain
  core_read desk rest is_desk same =
      core_still honest state opening core plain is (record { desk = desk; ledger = core.ledger }) plain refl refl is.ledger is_desk is.fits refl
      (holds_moved core.desk.pool desk.pool core.ledger.works.slots core.ledger.works.slots is.edits same (λ page other. refl))
      (ap (λ (r : RunningDesk D). r.stop) rest) (ap (λ (r : RunningDesk D). r.base) rest) is.doubt

  -- a transaction in the place of one with the same edits
  pub core_with : (ledger : Ledger) (who : Who) (t next : Transaction) → work_at core.ledger.works.slots who.session ≡ Some (Open t) → next.edits ≡ t.edits → ledger ≡ with_open who next core.ledger → WorksFit ledger
      → IsCore honest state opening (record { desk = core.desk; ledger = ledger }) plain
  core_with ledger who t next there edits ledger_is fits =
      subst (λ (l : Ledger). IsCore honest state opening (record { desk = core.desk; ledger = l }) plain) (sym ledger_is)
      (core_still honest state opening core plain is (record { desk = core.desk; ledger = with_open who next core.ledger }) plain refl refl
      (ledger_with (now opening).base core.ledger is.ledger who t next there
      (subst (AllByRecursion (λ (e : PageImage). length e.bytes ≡ PAGE_BYTES)) (ap edits_of (there) ∙ sym edits) (is.ledger.whole who.session)) (subst WorksFit ledger_is fits))
      is.is is.fits refl
      (holds_moved core.desk.pool core.desk.pool core.ledger.works.slots (with_work core.ledger.works.slots who.session (Some (Open next))) is.edits (λ page. refl)
      (same_edits core.ledger.works.slots who.session (Some (Open next)) (edits ∙ sym (ap edits_of there)))) refl refl is.doubt)

-- a transaction that keeps nothing more is as it was
pub still_open : (who : Who) (l : Ledger) (t : Transaction) → work_at l.works.slots who.session ≡ Some (Open t) → l ≡ with_open who t l
still_open who l t there = ap (λ (s : List (Option Work)). let x : Ledger = record l { works = record l.works { slots = s } } in x) (sym (with_work_same l.works.slots who.session (Open t) there))

-- ---- an edit

pub own_among : (page : ℕ) (images : List PageImage) → is_some (own_edit page images) ≡ is_among page (pages_of images)
own_among page [] = refl
own_among page (image ∷ images) = at (eqb image.page page) refl (own_among page images) where
  at : (test : Bool) → eqb image.page page ≡ test → is_some (own_edit page images) ≡ is_among page (pages_of images) → is_some (cond (eqb image.page page) (Some image.bytes) (own_edit page images)) ≡ eqb image.page page || is_among page (pages_of images)
  at true e later = ap (λ (b : Bool). is_some (cond b (Some image.bytes) (own_edit page images))) e ∙ sym (ap (λ (b : Bool). b || is_among page (pages_of images)) e)
  at false e later = ap (λ (b : Bool). is_some (cond b (Some image.bytes) (own_edit page images))) e ∙ later ∙ sym (ap (λ (b : Bool). b || is_among page (pages_of images)) e)

abbrev Whole : PageImage → Type 0
Whole edit = length edit.bytes ≡ PAGE_BYTES

whole_edit : (image : PageImage) (images : List PageImage) → Whole image → AllByRecursion Whole images → AllByRecursion Whole (with_edit image images)
whole_edit image [] whole all = (whole, tt)
whole_edit image (other ∷ images) whole all = at (ltb other.page image.page) (eqb image.page other.page) (whole_edit image images whole all.1) where
  at : (b c : Bool) → AllByRecursion Whole (with_edit image images) → AllByRecursion Whole (cond b (other ∷ with_edit image images) (cond c (image ∷ images) (image ∷ other ∷ images)))
  at true c later = (all.0, later)
  at false true later = (whole, all.1)
  at false false later = (whole, all)

-- where an edit failed, the pages that are held are those that were
pub held_again : {D : Type 0} (honest : D → Type 0) (state : D → State) (opening : History) (core : Core D) (plain : Desk) → IsCore honest state opening core plain → (who : Who) (t : Transaction) (page : ℕ) (between new : Pool D)
    → work_at core.ledger.works.slots who.session ≡ Some (Open t) → edit_refused core.ledger.book.lines core.ledger.works.slots t page ≡ None
    → ((other : ℕ) → held between other ≡ (held core.desk.pool other || eqb other page))
    → ((other : ℕ) → held new other ≡ cond (eqb other page && not (is_among page (pages_of t.edits))) false (held between other))
    → (other : ℕ) → held new other ≡ held core.desk.pool other
held_again honest state opening core plain is who t page between new there allowed more less other =
    less other ∙ at (eqb other page) refl (is_among page (pages_of t.edits)) refl where
      own : (session : ℕ) → edits_page page (work_at core.ledger.works.slots session) ≡ true → is_among page (pages_of t.edits) ≡ true
      own session e =
          ap (edits_page page) (sym there) ∙ ap (λ (n : ℕ). edits_page page (work_at core.ledger.works.slots n)) (sym (edit_alone core.ledger who t page session is.ledger.works there allowed e)) ∙ e

      free : (test : Bool) → held core.desk.pool page ≡ test → is_among page (pages_of t.edits) ≡ false → false ≡ held core.desk.pool page
      free false e none = sym e
      free true e none = let found = is.edits.only page e in absurd (cc (none, own found.0 found.1))

      or_false : (b : Bool) → b || false ≡ b
      or_false true = refl
      or_false false = refl

      or_true : (b : Bool) → b || true ≡ true
      or_true true = refl
      or_true false = refl

      at : (here : Bool) → eqb other page ≡ here → (among : Bool) → is_among page (pages_of t.edits) ≡ among
          → cond (eqb other page && not (is_among page (pages_of t.edits))) false (held between other) ≡ held core.desk.pool other
      at false e among f =
          ap (λ (b : Bool). cond (b && not (is_among page (pages_of t.edits))) false (held between other)) e ∙ more other ∙ ap (λ (b : Bool). held core.desk.pool other || b) e ∙ or_false (held core.desk.pool other)
      at true e true f =
          ap (λ (b : Bool). cond (b && not (is_among page (pages_of t.edits))) false (held between other)) e ∙ ap (λ (b : Bool). cond (not b) false (held between other)) f
          ∙ more other ∙ ap (λ (b : Bool). held core.desk.pool other || b) e ∙ or_true (held core.desk.pool other)
          ∙ sym (is.edits.kept other who.session (ap (edits_page other) there ∙ ap (λ (n : ℕ). is_among n (pages_of t.edits)) (eqb-true other page e) ∙ f))
      at true e false f =
          ap (λ (b : Bool). cond (b && not (is_among page (pages_of t.edits))) false (held between other)) e ∙ ap (λ (b : Bool). cond (not b) false (held between other)) f
          ∙ free (held core.desk.pool page) refl f ∙ ap (held core.desk.pool) (sym (eqb-true other page e))

-- one page more is held, and edited
pub holds_edited : {D : Type 0} (pool new : Pool D) (slots : List (Option Work)) (session : ℕ) (t : Transaction) (image : PageImage) → HoldsEdits pool slots → work_at slots session ≡ Some (Open t)
    → ((other : ℕ) → held new other ≡ (held pool other || eqb other image.page)) → HoldsEdits new (with_work slots session (Some (Open (editing image t))))
holds_edited pool new slots session t image holds there more = record {
  kept = λ page other e. kept page other (eqb other session) refl (sym (ap (edits_page page) (work_at_with slots session other next)) ∙ e);
  only = λ page h. only page (eqb page image.page) refl (sym (more page) ∙ h);
} where
  next : Option Work
  next = Some (Open (editing image t))

  or_either : (a b : Bool) → a ≡ true → a || b ≡ true
  or_either true b e = refl
  or_either false b e = absurd cc

  or_other : (a b : Bool) → b ≡ true → a || b ≡ true
  or_other true b e = refl
  or_other false b e = e

  swapped : (page : ℕ) → eqb image.page page ≡ true → eqb page image.page ≡ true
  swapped page e = eq-eqb page image.page (sym (eqb-true image.page page e))

  among : (page : ℕ) (test : Bool) → eqb image.page page ≡ test → eqb image.page page || is_among page (pages_of t.edits) ≡ true → held new page ≡ true
  among page true e h = more page ∙ or_other (held pool page) (eqb page image.page) (swapped page e)
  among page false e h =
      more page ∙ or_either (held pool page) (eqb page image.page) (holds.kept page session (ap (edits_page page) there ∙ sym (ap (λ (b : Bool). b || is_among page (pages_of t.edits)) e) ∙ h))

  kept : (page other : ℕ) (test : Bool) → eqb other session ≡ test → edits_page page (cond test next (work_at slots other)) ≡ true → held new page ≡ true
  kept page other true e h = among page (eqb image.page page) refl (sym (edit_among page image t.edits) ∙ h)
  kept page other false e h = more page ∙ or_either (held pool page) (eqb page image.page) (holds.kept page other h)

  own_next : (page : ℕ) → is_among page (pages_of (with_edit image t.edits)) ≡ true → edits_page page (work_at (with_work slots session next) session) ≡ true
  own_next page e = ap (edits_page page) (work_at_with slots session session next ∙ ap (λ (b : Bool). cond b next (work_at slots session)) (eq-eqb session session refl)) ∙ e

  old_next : (page other : ℕ) (test : Bool) → eqb other session ≡ test → edits_page page (work_at slots other) ≡ true → (s : ℕ) × (edits_page page (work_at (with_work slots session next) s) ≡ true)
  old_next page other true e h =
      (session, own_next page (edit_among page image t.edits ∙ or_other (eqb image.page page) (is_among page (pages_of t.edits)) (ap (edits_page page) (sym there) ∙ ap (λ (n : ℕ). edits_page page (work_at slots n)) (sym (eqb-true other session e)) ∙ h)))
  old_next page other false e h = (other, ap (edits_page page) (work_at_with slots session other next ∙ ap (λ (b : Bool). cond b next (work_at slots other)) e) ∙ h)

  only : (page : ℕ) (test : Bool) → eqb page image.page ≡ test → held pool page || eqb page image.page ≡ true → (s : ℕ) × (edits_page page (work_at (with_work slots session next) s) ≡ true)
  only page true e h = (session, own_next page (edit_among page image t.edits ∙ ap (λ (b : Bool). b || is_among page (pages_of t.edits)) (eq-eqb image.page page (sym (eqb-true page image.page e)))))
  only page false e h =
      let found = holds.only page (first (held pool page) (sym (ap (λ (b : Bool). held pool page || b) e) ∙ h)) in
      old_next page found.0 (eqb found.0 session) refl found.1 where
        first : (b : Bool) → b || false ≡ true → b ≡ true
        first true f = refl
        first false f = absurd cc

module _ {D : Type 0} (honest : D → Type 0) (state : D → State) (opening : History) (core : Core D) (plain : Desk) (is : IsCore honest state opening core plain) where
  pub core_edited : (desk : RunningDesk D) (ledger : Ledger) (who : Who) (t : Transaction) (image : PageImage) → work_at core.ledger.works.slots who.session ≡ Some (Open t) → Whole image
      → SameButPages core.desk desk → IsDesk honest state desk plain → ((other : ℕ) → held desk.pool other ≡ (held core.desk.pool other || eqb other image.page))
      → ledger ≡ with_open who (editing image t) core.ledger → WorksFit ledger → IsCore honest state opening (record { desk = desk; ledger = ledger }) plain
  core_edited desk ledger who t image there whole rest is_desk more ledger_is fits =
      subst (λ (l : Ledger). IsCore honest state opening (record { desk = desk; ledger = l }) plain) (sym ledger_is)
      (core_still honest state opening core plain is (record { desk = desk; ledger = with_open who (editing image t) core.ledger }) plain refl refl
      (ledger_with (now opening).base core.ledger is.ledger who t (editing image t) there
      (whole_edit image t.edits whole (subst (AllByRecursion Whole) (ap edits_of there) (is.ledger.whole who.session))) (subst WorksFit ledger_is fits))
      is_desk is.fits refl (holds_edited core.desk.pool desk.pool core.ledger.works.slots who.session t image is.edits there more)
      (ap (λ (r : RunningDesk D). r.stop) rest) (ap (λ (r : RunningDesk D). r.base) rest) is.doubt)

  -- an edit that failed leaves the core as it was, but for what memory has of pages
  pub core_unedited : (between desk : RunningDesk D) (ledger : Ledger) (who : Who) (t : Transaction) (page : ℕ) → work_at core.ledger.works.slots who.session ≡ Some (Open t)
      → edit_refused core.ledger.book.lines core.ledger.works.slots t page ≡ None → SameButPages core.desk desk → IsDesk honest state desk plain
      → ((other : ℕ) → held between.pool other ≡ (held core.desk.pool other || eqb other page))
      → ((other : ℕ) → held desk.pool other ≡ cond (eqb other page && not (is_among page (pages_of t.edits))) false (held between.pool other))
      → ledger ≡ core.ledger → IsCore honest state opening (record { desk = desk; ledger = ledger }) plain
  core_unedited between desk ledger who t page there allowed rest is_desk more less same =
      subst (λ (l : Ledger). IsCore honest state opening (record { desk = desk; ledger = l }) plain) (sym same)
      (core_read honest state opening core plain is desk rest is_desk (held_again honest state opening core plain is who t page between.pool desk.pool there allowed more less))

pub trans_rest : {D : Type 0} (a b c : RunningDesk D) → SameButPages a b → SameButPages b c → SameButPages a c
trans_rest {D = D} a b c first second = second ∙ ap (λ (r : RunningDesk D). let x : RunningDesk D = record r { pool = c.pool } in x) first

-- what an edit of a page that is held gives
pub edit_answered : (who : Who) (t next : Transaction) (refused : Option Refusal) (old new : Ledger) (result : Result (Unit {0}) Refusal) → refused ≡ None → work_at old.works.slots who.session ≡ Some (Open t)
    → OnOk result (new ≡ with_open who next old) → IfErr result (λ why. (why ≡ OutOfMemory) × (new ≡ old)) → HasAnswered who t next refused old new result
edit_answered who t next refused old new (Ok x) none there done memory = record { allowed = (none, done); kept = tt }
edit_answered who t next refused old new (Err why) none there done memory = record {
  allowed = tt;
  kept = memory.1 ∙ still_open who old t there ∙ ap (λ (w : Refusal). with_open who (kept_behind w t) old) (sym memory.0);
}

pub edit_core : {D : Type 0} (honest : D → Type 0) (state : D → State) (opening : History) (core : Core D) (plain : Desk) → IsCore honest state opening core plain
    → (between desk : RunningDesk D) (ledger : Ledger) (who : Who) (t : Transaction) (image : PageImage) (result : Result (Unit {0}) Refusal) → work_at core.ledger.works.slots who.session ≡ Some (Open t)
    → edit_refused core.ledger.book.lines core.ledger.works.slots t image.page ≡ None → length image.bytes ≡ PAGE_BYTES → SameButPages core.desk between → SameButPages between desk → IsDesk honest state desk plain
    → ((other : ℕ) → held between.pool other ≡ (held core.desk.pool other || eqb other image.page)) → WorksFit ledger
    → OnOk result (ledger ≡ with_open who (editing image t) core.ledger) → OnOk result (desk ≡ between) → IfErr result (λ why. (why ≡ OutOfMemory) × (ledger ≡ core.ledger))
    → OnErr result ((other : ℕ) → held desk.pool other ≡ cond (eqb other image.page && not (is_among image.page (pages_of t.edits))) false (held between.pool other))
    → IsCore honest state opening (record { desk = desk; ledger = ledger }) plain
edit_core {D = D} honest state opening core plain is between desk ledger who t image (Ok x) there allowed whole rest later is_desk more fits done kept memory less =
    core_edited honest state opening core plain is desk ledger who t image there whole (trans_rest core.desk between desk rest later) is_desk
    (λ other. ap (λ (r : RunningDesk D). held r.pool other) kept ∙ more other) done fits
edit_core honest state opening core plain is between desk ledger who t image (Err why) there allowed whole rest later is_desk more fits done kept memory less =
    core_unedited honest state opening core plain is between desk ledger who t image.page there allowed (trans_rest core.desk between desk rest later) is_desk more less memory.1

pub some_copied : {X : Type 0} (o : Option (Bor X)) → is_some o ≡ is_some (option_copied o)
some_copied None = refl
some_copied (Some x) = refl

pub swapped : (a b : ℕ) → eqb a b ≡ eqb b a
swapped a b = at (eqb a b) refl where
  at : (test : Bool) → eqb a b ≡ test → eqb a b ≡ eqb b a
  at true e = e ∙ sym (eq-eqb b a (sym (eqb-true a b e)))
  at false e = e ∙ sym (none (eqb b a) refl) where
    none : (other : Bool) → eqb b a ≡ other → eqb b a ≡ false
    none true f = absurd (eqb-false a b e (sym (eqb-true b a f)))
    none false f = f

-- the page of an edit that failed was released
pub released_one : (held_before among : Bool) (page other : ℕ) → among ≡ false → held_before && not (eqb page other) ≡ cond (eqb other page && not among) false held_before
released_one b among page other none =
    ap (λ (x : Bool). b && not x) (swapped page other) ∙ at (eqb other page) ∙ sym (ap (λ (x : Bool). cond (eqb other page && not x) false b) none) where
      at : (test : Bool) → b && not test ≡ cond (test && true) false b
      at true = no_more b where
        no_more : (x : Bool) → x && false ≡ false
        no_more true = refl
        no_more false = refl
      at false = as_it_is b where
        as_it_is : (x : Bool) → x && true ≡ x
        as_it_is true = refl
        as_it_is false = refl

pub edit_cause : (D : Type 0) (result : Result (Unit {0}) Refusal) (device : Device) (before between now : ℕ) → between ≡ before → now ≡ between → IfErr result (λ why. (why ≡ OutOfMemory) × D) → MatchResult result (λ _. now ≡ before) (IsMemoryOrFault device before now)
edit_cause D (Ok x) device before between now first later memory = later ∙ first
edit_cause D (Err why) device before between now first later memory = subst (IsMemoryOrFault device before now) (sym memory.0) (later ∙ first)
