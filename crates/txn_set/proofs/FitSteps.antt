-- The works fit the journal behind each step of a ledger.
use Rattle.std.proofs.Common.{◌≡◌, ◌∙◌, ◌<◌, ◌≤◌, ◌+◌, ◌-◌, ◌&&◌, ◌||◌, not, ℕ, zero, suc, Bool, true, false, cond, eqb, ltb, leb, List, [], ◌∷◌, ◌++◌, drop, length, Option, Some, None, Result, Ok, Err, refl, sym, ap, subst, arith, length-append}
use Rattle.std.specs.Prelude.{IsSome, OnOk, OnErr, is_err, is_some, option_map}
use Rattle.std.specs.BTreeSet.{insert_key}
use Rattle.std.specs.List.{AllByRecursion}
use Rattle.std.specs.Option.{option_or}
use Rattle.std.specs.Ordering.{nat_cmp, match_ordering}
use Rattle.std.specs.declared.cmp.Ordering.{Ordering}
use Rattle.std.specs.declared.cmp.Ordering.TheVariants.{Less, Equal, Greater}
use Rattle.std.proofs.lemmas.Bool.{eqb-true, eqb-false, eq-eqb, leb-true, leb-false, ltb-true, ltb-false}
use Rattle.std.proofs.lemmas.Bool.Decides.{nat_tests}
use Rattle.retro_base.specs.declared.limits.TheConstants.{EDITED_PAGES}
use Rattle.retro_base.specs.declared.refusal.Refusal.{Refusal}
use Rattle.retro_base.specs.declared.refusal.Refusal.TheVariants as refusals
use Rattle.retro_base.specs.declared.refusal.Refusal.TheVariants.{OutOfMemory, DiskFault, SourceFault, SinkFault, NotAStore, BadWords, BadScript, Overlap, NoSuchSnapshot, Pinned, ArchiveFull, JournalFull, PagesFull, TooManyPages, Stopped, NoRoom, SnapshotsFull, Syntax, UnknownName, NameTaken, WrongType, Overflow, RowTooLong, NotOneValue, BadSizes}
use Rattle.retro_base.specs.declared.who.Who.{Who}
use Rattle.history.specs.declared.journal.Line.{Line}
use Rattle.history.specs.declared.journal.What.{What}
use Rattle.history.specs.declared.journal.What.TheVariants.{Began, Done, Overlapped, RolledBack, Looked, LookedAll, Unlooked, Dropped, Refused, Fault}
use Rattle.history.specs.declared.writes.PageImage.{PageImage}
use Rattle.history.specs.LineLaws.{NoCommitOf, ends_look}
use Rattle.history.specs.Lines.{begins, changed_since, changes_page, open_in}
use Rattle.history.specs.Sound.{same_item}
use Rattle.history.specs.Writes.{pages_of, is_among, rises}
use Rattle.history.proofs.SoundLaws.{items_are}
use Rattle.journal_book.specs.declared.work.Look.{Look}
use Rattle.journal_book.specs.declared.work.Transaction.{Transaction}
use Rattle.journal_book.specs.declared.work.Work.{Work}
use Rattle.journal_book.specs.declared.work.Work.TheVariants.{Open, Looking, KeptDrop}
use Rattle.journal_book.specs.Book.{Book, writes_of}
use Rattle.journal_book.specs.Works.{Works, edits_of, edits_page, editing, keeping_refusal, latch_holder, reading, who_of, with_edit, with_work, work_at}
use Rattle.journal_book.proofs.EditLists.{edit_among, edit_length, edit_rises}
use Rattle.journal_book.proofs.Ends.{changes_by_writes}
use Rattle.journal_book.proofs.Slots.{work_at_with}
use Rattle.txn_set.specs.declared.ending.Ending.{Ending}
use Rattle.txn_set.specs.declared.ending.Ending.TheVariants as ending
use Rattle.txn_set.specs.declared.ledger.Ledger.{Ledger}
use Rattle.txn_set.specs.Ledger.{IsKeptDrop, closed, closing, committed, ended, fresh, given_up, gives_up, is_idle, is_kept, keeping_drop, keeps_other_drop, line_of, looking, opened, taken, with_open}
use Rattle.txn_set.specs.Refused.{edit_refused, overlap, too_many, where_so}
use Rattle.txn_set.specs.WorksFit.{Closes, WorksFit, WorkFits, TransactionFits, has_begun}
use Rattle.txn_set.proofs.Fits.{MayCome, changes_none, changes_with, fits_more, fits_with, kept_with, ledger_of, one, open_begun, open_ended}
use Rattle.txn_set.proofs.LedgerSteps.{ledger, only_own}

one_some : (slots : List (Option Work)) (session : ℕ) (w : Work) → work_at slots session ≡ Some w → one (work_at slots session) ≡ 1
one_some slots session w is = ap one is

no_work : (pages : ℕ) (lines : List Line) (slots : List (Option Work)) (session : ℕ) → MayCome pages lines slots session None
no_work pages lines slots session = record { own = λ w e. absurd cc; fits = λ w e. absurd cc; alone = λ page other e f. absurd cc }

-- a drop's line is given up
pub fits_gives_up : (l : Ledger) (session : ℕ) → WorksFit l → IsKeptDrop (work_at l.works.slots session) → WorksFit (gives_up session l)
fits_gives_up l session fits is = go (work_at l.works.slots session) refl is where
  go : (work : Option Work) → work_at l.works.slots session ≡ work → IsKeptDrop work → WorksFit (gives_up session l)
  go (Some (KeptDrop other)) e i =
      fits_with l fits session None (with_work l.works.slots session None) (changes_with l.works.slots session None) (l.book.kept - 1) (no_work l.book.pages l.book.lines l.works.slots session)
      (omega (arith, kept_with l.works.slots session None, one_some l.works.slots session (KeptDrop other) e, fits.kept))
      (λ who own. ap (has_begun who) (sym e))
  go (Some (Open t)) e i = absurd i
  go (Some (Looking look)) e i = absurd i
  go None e i = absurd i

other_is_drop : (who : Who) (work : Option Work) → keeps_other_drop who work ≡ true → IsKeptDrop work
other_is_drop who (Some (KeptDrop other)) e = tt
other_is_drop who (Some (Open t)) e = absurd cc
other_is_drop who (Some (Looking look)) e = absurd cc
other_is_drop who None e = absurd cc

pub fits_given_up : (l : Ledger) (who : Who) → WorksFit l → WorksFit (given_up who l)
fits_given_up l who fits = go (keeps_other_drop who (work_at l.works.slots who.session)) refl where
  go : (b : Bool) → keeps_other_drop who (work_at l.works.slots who.session) ≡ b → WorksFit (cond b (gives_up who.session l) l)
  go true e = fits_gives_up l who.session fits (other_is_drop who (work_at l.works.slots who.session) e)
  go false e = fits

-- behind what it gives up an idle session has nothing
pub idle_none : (l : Ledger) (who : Who) → is_idle who (work_at l.works.slots who.session) ≡ true → work_at (given_up who l).works.slots who.session ≡ None
idle_none l who idle = go (work_at l.works.slots who.session) refl idle where
  cleared : work_at (with_work l.works.slots who.session None) who.session ≡ None
  cleared = work_at_with l.works.slots who.session who.session None ∙ ap (λ (b : Bool). cond b None (work_at l.works.slots who.session)) (eq-eqb who.session who.session refl)

  pick : (b : Bool) → (b ≡ false → work_at l.works.slots who.session ≡ None) → work_at (cond b (gives_up who.session l) l).works.slots who.session ≡ None
  pick true none = cleared
  pick false none = none refl

  go : (work : Option Work) → work_at l.works.slots who.session ≡ work → is_idle who work ≡ true → work_at (given_up who l).works.slots who.session ≡ None
  go None e i = pick (keeps_other_drop who (work_at l.works.slots who.session)) (λ f. e)
  go (Some (KeptDrop other)) e i = pick (keeps_other_drop who (work_at l.works.slots who.session)) (λ f. absurd (cc (i, sym f ∙ ap (keeps_other_drop who) e)))
  go (Some (Open t)) e i = absurd cc
  go (Some (Looking look)) e i = absurd cc

quiet_line : (page : ℕ) (what : What) → writes_of what ≡ [] → changes_page page what ≡ false
quiet_line page what none = changes_by_writes page what ∙ ap (λ (l : List PageImage). is_among page (pages_of l)) none

-- something is opened
pub fits_opened : (l : Ledger) (who : Who) (what : What) (work : Work) → WorksFit l → work_at l.works.slots who.session ≡ None → begins what ≡ true → writes_of what ≡ [] → who_of work ≡ who → edits_of (Some work) ≡ []
    → WorkFits l.book.pages (l.book.lines ++ line_of who what ∷ []) work → ((other : Who) → has_begun other (Some work) ≡ same_item who other) → WorksFit (opened who what work l)
fits_opened l who what work fits none b quiet own edits here begun =
    fits_more l fits who.session (Some work) (with_work l.works.slots who.session (Some work)) (changes_with l.works.slots who.session (Some work)) (line_of who what) (l.book.kept + 1) l.book.workers refl
    (record {
      own = λ w e. ap (λ (v : Work). (who_of v).session) (one_work w work e) ∙ ap (λ (v : Who). v.session) own;
      fits = λ w e. subst (WorkFits l.book.pages (l.book.lines ++ line_of who what ∷ [])) (sym (one_work w work e)) here;
      alone = λ page other e f. absurd (cc (ap (λ (x : List PageImage). is_among page (pages_of x)) edits, e));
    })
    (omega (arith, kept_with l.works.slots who.session (Some work), ap one none, fits.kept))
    (λ page other edits apart. quiet_line page what quiet)
    (λ other same. open_begun (open_in l.book.lines) (line_of who what) other b
    (fits.open_items other ∙ ap (λ (n : ℕ). has_begun other (work_at l.works.slots n)) same ∙ ap (has_begun other) none) ∙ sym (begun other))
  where
    one_work : (a b : Work) → Some b ≡ Some a → a ≡ b
    one_work a b e = cc

nothing_since : (who : Who) (page : ℕ) (lines : List Line) (line : Line) → changes_page page line.what ≡ false → changed_since who page (length lines) (lines ++ line ∷ []) ≡ None
nothing_since who page [] line quiet = ap (λ (b : Bool). option_or None (cond (b && not (same_item line.who who)) (Some line.who) None)) quiet
nothing_since who page (first ∷ lines) line quiet = nothing_since who page lines line quiet

own_since : (who : Who) (lines : List Line) (line : Line) → ((label : Option (List ℕ)) (writes : List PageImage) → line.what ≡ Done label writes → ⊥) → NoCommitOf who (drop (length lines) (lines ++ line ∷ []))
own_since who [] line no_commit = ((λ label writes own is. no_commit label writes is), tt)
own_since who (first ∷ lines) line no_commit = own_since who lines line no_commit

pub fresh_fits : (pages : ℕ) (lines : List Line) (who : Who) → WorkFits pages (lines ++ line_of who Began ∷ []) (fresh who lines)
fresh_fits pages lines who = record {
  is_open = record { begun = omega (arith, length-append lines (line_of who Began ∷ [])); own = own_since who lines (line_of who Began) (λ label writes is. absurd cc) };
  few = omega arith;
  edits_rise = refl;
  edits_inside = tt;
  unchanged = λ page edits. absurd cc;
  reads_inside = tt;
  may_keep = tt;
}

pub looking_fits : (pages : ℕ) (lines : List Line) (who : Who) (what : What) (pins : List ℕ) → rises 0 pins ≡ true → WorkFits pages (lines ++ line_of who what ∷ []) (looking who lines pins)
looking_fits pages lines who what pins up = record { begun = omega (arith, length-append lines (line_of who what ∷ [])); pins_rise = up }

-- what the session has is closed
pub fits_closed : (l : Ledger) (who : Who) (what : What) (work : Work) → WorksFit l → work_at l.works.slots who.session ≡ Some work → begins what ≡ false → writes_of what ≡ []
    → ((other : Who) → has_begun other (Some work) ≡ true → who ≡ other) → WorksFit (closed who what l)
fits_closed l who what work fits is b quiet own =
    fits_more l fits who.session None (with_work l.works.slots who.session None) (changes_with l.works.slots who.session None) (line_of who what) (l.book.kept - 1) l.book.workers refl
    (no_work l.book.pages (l.book.lines ++ line_of who what ∷ []) l.works.slots who.session)
    (omega (arith, kept_with l.works.slots who.session None, one_some l.works.slots who.session work is, fits.kept))
    (λ page other edits apart. quiet_line page what quiet)
    (λ other same. open_ended (open_in l.book.lines) (line_of who what) other b
    (λ open_there. own other (sym (ap (has_begun other) is) ∙ sym (ap (λ (n : ℕ). has_begun other (work_at l.works.slots n)) same) ∙ sym (fits.open_items other) ∙ open_there)))

-- a commit closes its transaction
pub fits_committed : (l : Ledger) (t : Transaction) (label : Option (List ℕ)) → WorksFit l → work_at l.works.slots t.who.session ≡ Some (Open t) → WorksFit (committed t.who label t.edits (taken t.who l))
fits_committed l t label fits is =
    fits_more l fits t.who.session None (with_work l.works.slots t.who.session None) (changes_with l.works.slots t.who.session None) (line_of t.who (Done label t.edits)) (l.book.kept - 1) l.book.workers refl
    (no_work l.book.pages (l.book.lines ++ line_of t.who (Done label t.edits) ∷ []) l.works.slots t.who.session)
    (omega (arith, kept_with l.works.slots t.who.session None, one_some l.works.slots t.who.session (Open t) is, fits.kept))
    (λ page other edits apart. quiet page other edits apart (is_among page (pages_of t.edits)) refl)
    (λ other same. open_ended (open_in l.book.lines) (line_of t.who (Done label t.edits)) other refl
    (λ open_there. items_are t.who other (sym (ap (has_begun other) is) ∙ sym (ap (λ (n : ℕ). has_begun other (work_at l.works.slots n)) same) ∙ sym (fits.open_items other) ∙ open_there)))
  where
    quiet : (page other : ℕ) → edits_page page (work_at l.works.slots other) ≡ true → (other ≡ t.who.session → ⊥) → (b : Bool) → is_among page (pages_of t.edits) ≡ b → is_among page (pages_of t.edits) ≡ false
    quiet page other edits apart true e = absurd (apart (fits.apart page other t.who.session edits (ap (edits_page page) is ∙ e)))
    quiet page other edits apart false e = e

-- a line that neither opens nor closes
pub fits_lone : (l : Ledger) (who : Who) (what : What) (workers : ℕ) → WorksFit l → work_at l.works.slots who.session ≡ None → begins what ≡ false → writes_of what ≡ []
    → WorksFit (ledger_of l.book.pages (l.book.lines ++ line_of who what ∷ []) l.book.kept workers l.works.pages l.works.slots)
fits_lone l who what workers fits none b quiet =
    fits_more l fits who.session (work_at l.works.slots who.session) l.works.slots (changes_none l.works.slots who.session) (line_of who what) l.book.kept workers refl
    (record { own = λ w e. absurd (cc (none, e)); fits = λ w e. absurd (cc (none, e)); alone = λ page other e f. absurd (cc (ap (edits_page page) none, e)) })
    fits.kept
    (λ page other edits apart. quiet_line page what quiet)
    (λ other same. open_ended (open_in l.book.lines) (line_of who what) other b
    (λ open_there. absurd (cc (open_there, fits.open_items other ∙ ap (λ (n : ℕ). has_begun other (work_at l.works.slots n)) same ∙ ap (has_begun other) none)))
    ∙ sym (ap (has_begun other) none))

-- the line of a drop is kept
pub fits_keeping_drop : (l : Ledger) (who : Who) → WorksFit l → work_at l.works.slots who.session ≡ None → WorksFit (keeping_drop who l)
fits_keeping_drop l who fits none =
    fits_with l fits who.session (Some (KeptDrop who)) (with_work l.works.slots who.session (Some (KeptDrop who))) (changes_with l.works.slots who.session (Some (KeptDrop who))) (l.book.kept + 1)
    (record { own = λ w e. own w e; fits = λ w e. subst (WorkFits l.book.pages l.book.lines) (one_work (KeptDrop who) w e) tt; alone = λ page other e f. absurd cc })
    (omega (arith, kept_with l.works.slots who.session (Some (KeptDrop who)), ap one none, fits.kept))
    (λ other same. sym (ap (has_begun other) none))
  where
    one_work : (a b : Work) → Some a ≡ Some b → a ≡ b
    one_work a b e = cc

    own : (w : Work) → Some (KeptDrop who) ≡ Some w → (who_of w).session ≡ who.session
    own w e = ap (λ (v : Work). (who_of v).session) (sym (one_work (KeptDrop who) w e))

-- the session's transaction changes
pub fits_changed : (l : Ledger) (who : Who) (t new : Transaction) → WorksFit l → work_at l.works.slots who.session ≡ Some (Open t) → new.who ≡ t.who → TransactionFits l.book.pages l.book.lines new
    → ((page other : ℕ) → is_among page (pages_of new.edits) ≡ true → edits_page page (work_at l.works.slots other) ≡ true → other ≡ who.session) → WorksFit (with_open who new l)
fits_changed l who t new fits is same here alone =
    fits_with l fits who.session (Some (Open new)) (with_work l.works.slots who.session (Some (Open new))) (changes_with l.works.slots who.session (Some (Open new))) l.book.kept
    (record { own = λ w e. own w e; fits = λ w e. subst (WorkFits l.book.pages l.book.lines) (one_work (Open new) w e) here; alone = alone })
    (omega (arith, kept_with l.works.slots who.session (Some (Open new)), one_some l.works.slots who.session (Open t) is, fits.kept))
    (λ other own. ap (λ (w : Who). same_item w other) same ∙ sym (ap (has_begun other) is))
  where
    one_work : (a b : Work) → Some a ≡ Some b → a ≡ b
    one_work a b e = cc

    own : (w : Work) → Some (Open new) ≡ Some w → (who_of w).session ≡ who.session
    own w e = ap (λ (v : Work). (who_of v).session) (sym (one_work (Open new) w e)) ∙ ap (λ (v : Who). v.session) same ∙ fits.sessions who.session (Open t) is

-- ---- what single calls need

pub by_result : {T E : Type 0} {X : Type 0} (r : Result T E) (P : X → Type 0) (x a b : X) → OnOk r (x ≡ a) → OnErr r (x ≡ b) → P a → P b → P x
by_result (Ok v) P x a b done stays here there = subst P (sym done) here
by_result (Err e) P x a b done stays here there = subst P (sym stays) there

insert_inside : (count page : ℕ) (keys : List ℕ) → page < count → AllByRecursion (λ p. p < count) keys → AllByRecursion (λ p. p < count) (insert_key nat_cmp keys page)
insert_inside count page [] lt all = (lt, tt)
insert_inside count page (key ∷ keys) lt all = go (nat_cmp page key) (insert_inside count page keys lt all.1) where
  go : (o : Ordering) → AllByRecursion (λ p. p < count) (insert_key nat_cmp keys page) → AllByRecursion (λ p. p < count) (match_ordering o (page ∷ key ∷ keys) (key ∷ keys) (key ∷ insert_key nat_cmp keys page))
  go Less again = (lt, all)
  go Equal again = all
  go Greater again = (all.0, again)

own_edits : (l : Ledger) (who : Who) (t : Transaction) → WorksFit l → work_at l.works.slots who.session ≡ Some (Open t) → (page other : ℕ) → is_among page (pages_of t.edits) ≡ true
    → edits_page page (work_at l.works.slots other) ≡ true → other ≡ who.session
own_edits l who t fits is page other edits there = fits.apart page other who.session there (ap (edits_page page) is ∙ edits)

pub fits_reading : (l : Ledger) (who : Who) (t : Transaction) (page : ℕ) → WorksFit l → work_at l.works.slots who.session ≡ Some (Open t) → page < l.book.pages → WorksFit (with_open who (reading page t) l)
fits_reading l who t page fits is lt =
    let old : TransactionFits l.book.pages l.book.lines t = fits.each who.session (Open t) is in
    fits_changed l who t (reading page t) fits is refl (record {
      is_open = record { begun = old.is_open.begun; own = old.is_open.own };
      few = old.few;
      edits_rise = old.edits_rise;
      edits_inside = old.edits_inside;
      unchanged = old.unchanged;
      reads_inside = insert_inside l.book.pages page t.reads.keys lt old.reads_inside;
      may_keep = old.may_keep;
    }) (own_edits l who t fits is)

pub fits_keeping : (l : Ledger) (who : Who) (t : Transaction) (why : Refusal) → WorksFit l → work_at l.works.slots who.session ≡ Some (Open t) → is_kept why ≡ true → WorksFit (with_open who (keeping_refusal why t) l)
fits_keeping l who t why fits is keeps =
    let old : TransactionFits l.book.pages l.book.lines t = fits.each who.session (Open t) is in
    fits_changed l who t (keeping_refusal why t) fits is refl (record {
      is_open = record { begun = old.is_open.begun; own = old.is_open.own };
      few = old.few;
      edits_rise = old.edits_rise;
      edits_inside = old.edits_inside;
      unchanged = old.unchanged;
      reads_inside = old.reads_inside;
      may_keep = keeps;
    }) (own_edits l who t fits is)

below_all : (page least : ℕ) (images : List PageImage) → page < least → rises least (pages_of images) ≡ true → is_among page (pages_of images) ≡ false
below_all page least [] lt up = refl
below_all page least (image ∷ images) lt up = go (eqb image.page page) refl (below_all page (image.page + 1) images (omega (arith, lt, low)) parts.1) where
  both : (a b : Bool) → a && b ≡ true → (a ≡ true) × (b ≡ true)
  both true b e = (refl, e)
  both false b e = absurd cc

  parts : (leb least image.page ≡ true) × (rises (image.page + 1) (pages_of images) ≡ true)
  parts = both (leb least image.page) (rises (image.page + 1) (pages_of images)) up

  low : least ≤ image.page
  low = leb-true _ _ parts.0

  go : (b : Bool) → eqb image.page page ≡ b → is_among page (pages_of images) ≡ false → b || is_among page (pages_of images) ≡ false
  go true e again = absurd (omega (arith, lt, low, eqb-true image.page page e))
  go false e again = again

-- an edit of a page that is there leaves their number
same_length : (least : ℕ) (image : PageImage) (images : List PageImage) → rises least (pages_of images) ≡ true → is_among image.page (pages_of images) ≡ true → length (with_edit image images) ≡ length images
same_length least image [] up there = absurd cc
same_length least image (other ∷ images) up there =
    go (ltb other.page image.page) refl (eqb image.page other.page) refl (eqb other.page image.page) refl there (same_length (other.page + 1) image images parts.1) where
      both : (a b : Bool) → a && b ≡ true → (a ≡ true) × (b ≡ true)
      both true b e = (refl, e)
      both false b e = absurd cc

      parts : (leb least other.page ≡ true) × (rises (other.page + 1) (pages_of images) ≡ true)
      parts = both (leb least other.page) (rises (other.page + 1) (pages_of images)) up

      go : (b : Bool) → ltb other.page image.page ≡ b → (c : Bool) → eqb image.page other.page ≡ c → (d : Bool) → eqb other.page image.page ≡ d → d || is_among image.page (pages_of images) ≡ true
          → (is_among image.page (pages_of images) ≡ true → length (with_edit image images) ≡ length images)
          → length (cond b (other ∷ with_edit image images) (cond c (image ∷ images) (image ∷ other ∷ images))) ≡ suc (length images)
      go true e c f true g h again = absurd (omega (arith, ltb-true _ _ e, eqb-true _ _ g))
      go true e c f false g h again = ap (λ n. suc n) (again h)
      go false e true f d g h again = refl
      go false e false f true g h again = absurd (eqb-false _ _ f (sym (eqb-true _ _ g)))
      go false e false f false g h again = absurd (cc (h, below_all image.page (other.page + 1) images (omega (arith, ltb-false _ _ e)) parts.1))

few_edits : (t : Transaction) (image : PageImage) → too_many t image.page ≡ None → length t.edits ≤ EDITED_PAGES → rises 0 (pages_of t.edits) ≡ true → length (with_edit image t.edits) ≤ EDITED_PAGES
few_edits t image none few up = go (leb EDITED_PAGES (length t.edits)) refl (is_among image.page (pages_of t.edits)) refl none where
  go : (b : Bool) → leb EDITED_PAGES (length t.edits) ≡ b → (c : Bool) → is_among image.page (pages_of t.edits) ≡ c → where_so (b && not c) (TooManyPages (EDITED_PAGES + 1)) ≡ None → length (with_edit image t.edits) ≤ EDITED_PAGES
  go b e true f n = omega (arith, same_length 0 image t.edits up f, few)
  go true e false f n = absurd cc
  go false e false f n = omega (arith, leb-false _ _ e, edit_length image t.edits)

none_first : {X : Type 0} (a b : Option X) → option_or a b ≡ None → a ≡ None
none_first None b e = refl
none_first (Some x) b e = absurd cc

none_next : {X : Type 0} (a b : Option X) → option_or a b ≡ None → b ≡ None
none_next None b e = e
none_next (Some x) b e = absurd cc

none_mapped : (o : Option Who) → option_map overlap o ≡ None → o ≡ None
none_mapped None e = refl
none_mapped (Some who) e = absurd cc

latch_free : (l : Ledger) (t : Transaction) (page : ℕ) → edit_refused l.book.lines l.works.slots t page ≡ None → latch_holder t.who page l.works.slots ≡ None
latch_free l t page allowed = none_mapped _ (none_first (option_map overlap (latch_holder t.who page l.works.slots)) _ (none_next t.kept _ allowed))

-- no other session edits a page whose edit is not refused
pub edit_alone : (l : Ledger) (who : Who) (t : Transaction) (page other : ℕ) → WorksFit l → work_at l.works.slots who.session ≡ Some (Open t) → edit_refused l.book.lines l.works.slots t page ≡ None
    → edits_page page (work_at l.works.slots other) ≡ true → other ≡ who.session
edit_alone l who t page other fits is allowed there = only_own l t.who page other fits (latch_free l t page allowed) there ∙ fits.sessions who.session (Open t) is

pub fits_editing : (l : Ledger) (who : Who) (t : Transaction) (image : PageImage) → WorksFit l → work_at l.works.slots who.session ≡ Some (Open t) → image.page < l.book.pages
    → edit_refused l.book.lines l.works.slots t image.page ≡ None → WorksFit (with_open who (editing image t) l)
fits_editing l who t image fits is lt allowed =
    fits_changed l who t (editing image t) fits is refl (record {
      is_open = record { begun = old.is_open.begun; own = old.is_open.own };
      few = few_edits t image many old.few old.edits_rise;
      edits_rise = edit_rises 0 image t.edits old.edits_rise (omega arith);
      edits_inside = inside t.edits old.edits_inside;
      unchanged = λ page edits. unchanged page (eqb image.page page) refl (sym (edit_among page image t.edits) ∙ edits);
      reads_inside = old.reads_inside;
      may_keep = old.may_keep;
    }) (λ page other edits there. alone page other there (eqb image.page page) refl (sym (edit_among page image t.edits) ∙ edits))
  where
    old : TransactionFits l.book.pages l.book.lines t
    old = fits.each who.session (Open t) is

    last : option_or (option_map overlap (changed_since t.who image.page t.began l.book.lines)) (too_many t image.page) ≡ None
    last = none_next (option_map overlap (latch_holder t.who image.page l.works.slots)) _ (none_next t.kept _ allowed)

    many : too_many t image.page ≡ None
    many = none_next (option_map overlap (changed_since t.who image.page t.began l.book.lines)) _ last

    same : changed_since t.who image.page t.began l.book.lines ≡ None
    same = none_mapped _ (none_first (option_map overlap (changed_since t.who image.page t.began l.book.lines)) _ last)

    inside : (images : List PageImage) → AllByRecursion (λ edit. edit.page < l.book.pages) images → AllByRecursion (λ edit. edit.page < l.book.pages) (with_edit image images)
    inside [] all = (lt, tt)
    inside (other ∷ images) all = put (ltb other.page image.page) (eqb image.page other.page) (inside images all.1) where
      put : (b c : Bool) → AllByRecursion (λ edit. edit.page < l.book.pages) (with_edit image images)
          → AllByRecursion (λ edit. edit.page < l.book.pages) (cond b (other ∷ with_edit image images) (cond c (image ∷ images) (image ∷ other ∷ images)))
      put true c again = (all.0, again)
      put false true again = (lt, all.1)
      put false false again = (lt, all)

    unchanged : (page : ℕ) → (b : Bool) → eqb image.page page ≡ b → b || is_among page (pages_of t.edits) ≡ true → changed_since t.who page t.began l.book.lines ≡ None
    unchanged page true e edits = subst (λ (p : ℕ). changed_since t.who p t.began l.book.lines ≡ None) (eqb-true image.page page e) same
    unchanged page false e edits = old.unchanged page edits

    alone : (page other : ℕ) → edits_page page (work_at l.works.slots other) ≡ true → (b : Bool) → eqb image.page page ≡ b → b || is_among page (pages_of t.edits) ≡ true → other ≡ who.session
    alone page other there true e edits = edit_alone l who t image.page other fits is allowed (subst (λ (p : ℕ). edits_page p (work_at l.works.slots other) ≡ true) (sym (eqb-true image.page page e)) there)
    alone page other there false e edits = own_edits l who t fits is page other edits there

abbrev open_of : Who → ℕ → List PageImage → List ℕ → Option Refusal → Work
open_of who began edits keys kept = Open (record { who = who; began = began; edits = edits; reads = record { keys = keys }; kept = kept })

pub fits_begun : (l : Ledger) (who : Who) (t : Transaction) → WorksFit l → work_at l.works.slots who.session ≡ None → t.who ≡ who → t.began ≡ length l.book.lines → t.edits ≡ [] → t.reads.keys ≡ [] → t.kept ≡ None
    → WorksFit (opened who Began (Open t) l)
fits_begun l who t fits none own began edits reads kept =
    subst (λ (w : Work). WorksFit (opened who Began w l)) (sym (is t own began edits reads kept)) (fits_opened l who Began (fresh who l.book.lines) fits none refl refl refl refl (fresh_fits l.book.pages l.book.lines who) (λ other. refl)) where
      is : (t : Transaction) → t.who ≡ who → t.began ≡ length l.book.lines → t.edits ≡ [] → t.reads.keys ≡ [] → t.kept ≡ None → Open t ≡ fresh who l.book.lines
      is t a b c d e =
          ap (λ (w : Who). open_of w t.began t.edits t.reads.keys t.kept) a ∙ ap (λ (n : ℕ). open_of who n t.edits t.reads.keys t.kept) b
          ∙ ap (λ (w : List PageImage). open_of who (length l.book.lines) w t.reads.keys t.kept) c ∙ ap (λ (k : List ℕ). open_of who (length l.book.lines) [] k t.kept) d
          ∙ ap (λ (k : Option Refusal). open_of who (length l.book.lines) [] [] k) e

pub fits_looked : (l : Ledger) (who : Who) (what : What) (look : Look) → WorksFit l → work_at l.works.slots who.session ≡ None → begins what ≡ true → writes_of what ≡ [] → look.who ≡ who → look.began ≡ length l.book.lines → rises 0 look.pins ≡ true
    → WorksFit (opened who what (Looking look) l)
fits_looked l who what look fits none b quiet own began up =
    fits_opened l who what (Looking look) fits none b quiet own refl
    (record { begun = omega (arith, began, length-append l.book.lines (line_of who what ∷ [])); pins_rise = up }) (λ other. ap (λ (w : Who). same_item w other) own)

ends_begins : (what : What) → ends_look what ≡ true → begins what ≡ false
ends_begins Unlooked e = refl
ends_begins (Refused why) e = refl
ends_begins (Fault device count call) e = refl
ends_begins Began e = absurd cc
ends_begins (Done label writes) e = absurd cc
ends_begins (Overlapped session item) e = absurd cc
ends_begins RolledBack e = absurd cc
ends_begins (Looked snapshot) e = absurd cc
ends_begins LookedAll e = absurd cc
ends_begins (Dropped below) e = absurd cc

-- a line that may close what the session has leaves the works fitting
pub fits_closing : (l : Ledger) (who : Who) (what : What) → WorksFit l → IsSome (work_at l.works.slots who.session) → writes_of what ≡ [] → Closes who what (work_at l.works.slots who.session) → WorksFit (closed who what l)
fits_closing l who what fits some quiet closes = go (work_at l.works.slots who.session) refl some closes where
  go : (work : Option Work) → work_at l.works.slots who.session ≡ work → IsSome work → Closes who what work → WorksFit (closed who what l)
  go None e s c = absurd cc
  go (Some (Open t)) e s c = fits_closed l who what (Open t) fits e c.0 quiet (λ other begun. sym c.1 ∙ items_are t.who other begun)
  go (Some (Looking look)) e s c = fits_closed l who what (Looking look) fits e (ends_begins what c.0) quiet (λ other begun. sym c.1 ∙ items_are look.who other begun)
  go (Some (KeptDrop drop)) e s c = fits_closed l who what (KeptDrop drop) fits e c quiet (λ other begun. absurd cc)

ending_begins : (why : Ending) → begins (ended why) ≡ false
ending_begins ending.Asked = refl
ending_begins (ending.Refused why) = refl
ending_begins (ending.Failed device count) = refl

kept_begins : (kept : Refusal) (why : Ending) → begins (closing (Some kept) why) ≡ false
kept_begins OutOfMemory why = refl
kept_begins (DiskFault device count) why = refl
kept_begins SourceFault why = refl
kept_begins SinkFault why = refl
kept_begins (NotAStore device place) why = refl
kept_begins BadWords why = refl
kept_begins (BadScript line) why = refl
kept_begins (Overlap session item) why = refl
kept_begins (NoSuchSnapshot asked newest) why = refl
kept_begins (refusals.Dropped asked oldest) why = refl
kept_begins (Pinned snapshot session) why = refl
kept_begins (ArchiveFull needed room) why = refl
kept_begins (JournalFull lines images) why = refl
kept_begins (PagesFull pages) why = refl
kept_begins (TooManyPages needed) why = refl
kept_begins (Stopped device count) why = refl
kept_begins (NoRoom needed free) why = refl
kept_begins (SnapshotsFull retained) why = refl
kept_begins (Syntax place) why = refl
kept_begins UnknownName why = refl
kept_begins NameTaken why = refl
kept_begins WrongType why = refl
kept_begins Overflow why = refl
kept_begins (RowTooLong bytes) why = refl
kept_begins (NotOneValue snapshot) why = refl
kept_begins BadSizes why = refl

closing_begins : (kept : Option Refusal) (why : Ending) → begins (closing kept why) ≡ false
closing_begins (Some kept) why = kept_begins kept why
closing_begins None ending.Asked = refl
closing_begins None (ending.Refused why) = refl
closing_begins None (ending.Failed device count) = refl

-- the lines of a rollback and of the end of a look may close what they end
pub closing_ends : (who : Who) (kept : Option Refusal) (why : Ending) (t : Transaction) (work : Option Work) → work ≡ Some (Open t) → t.who ≡ who → Closes who (closing kept why) work
closing_ends who kept why t work is own = subst (Closes who (closing kept why)) (sym is) (closing_begins kept why, own)

ended_ends : (why : Ending) → ends_look (ended why) ≡ true
ended_ends ending.Asked = refl
ended_ends (ending.Refused why) = refl
ended_ends (ending.Failed device count) = refl

pub ending_ends : (who : Who) (why : Ending) (look : Look) (work : Option Work) → work ≡ Some (Looking look) → look.who ≡ who → Closes who (ended why) work
ending_ends who why look work is own = subst (Closes who (ended why)) (sym is) (ended_ends why, own)

pub parts_fit : (book other : Book) (works more : Works) → book ≡ other → works ≡ more → WorksFit (ledger other more) → WorksFit (ledger book works)
parts_fit book other works more b w fits = subst (λ (x : Book). WorksFit (ledger x works)) (sym b) (subst (λ (x : Works). WorksFit (ledger other x)) (sym w) fits)

pub with_work_twice : (slots : List (Option Work)) (session : ℕ) (first second : Option Work) → with_work (with_work slots session first) session second ≡ with_work slots session second
with_work_twice [] zero first second = refl
with_work_twice [] (suc session) first second = ap (λ (x : List (Option Work)). None ∷ x) (with_work_twice [] session first second)
with_work_twice (slot ∷ slots) zero first second = refl
with_work_twice (slot ∷ slots) (suc session) first second = ap (λ (x : List (Option Work)). slot ∷ x) (with_work_twice slots session first second)

pub rises_one : (page : ℕ) → rises 0 (page ∷ []) ≡ true
rises_one page = grind (arith, nat_tests)

pub is_none : (work : Option Work) → is_some work ≡ false → work ≡ None
is_none None e = refl
is_none (Some work) e = absurd cc

pub ok_done : {T E X : Type 0} (r : Result T E) {x y : X} → is_err r ≡ false → OnOk r (x ≡ y) → x ≡ y
ok_done (Ok v) e done = done
ok_done (Err v) e done = absurd cc
