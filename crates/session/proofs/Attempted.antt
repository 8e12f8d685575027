-- How attempts at a transaction end, over the tables of SQL.
use Rattle.std.proofs.Common.{◌≡◌, ◌∙◌, ◌⊎◌, ◌+◌, ◌<◌, ◌++◌, ◌||◌, ◌==◌, ℕ, Bool, true, false, List, [], ◌∷◌, flat_map, length, Option, Some, None, Result, Ok, Err, refl, ap, sym, subst, inl, inr, append-nil, arith}
use Rattle.std.specs.Prelude.{IfErr}
use Rattle.std.specs.List.{AllByRecursion}
use Rattle.std.proofs.lemmas.Bool.{eq-eqb}
use Rattle.retro_base.specs.declared.refusal.Refusal.{Refusal}
use Rattle.retro_base.specs.declared.refusal.Refusal.TheVariants as refusal
use Rattle.retro_base.specs.declared.who.Who.{Who}
use Rattle.tables.specs.Tables.{Tables}
use Rattle.script.specs.declared.structure.End.{End as ScriptEnd}
use Rattle.script.specs.declared.structure.End.TheVariants as script_end
use Rattle.script.specs.declared.structure.Transaction.{Transaction as TransactionRecord}
use Rattle.sql_exec.specs.Stored.{IsStored}
use Rattle.history.specs.Lines.{base_of}
use Rattle.history.specs.Writes.{is_among, pages_of, rises}
use Rattle.history.specs.declared.entry.Change.TheVariants as change
use Rattle.history.specs.declared.journal.FailedCall.{FailedCall}
use Rattle.history.specs.declared.journal.FailedCall.TheVariants.{Append, Write}
use Rattle.history.specs.declared.journal.Line.{Line}
use Rattle.history.specs.declared.journal.What.{What}
use Rattle.history.specs.declared.journal.What.TheVariants as said
use Rattle.history.specs.declared.writes.PageImage.{PageImage}
use Rattle.journal_law.specs.Fates.{IsReply}
use Rattle.journal_law.specs.Language.{Commit, End, Language, Rollback}
use Rattle.journal_law.specs.Language as law
use Rattle.journal_law.specs.Lawful.{Ground, IsCommitRefused, IsLimit, IsOverlapBy, MeetsLimit}
use Rattle.journal_law.specs.LinesFit.{LeavesCommit}
use Rattle.journal_law.specs.Own.{SinceBegan}
use Rattle.pager.specs.Pages as pager
use Rattle.journal_law.specs.Pages.{Pages as Bytes}
use Rattle.journal_law.specs.Seating.{Makes}
use Rattle.journal_law.specs.Seats.{Adds, Agree, Attempt, CommitGives, CommitWaits, Idle, IsNew, Moves, Open, RollbackGives, View, at_began, is_open, keeps, number_of, place}
use Rattle.journal_law.specs.World.{World, newest}
use Rattle.journal_law.specs.declared.seat.Ending.TheVariants as ending
use Rattle.journal_law.proofs.Lasts.{since_stays}
use Rattle.seat_pager.specs.Laws.{unedited}
use Rattle.seat_pager.specs.Transaction.{HasReasons, IsKeptFor, is_asked, is_marked, under}
use Rattle.session.specs.Plan.{Item}
use Rattle.session.specs.Reach.{AtOne, LineReaches}
use Rattle.session.specs.Sql.{end_of, sql}
use Rattle.session.specs.Statements.{changes, replies}
use Rattle.session.specs.Wording.{committed_as, committed_text, outcome_text, refusal_text, rolled_back_text}
use Rattle.session.specs.Attempts.{Ended, EndsBy, IsLastEnd, IsTrying, OverlapsFit, ending_of, line_of}
use Rattle.session.specs.LinesRun.{IsStop}
use Rattle.session.specs.Transacting.{AttemptEnds, HasEnded, HasRun, HaveRun, IsRefused, IsText, Stands, ends_so, is_fault, item_for}
use Rattle.session.specs.declared.attempt.Tried.{Tried}
use Rattle.session.specs.declared.attempt.Tried.TheVariants as tried
use Rattle.session.proofs.Adding.{added_none, added_on, none_mine, trying_is}
use Rattle.session.proofs.AttemptClosing.{done_ends, failed_ends, refused_ends, rolled_ends}
use Rattle.session.proofs.Unmarked.{stored_there}

-- ---- pages that were edited, or asked to be

or_false : (b : Bool) → (b || false) ≡ b
or_false true = refl
or_false false = refl

marked_edited : (pages : Bytes) (asked : Option ℕ) (edits : List PageImage) (page : ℕ) → is_marked page asked edits ≡ true → (under (unedited pages) asked edits).edited page ≡ true
marked_edited pages asked edits page is = ap (λ (b : Bool). is_asked page asked || b) (or_false (is_among page (pages_of edits))) ∙ is

among_marked : (asked : Option ℕ) (edits : List PageImage) (page : ℕ) → is_among page (pages_of edits) ≡ true → is_marked page asked edits ≡ true
among_marked asked edits page is = by_test (is_asked page asked) (is_among page (pages_of edits)) is
  where
    by_test : (here there : Bool) → there ≡ true → (here || there) ≡ true
    by_test true there e = refl
    by_test false there e = e

all_among : (P : ℕ → Type 0) (pages : List ℕ) → ((page : ℕ) → is_among page pages ≡ true → P page) → AllByRecursion P pages
all_among P [] go = tt
all_among P (x ∷ xs) go = (go x here, all_among P xs (λ page is. go page (more page is)))
  where
    here : is_among x (x ∷ xs) ≡ true
    here = rw (eq-eqb x x refl) refl

    more : (page : ℕ) → is_among page xs ≡ true → is_among page (x ∷ xs) ≡ true
    more page is = by_test (x == page) (is_among page xs) is
      where
        by_test : (first rest : Bool) → rest ≡ true → (first || rest) ≡ true
        by_test true rest e = refl
        by_test false rest e = e

no : false ≡ true → ⊥
no e = cc

abbrev pub good : Unit {0} → Result (Unit {0}) Refusal
good u = Ok u

abbrev pub err : Refusal → Result (Unit {0}) Refusal
err why = Err why

-- ---- what is known of a refused commit

some_none : (k : Option Refusal) (why : Refusal) → k ≡ None → k ≡ Some why → ⊥
some_none k why none some = differ (sym none ∙ some)
  where
    differ : None ≡ Some why → ⊥
    differ e = cc

-- a fault of the commit has ended the attempt; behind any other refusal it is open
pub faulted : (why : Refusal) (label : Option (List ℕ)) (view mid : View) (a : Attempt) → is_fault why ≡ true → a.kept ≡ None → CommitGives label view mid a (Err why) → HasEnded view mid
faulted (refusal.DiskFault device count) label view mid a is none gives = elim gives [
  | inl kept ↦ absurd (some_none a.kept (refusal.DiskFault device count) none kept.0)
  | inr ended ↦ elim ended.0 [
    | inl adds ↦ record { idle = adds.work_is; session = adds.moves.session }
    | inr ends ↦ record { idle = ends.adds.work_is; session = ends.adds.moves.session }
  ]
]
faulted why label view mid a is none gives = cc

pub refused_open : (why : Refusal) (label : Option (List ℕ)) (view mid : View) (a : Attempt) → is_fault why ≡ false → CommitGives label view mid a (Err why) → (b : Attempt) × (mid.work ≡ Open b) × (mid.session ≡ view.session)
refused_open (refusal.DiskFault device count) label view mid a is gives = cc
refused_open (refusal.Overlap session item) label view mid a is gives = (record a { kept = Some (refusal.Overlap session item) }, gives.0.work_is, gives.0.moves.session)
refused_open (refusal.TooManyPages needed) label view mid a is gives = (a, gives.0.work_is, gives.0.moves.session)
refused_open (refusal.Stopped device count) label view mid a is gives = (a, gives.0.work_is, gives.0.moves.session)
refused_open (refusal.JournalFull lines images) label view mid a is gives = (a, gives.waits.work_is, gives.waits.moves.session)
refused_open (refusal.SnapshotsFull retained) label view mid a is gives = (a, gives.waits.work_is, gives.waits.moves.session)
refused_open (refusal.ArchiveFull needed room) label view mid a is gives = (a, gives.waits.work_is, gives.waits.moves.session)
refused_open why label view mid a is gives = (a, gives.0.work_is, gives.0.moves.session)

pub open_then : (why : Refusal) (label : Option (List ℕ)) (view mid : View) (a : Attempt) → CommitGives label view mid a (Err why) → is_fault why ≡ false → is_open mid.work ≡ true
open_then why label view mid a gives is = ap is_open (refused_open why label view mid a is gives).1

-- behind a refused commit nothing is open, where all but a fault is followed by a rollback
pub refused_ended : (why : Refusal) (label : Option (List ℕ)) (view mid new : View) (a : Attempt) → a.kept ≡ None → CommitGives label view mid a (Err why) → (is_fault why ≡ true → new ≡ mid)
    → (is_fault why ≡ false → (b : Attempt) → mid.work ≡ Open b → RollbackGives (ending_of why) mid new b) → HasEnded view new
refused_ended why label view mid new a none gives same rolled = by_test (is_fault why) refl
  where
    by_test : (fault : Bool) → is_fault why ≡ fault → HasEnded view new
    by_test true is = subst (HasEnded view) (sym (same is)) (faulted why label view mid a is none gives)
    by_test false is =
        let b = refused_open why label view mid a is gives in
        let gave = rolled is b.0 b.1 in
        record { idle = gave.work_is; session = gave.moves.session ∙ b.2 }

-- ---- which refusals are kept

keeps_itself : (view : View) (a : Attempt) (asked : Option ℕ) (why : Refusal) → IsKeptFor view a asked why → keeps why None ≡ Some why
keeps_itself view a asked (refusal.Overlap session item) is = refl
keeps_itself view a asked (refusal.DiskFault device count) is = refl
keeps_itself view a asked (refusal.TooManyPages needed) is = refl
keeps_itself view a asked why is = absurd is

stop_keeps : (why : Refusal) → IsStop why → keeps why None ≡ None
stop_keeps refusal.OutOfMemory is = refl
stop_keeps (refusal.NotAStore device place) is = refl
stop_keeps (refusal.PagesFull pages) is = refl
stop_keeps why is = absurd is

-- ---- the text of a commit

number_told : (label : Option (List ℕ)) (world : World Bytes) (number : Option ℕ) → number ≡ number_of label world → committed_as number ≡ committed_text (newest world + 1) label
number_told None world number is = ap committed_as is
number_told (Some label) world number is = ap committed_as is

module _ (size : ℕ) (items : Who → Option Item) (who : Who) (names : List (List ℕ)) (t : TransactionRecord) where
  abbrev it : Item
  it = item_for names t

  -- ---- what is told

  tried_so : (old new : View) (what : What) (text : List ℕ) (result : Tried) → Ended (sql size) items who it old new what text → IsLastEnd what → IsText text result → AttemptEnds size items who it old new result
  tried_so old new what text (tried.Ended told) ended last is = record {
    what = what;
    added = ended.added;
    idle = ended.idle;
    ends = last;
    told = subst (λ (x : List ℕ). IsReply (sql size) items new.opened.pages who it new.front x) (sym is) ended.told;
  }
  tried_so old new what text tried.Untold ended last is = record { what = what; added = ended.added; idle = ended.idle; ends = last; told = tt }
  tried_so old new what text (tried.Overlapped session number) ended last is = absurd is
  tried_so old new what text tried.NotBegun ended last is = absurd is

  refused_so : (old new : View) (why : Refusal) (result : Tried) → Ended (sql size) items who it old new (line_of why) (refusal_text names why) → IsRefused names why result → AttemptEnds size items who it old new result
  refused_so old new (refusal.Overlap session number) (tried.Overlapped other item) ended is = record {
    what = said.Overlapped session number;
    added = ended.added;
    idle = ended.idle;
    ends = rw (is.0, is.1) refl;
    told = rw (is.0, is.1) ended.told;
  }
  refused_so old new (refusal.Overlap session number) (tried.Ended text) ended is = absurd is
  refused_so old new (refusal.Overlap session number) tried.Untold ended is = absurd is
  refused_so old new (refusal.Overlap session number) tried.NotBegun ended is = absurd is
  refused_so old new why result ended is = tried_so old new (line_of why) (refusal_text names why) result ended tt is

  of_who : (w : Who) (old new : View) (what : What) (text : List ℕ) → w ≡ who → Ended (sql size) items w it old new what text → Ended (sql size) items who it old new what text
  of_who w old new what text is ended = subst (λ (x : Who). Ended (sql size) items x it old new what text) is ended

  -- ---- which limits were met

  -- in an attempt of the view only pages count as edited that one of the lines may edit
  abbrev Marks : View → Attempt → Option ℕ → Type 0
  Marks view a asked = (tables : Tables) → IsStored size (unedited (at_began view a)) tables → (page : ℕ) → (under (unedited (at_began view a)) asked a.edits).edited page ≡ true
      → (false ≡ true) ⊎ AtOne size (LineReaches size page) t.statements (unedited (at_began view a)) tables

  reached : (view : View) (a : Attempt) (asked : Option ℕ) → Marks view a asked → (pages : List ℕ) → ((page : ℕ) → is_among page pages ≡ true → is_marked page asked a.edits ≡ true)
      → AllByRecursion ((sql size).Reaches it (at_began view a)) pages
  reached view a asked marks pages are =
      all_among ((sql size).Reaches it (at_began view a)) pages
      (λ page among tables stored. elim (marks tables stored page (marked_edited (at_began view a) asked a.edits page (are page among))) [
        | inl none ↦ absurd (no none)
        | inr is ↦ is
      ])

  kept_ends : (view : View) (a : Attempt) (asked : Option ℕ) (end : End) (rest : List Line) → a.who ≡ who → SinceBegan who view.front a.since rest → Marks view a asked → (why : Refusal) → IsKeptFor view a asked why
      → EndsBy (sql size) items view.opened who a.since view.front it end why
  kept_ends view a asked end rest is_who at marks (refusal.Overlap session number) is = subst (λ (w : Who). IsOverlapBy w view.front session number) is_who is
  kept_ends view a asked end rest is_who at marks (refusal.DiskFault device count) is = is
  kept_ends view a asked end rest is_who at marks (refusal.TooManyPages needed) is = λ tables stored.
      (is.0, record { since = a.since; rest = rest; began = at; pages = is.1.pages; rise = is.1.rise; many = is.1.many; reached = reached view a asked marks is.1.pages is.1.marked })
  kept_ends view a asked end rest is_who at marks why is = absurd is

  lines_end : (view : View) (a : Attempt) (asked : Option ℕ) (text : List ℕ) (end : End) (rest : List Line) → view.opened.base.page_count ≡ size → SinceBegan who view.front a.since rest → (why : Refusal)
      → HaveRun size t.statements view a asked text (Err why) → IsStop why → EndsBy (sql size) items view.opened who a.since view.front it end why
  lines_end view a asked text end rest sized at refusal.OutOfMemory ran stop = λ tables stored. tt
  lines_end view a asked text end rest sized at (refusal.NotAStore device place) ran stop = λ tables stored. absurd (ran (at_began view a) tables (λ page among. refl) stored).is_why
  lines_end view a asked text end rest sized at (refusal.PagesFull pages) ran stop = λ tables stored. (
    (ran (at_began view a) tables (λ page among. refl) stored).is_why.0 ∙ sym sized,
    record { since = a.since; rest = rest; began = at; short = λ others held. (ran (at_began view a) others (λ page among. refl) held).is_why.1 },
  )
  lines_end view a asked text end rest sized at why ran stop = absurd stop

  marks_of : (view : View) (a : Attempt) (asked : Option ℕ) (text : List ℕ) (ran : Result (Unit {0}) Refusal) → HaveRun size t.statements view a asked text ran → Marks view a asked
  marks_of view a asked text (Ok u) have tables stored page is = (have (at_began view a) tables (λ p among. refl) stored).marks page is
  marks_of view a asked text (Err why) have tables stored page is = (have (at_began view a) tables (λ p among. refl) stored).marks page is

  -- ---- the end of an open attempt by a refusal

  -- what a rollback leaves
  rolls : (end : End) (view new : View) (a : Attempt) (rest : List Line) (why : Refusal) (result : Tried) → Stands size items who it view → OverlapsFit (sql size) items → end_of t.end ≡ end → a.who ≡ who
      → (since : List Line) → SinceBegan who view.front since rest → a.kept ≡ keeps why None → EndsBy (sql size) items view.opened who since view.front it end why
      → RollbackGives (ending_of why) view new a → IsRefused names why result → AttemptEnds size items who it view new result
  rolls end view new a rest why result stands overlaps is_end is_who since at kept ends gives told =
      refused_so view new why result
      (of_who a.who view new (line_of why) (refusal_text names why) is_who
      (refused_ends (sql size) items view a it end (ap (λ (w : Who). w.session) is_who ∙ stands.mine) (ap items is_who ∙ stands.is_item) (ap (λ (e : End). law.Transaction e) is_end) stands.fits overlaps new since rest why
      (subst (λ (w : Who). SinceBegan w view.front since rest) (sym is_who) at) kept
      (subst (λ (w : Who). EndsBy (sql size) items view.opened w since view.front it end why) (sym is_who) ends) gives))
      told

  some_is : (a b : Refusal) → err a ≡ err b → a ≡ b
  some_is a b e = cc

  pub cut_ends : (view new : View) (kept : Option Refusal) (asked : Option ℕ) (text : List ℕ) (ran : Result (Unit {0}) Refusal) (why : Refusal) (result : Tried) → Stands size items who it view → OverlapsFit (sql size) items
      → (trying : IsTrying who view) → HasReasons (record { view = view; kept = kept; asked = asked }) → HaveRun size t.statements view trying.attempt asked text ran → IfErr ran IsStop → ends_so ran kept ≡ Err why
      → ((a : Attempt) → view.work ≡ Open a → RollbackGives (ending_of why) view new a) → IsRefused names why result → AttemptEnds size items who it view new result
  cut_ends view new kept asked text ran why result stands overlaps trying reasons have stops so gives told = by_kept kept ran reasons have stops so
    where
      a : Attempt
      a = trying.attempt

      end_by : a.kept ≡ keeps why None → EndsBy (sql size) items view.opened who a.since view.front it (end_of t.end) why → AttemptEnds size items who it view new result
      end_by is ends = rolls (end_of t.end) view new a trying.rest why result stands overlaps refl trying.is_who a.since trying.began is ends (gives a trying.is_open) told

      by_kept : (kept : Option Refusal) (ran : Result (Unit {0}) Refusal) → HasReasons (record { view = view; kept = kept; asked = asked }) → HaveRun size t.statements view a asked text ran → IfErr ran IsStop → ends_so ran kept ≡ Err why
          → AttemptEnds size items who it view new result
      by_kept (Some k) ran reasons have stops so =
          let same : reasons.attempt ≡ a = trying_is who view trying reasons.attempt reasons.is_open in
          let is_why : k ≡ why = some_is k why so in
          let is_kept : a.kept ≡ Some why = ap (λ (x : Attempt). x.kept) (sym same) ∙ reasons.keeps ∙ ap (λ (r : Refusal). Some r) is_why in
          let known : IsKeptFor view a asked why = subst (λ (x : Attempt). IsKeptFor view x asked why) same (reasons.known why (reasons.keeps ∙ ap (λ (r : Refusal). Some r) is_why)) in
          end_by (is_kept ∙ sym (keeps_itself view a asked why known)) (kept_ends view a asked (end_of t.end) trying.rest trying.is_who trying.began (marks_of view a asked text ran have) why known)
      by_kept None (Ok u) reasons have stops so = absurd (differ so)
        where
          differ : good u ≡ err why → ⊥
          differ e = cc
      by_kept None (Err w) reasons have stops so =
          let same : reasons.attempt ≡ a = trying_is who view trying reasons.attempt reasons.is_open in
          let is_why : w ≡ why = some_is w why so in
          let none : a.kept ≡ None = ap (λ (x : Attempt). x.kept) (sym same) ∙ reasons.keeps in
          let have_so : HaveRun size t.statements view a asked text (Err why) = subst (λ (r : Refusal). HaveRun size t.statements view a asked text (Err r)) is_why have in
          let stop : IsStop why = subst IsStop is_why stops in
          end_by (none ∙ sym (stop_keeps why stop)) (lines_end view a asked text (end_of t.end) trying.rest stands.sized trying.began why have_so stop)

  -- ---- the end of an attempt whose lines have run

  module _ (view : View) (text : List ℕ) (h : HasRun size items who it t.statements view text) where
    abbrev pub tries : Attempt
    tries = h.trying.attempt

    same : h.reasons.attempt ≡ tries
    same = trying_is who view h.trying h.reasons.attempt h.reasons.is_open

    pub keeps_none : tries.kept ≡ None
    keeps_none = ap (λ (x : Attempt). x.kept) (sym same) ∙ h.reasons.keeps

    its_session : tries.who.session ≡ view.session
    its_session = ap (λ (w : Who). w.session) h.trying.is_who ∙ h.stands.mine

    its_item : items tries.who ≡ Some it
    its_item = ap items h.trying.is_who ∙ h.stands.is_item

    its_began : SinceBegan tries.who view.front tries.since h.trying.rest
    its_began = subst (λ (w : Who). SinceBegan w view.front tries.since h.trying.rest) (sym h.trying.is_who) h.trying.began

    replied : (pages : Bytes) → Agree tries.read pages (at_began view tries) → (tables : Tables) → IsStored size (unedited pages) tables → text ≡ flat_map outcome_text (replies t.statements tables)
    replied pages agree tables stored = sym (append-nil text) ∙ (h.ran pages tables agree stored).replied

    makes : Makes (sql size) items view tries it
    makes pages tables agree stored =
        let m = h.ran pages tables agree stored in
        subst (λ (behind : Tables). IsStored size (unedited ((under (unedited pages) h.asked tries.edits).at)) behind) m.leaves (stored_there size (under (unedited pages) h.asked tries.edits) (λ page. false) m.behind m.stored)

    pub commit_done : (new : View) (label : Option (List ℕ)) (number : Option ℕ) (result : Tried) → t.end ≡ script_end.Commit label → ((a : Attempt) → view.work ≡ Open a → CommitGives label view new a (Ok number))
        → IsText (text ++ committed_as number) result → AttemptEnds size items who it view new result
    commit_done new label number result is_end gives told =
        let gave = gives tries h.trying.is_open in
        let here = place view new gave.0.adds.moves in
        let ended = done_ends (sql size) items view tries it label its_session its_item (ap (λ (e : ScriptEnd). law.Transaction (end_of e)) is_end) h.stands.fits new number text makes
        (λ ended tables stored. replied (place view new ended.adds.moves).current ended.agree tables stored) gave in
        tried_so view new (said.Done label tries.edits) (text ++ committed_text (newest here + 1) label) result
        (of_who tries.who view new (said.Done label tries.edits) (text ++ committed_text (newest here + 1) label) h.trying.is_who ended) tt
        (subst (λ (x : List ℕ). IsText (text ++ x) result) (number_told label here number gave.1) told)

    pub commit_failed : (new : View) (label : Option (List ℕ)) (why : Refusal) (result : Tried) → t.end ≡ script_end.Commit label → is_fault why ≡ true → ((a : Attempt) → view.work ≡ Open a → CommitGives label view new a (Err why))
        → IsRefused names why result → AttemptEnds size items who it view new result
    commit_failed new label (refusal.DiskFault device count) result is_end is gives told = elim (gives tries h.trying.is_open) [
      | inl kept ↦ absurd (some_none tries.kept (refusal.DiskFault device count) keeps_none kept.0)
      | inr ended ↦ elim ended.0 [
        | inl adds ↦ failed_so Write adds ended.1 tt
        | inr ends ↦ failed_so (Append (change.Commit label tries.edits)) ends.adds ended.1 (refl, λ tables stored. makes (place view new ends.adds.moves).current tables ends.agree stored)
      ]
    ]
      where
        failed_so : (call : FailedCall) → (adds : Adds view new tries.who (said.Fault device count call) Idle) → IsNew new device count → LeavesCommit (sql size) (place view new adds.moves).current it (Commit label) call
            → AttemptEnds size items who it view new result
        failed_so call adds above leaves =
            tried_so view new (said.Fault device count call) (refusal_text names (refusal.DiskFault device count)) result
            (of_who tries.who view new (said.Fault device count call) (refusal_text names (refusal.DiskFault device count)) h.trying.is_who
            (failed_ends (sql size) items view tries it (Commit label) its_session its_item (ap (λ (e : ScriptEnd). law.Transaction (end_of e)) is_end) h.stands.fits new tries.since h.trying.rest device count call its_began adds above leaves)) tt told
    commit_failed new label why result is_end is gives told = cc

    pub rolled_so : (new : View) (result : Tried) → t.end ≡ script_end.Rollback → ((a : Attempt) → view.work ≡ Open a → RollbackGives ending.Asked view new a) → IsText (text ++ rolled_back_text) result
        → AttemptEnds size items who it view new result
    rolled_so new result is_end gives told =
        tried_so view new said.RolledBack (text ++ rolled_back_text) result
        (of_who tries.who view new said.RolledBack (text ++ rolled_back_text) h.trying.is_who
        (rolled_ends (sql size) items view tries it its_session its_item (ap (λ (e : ScriptEnd). law.Transaction (end_of e)) is_end) h.stands.fits new tries.since h.trying.rest text its_began keeps_none
        (λ tables stored. replied (at_began view tries) (λ page among. refl) tables stored) (gives tries h.trying.is_open))) tt told

    -- ---- a commit that was refused

    marks : Marks view tries h.asked
    marks = marks_of view tries h.asked text (Ok tt) h.ran

    rising : rises 0 (pages_of tries.edits) ≡ true
    rising = subst (λ (x : Attempt). rises 0 (pages_of x.edits) ≡ true) same h.reasons.rise

    -- the attempt behind the refusal
    record Refusing (mid : View) (label : Option (List ℕ)) (why : Refusal) : Type 0 where
      attempt : Attempt
      is_open : mid.work ≡ Open attempt
      is_who : attempt.who ≡ who
      moves : Moves view mid []
      kept : attempt.kept ≡ keeps why None
      ends : EndsBy (sql size) items view.opened who tries.since mid.front it (Commit label) why

    changed : (0 < length tries.edits) → (tables : Tables) → IsStored size (unedited (at_began view tries)) tables → changes t.statements ≡ true
    changed some tables stored = by_test (changes t.statements) refl
      where
        none_edited : (edits : List PageImage) → 0 < length edits → under (unedited (at_began view tries)) h.asked edits ≡ unedited (at_began view tries) → ⊥
        none_edited [] less still = absurd (omega (arith, less))
        none_edited (e ∷ edits) less still =
            let is : (under (unedited (at_began view tries)) h.asked (e ∷ edits)).edited e.page ≡ true =
            marked_edited (at_began view tries) h.asked (e ∷ edits) e.page (among_marked h.asked (e ∷ edits) e.page (rw (eq-eqb e.page e.page refl) refl)) in
            no (sym (ap (λ (p : pager.Pages). p.edited e.page) still) ∙ is)

        by_test : (some_change : Bool) → changes t.statements ≡ some_change → some_change ≡ true
        by_test true e = refl
        by_test false e = absurd (none_edited tries.edits some ((h.ran (at_began view tries) tables (λ page among. refl) stored).selects e).1)

    module _ (mid : View) (label : Option (List ℕ)) where
      since_mid : (moves : Moves view mid []) → SinceBegan who mid.front tries.since (h.trying.rest ++ moves.others)
      since_mid moves =
          subst (λ (ls : List Line). SinceBegan who ls tries.since (h.trying.rest ++ moves.others)) (sym (moves.front ∙ append-nil (view.front ++ moves.others)))
          (since_stays who said.Began view.front tries.since h.trying.rest moves.others h.trying.began (none_mine who view.session moves.others h.stands.mine moves.apart))

      -- the commit met a limit there
      met_limit : (why : Refusal) → (waits : CommitWaits view mid tries label why) → MeetsLimit (sql size) view.opened who mid.front it label why
      met_limit why waits =
          let began = since_mid waits.waits.moves in
          record {
            since = tries.since;
            rest = h.trying.rest ++ waits.waits.moves.others;
            began = began;
            front = h.trying.rest ++ waits.waits.moves.others;
            more = [];
            place = sym (append-nil (h.trying.rest ++ waits.waits.moves.others));
            writes = tries.edits;
            rise = rising;
            reached = reached view tries h.asked marks (pages_of tries.edits) (λ page is. among_marked h.asked tries.edits page is);
            refused =
                subst (λ (ls : List Line). IsCommitRefused (base_of view.opened.base ls) ls label tries.edits why) began.whole
                (subst (λ (g : Ground). IsCommitRefused (base_of g.base mid.front) mid.front label tries.edits why) waits.waits.moves.opened waits.is);
          }

      same_still : (why : Refusal) → keeps why None ≡ None → tries.kept ≡ keeps why None
      same_still why e = keeps_none ∙ sym e

      refusing : (why : Refusal) → is_fault why ≡ false → CommitGives label view mid tries (Err why) → Refusing mid label why
      refusing (refusal.DiskFault device count) is gives = cc
      refusing (refusal.Overlap session number) is gives = record {
        attempt = record tries { kept = Some (refusal.Overlap session number) };
        is_open = gives.0.work_is;
        is_who = h.trying.is_who;
        moves = gives.0.moves;
        kept = refl;
        ends = elim gives.1 [
          | inl kept ↦ absurd (some_none tries.kept (refusal.Overlap session number) keeps_none kept)
          | inr overlap ↦ subst (λ (w : Who). IsOverlapBy w mid.front session number) h.trying.is_who overlap
        ];
      }
      refusing (refusal.TooManyPages needed) is gives = absurd (some_none tries.kept (refusal.TooManyPages needed) keeps_none gives.1)
      refusing (refusal.Stopped device count) is gives = record {
        attempt = tries;
        is_open = gives.0.work_is;
        is_who = h.trying.is_who;
        moves = gives.0.moves;
        kept = keeps_none;
        ends = λ tables stored. (
          gives.1,
          elim gives.2 [
            | inl labelled ↦ inl labelled
            | inr some ↦ inr (changed some tables stored)
          ],
        );
      }
      refusing (refusal.JournalFull lines images) is gives = record {
        attempt = tries;
        is_open = gives.waits.work_is;
        is_who = h.trying.is_who;
        moves = gives.waits.moves;
        kept = keeps_none;
        ends = λ tables stored. met_limit (refusal.JournalFull lines images) gives;
      }
      refusing (refusal.SnapshotsFull retained) is gives = record {
        attempt = tries;
        is_open = gives.waits.work_is;
        is_who = h.trying.is_who;
        moves = gives.waits.moves;
        kept = keeps_none;
        ends = λ tables stored. met_limit (refusal.SnapshotsFull retained) gives;
      }
      refusing (refusal.ArchiveFull needed room) is gives = record {
        attempt = tries;
        is_open = gives.waits.work_is;
        is_who = h.trying.is_who;
        moves = gives.waits.moves;
        kept = keeps_none;
        ends = λ tables stored. met_limit (refusal.ArchiveFull needed room) gives;
      }
      refusing why is gives = record {
        attempt = tries;
        is_open = gives.0.work_is;
        is_who = h.trying.is_who;
        moves = gives.0.moves;
        kept = keeps_none;
        ends = λ tables stored. subst (λ (w : Refusal). IsLimit (sql size) view.opened who mid.front it (Commit label) w) (sym gives.1) tt;
      }

      pub commit_refused : (new : View) (why : Refusal) (result : Tried) → t.end ≡ script_end.Commit label → is_fault why ≡ false → ((a : Attempt) → view.work ≡ Open a → CommitGives label view mid a (Err why))
          → ((b : Attempt) → mid.work ≡ Open b → RollbackGives (ending_of why) mid new b) → IsRefused names why result → AttemptEnds size items who it view new result
      commit_refused new why result is_end is gives rolled told =
          let r = refusing why is (gives tries h.trying.is_open) in
          let waited = added_none (sql size) items who view mid h.stands.mine r.moves h.stands.fits in
          let stands : Stands size items who it mid = record {
            mine = h.stands.mine ∙ sym r.moves.session;
            is_item = h.stands.is_item;
            sized = ap (λ (g : Ground). g.base.page_count) r.moves.opened ∙ h.stands.sized;
            fits = waited.fits;
          } in
          let ended = rolls (Commit label) mid new r.attempt (h.trying.rest ++ r.moves.others) why result stands h.overlaps (ap end_of is_end) r.is_who tries.since (since_mid r.moves) r.kept
          (subst (λ (g : Ground). EndsBy (sql size) items g who tries.since mid.front it (Commit label) why) (sym r.moves.opened) r.ends) (rolled r.attempt r.is_open) told in
          record {
            what = ended.what;
            added = added_on (sql size) items who view mid new [] (ended.what ∷ []) waited ended.added;
            idle = ended.idle;
            ends = ended.ends;
            told = ended.told;
          }

      -- a commit that was not done
      pub commit_not_done : (new : View) (why : Refusal) (result : Tried) → t.end ≡ script_end.Commit label → ((a : Attempt) → view.work ≡ Open a → CommitGives label view mid a (Err why)) → (is_fault why ≡ true → new ≡ mid)
          → (is_fault why ≡ false → (b : Attempt) → mid.work ≡ Open b → RollbackGives (ending_of why) mid new b) → IsRefused names why result → AttemptEnds size items who it view new result
      commit_not_done new why result is_end gives same_view rolled told = by_test (is_fault why) refl
        where
          by_test : (fault : Bool) → is_fault why ≡ fault → AttemptEnds size items who it view new result
          by_test true is = subst (λ (v : View). AttemptEnds size items who it view v result) (sym (same_view is)) (commit_failed mid label why result is_end is gives told)
          by_test false is = commit_refused new why result is_end is gives (rolled is) told
