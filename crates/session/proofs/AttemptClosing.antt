-- How attempts end, and that their last lines fit.
use Rattle.std.proofs.Common.{◌≡◌, ◌++◌, ◌+◌, ◌<◌, ◌-◌, ◌^◌, ℕ, true, false, List, [], ◌∷◌, Option, Some, None, Ok, refl, ap, sym, subst}
use Rattle.std.specs.Option.{option_or}
use Rattle.retro_base.specs.declared.device.Device.{Device}
use Rattle.retro_base.specs.declared.refusal.Refusal.{Refusal}
use Rattle.retro_base.specs.declared.refusal.Refusal.TheVariants as refusal
use Rattle.retro_base.specs.declared.who.Who.{Who}
use Rattle.history.specs.declared.journal.FailedCall.{FailedCall}
use Rattle.history.specs.declared.journal.FailedCall.TheVariants.{Read}
use Rattle.history.specs.declared.journal.Line.{Line}
use Rattle.history.specs.declared.journal.What.{What}
use Rattle.history.specs.declared.journal.What.TheVariants.{Began, Done, Fault, Refused, RolledBack}
use Rattle.history.specs.declared.stop.Stop.{Stop}
use Rattle.history.specs.Lines.{first_stop, stop_of}
use Rattle.journal_law.specs.Facts.{Fits}
use Rattle.journal_law.specs.Fates.{IsReply}
use Rattle.journal_law.specs.Language.{Commit, End, Language, Rollback, Transaction}
use Rattle.journal_law.specs.Lawful.{Ground, IsLimit, IsOverlapBy}
use Rattle.journal_law.specs.LinesFit.{IsAbove, LeavesCommit}
use Rattle.journal_law.specs.Own.{SinceBegan, line, own}
use Rattle.journal_law.specs.Pages.{Pages, page_world}
use Rattle.journal_law.specs.Seating.{Makes, Sane}
use Rattle.journal_law.specs.Seats.{Adds, Attempt, CommitEnds, CommitGives, Idle, IsNew, Moves, RollbackGives, View, closing, keeps, lines_before, one, place}
use Rattle.journal_law.specs.Shows.{Shows, ShowsAlong, world}
use Rattle.journal_law.specs.World.{World, newest}
use Rattle.journal_law.specs.declared.seat.Ending.TheVariants as ending
use Rattle.journal_law.proofs.Journal.{along_end, along_front}
use Rattle.journal_law.proofs.Lasts.{overlap_stays, since_stays}
use Rattle.journal_law.proofs.LineFacts.{done_fits, lines_fit}
use Rattle.journal_law.proofs.Replies.{replies_told}
use Rattle.journal_law.proofs.Seating.{limit}
use Rattle.session.specs.Attempts.{Ended, EndsBy, OverlapsFit, ending_of, line_of}
use Rattle.session.proofs.Adding.{added_line, none_mine}

-- a rollback that is asked for so, where this refusal is kept if it may be, adds the line of this refusal
pub closes_so : (why : Refusal) (kept : Option Refusal) → kept ≡ keeps why None → closing kept (ending_of why) ≡ line_of why
closes_so (refusal.Overlap session item) kept is = ap (λ (k : Option Refusal). closing k ending.Asked) is
closes_so (refusal.DiskFault device count) kept is = ap (λ (k : Option Refusal). closing k (ending.Refused (refusal.DiskFault device count))) is
closes_so (refusal.TooManyPages needed) kept is = ap (λ (k : Option Refusal). closing k (ending.Refused (refusal.TooManyPages needed))) is
closes_so why kept is = ap (λ (k : Option Refusal). closing k (ending.Refused why)) is

-- the first stop stays the first
pub first_stop_on : (xs ys : List Line) (stop : Stop) → first_stop xs ≡ Some stop → first_stop (xs ++ ys) ≡ Some stop
first_stop_on [] ys stop is = cc
first_stop_on (l ∷ xs) ys stop is = by_first (stop_of l.what) is (first_stop_on xs ys stop)
  where
    by_first : (first : Option Stop) → option_or first (first_stop xs) ≡ Some stop → (first_stop xs ≡ Some stop → first_stop (xs ++ ys) ≡ Some stop) → option_or first (first_stop (xs ++ ys)) ≡ Some stop
    by_first None is rest = rest is
    by_first (Some s) is rest = is

module _ (L : Language) (items : Who → Option L.Item) where
  -- a call that was to read leaves nothing in doubt
  reads_leave_none : (pages : Pages) (item : L.Item) (end : End) → LeavesCommit L pages item end Read
  reads_leave_none pages item (Commit label) = tt
  reads_leave_none pages item Rollback = tt

  -- a limit that was met stays one while others add lines
  limit_on : (ground : Ground) (who : Who) (item : L.Item) (end : End) (why : Refusal) (before more : List Line) → own who more ≡ [] → IsLimit L ground who before item end why → IsLimit L ground who (before ++ more) item end why
  limit_on ground who item end refusal.OutOfMemory before more none is = tt
  limit_on ground who item (Commit label) (refusal.ArchiveFull needed room) before more none is = limit L items ground who item label (refusal.ArchiveFull needed room) before more is none
  limit_on ground who item (Commit label) (refusal.JournalFull lines images) before more none is = limit L items ground who item label (refusal.JournalFull lines images) before more is none
  limit_on ground who item (Commit label) (refusal.SnapshotsFull retained) before more none is = limit L items ground who item label (refusal.SnapshotsFull retained) before more is none
  limit_on ground who item end (refusal.PagesFull pages) before more none is =
      (is.0, record { since = is.1.since; rest = is.1.rest ++ more; began = since_stays who Began before is.1.since is.1.rest more is.1.began none; short = is.1.short })
  limit_on ground who item end (refusal.TooManyPages needed) before more none is =
      (is.0, record { since = is.1.since; rest = is.1.rest ++ more; began = since_stays who Began before is.1.since is.1.rest more is.1.began none; pages = is.1.pages; rise = is.1.rise; many = is.1.many; reached = is.1.reached })
  limit_on ground who item (Commit label) (refusal.Stopped device count) before more none is = (first_stop_on before more (record { device = device; count = count }) is.0, is.1)
  limit_on ground who item end why before more none is = absurd is

  overlap_on : (who : Who) (before more : List Line) (session number : ℕ) → own who more ≡ [] → IsOverlapBy who before session number → IsOverlapBy who (before ++ more) session number
  overlap_on who before more session number none is = record { other = is.other; session_is = is.session_is; item_is = is.item_is; overlaps = overlap_stays who is.other before more is.overlaps none }

  -- the tables at the attempt's Began
  stood : (ground : Ground) (who : Who) (before since rest : List Line) → SinceBegan who before since rest → (tables : World L.Tables) → ShowsAlong L items ground.pages tables before
      → Shows L (page_world ground.pages since) (world L items tables since)
  stood ground who before since rest at tables along =
      along_end L items ground.pages tables since
      (along_front L items ground.pages tables since (line who Began ∷ [])
      (along_front L items ground.pages tables (since ++ line who Began ∷ []) rest (subst (ShowsAlong L items ground.pages tables) at.whole along)))

  module _ (overlaps_fit : OverlapsFit L items) (ground : Ground) (who : Who) (item : L.Item) (end : End) (is_item : items who ≡ Some item) (is_kind : L.kind item ≡ Transaction end) where
    -- a limit, that was met whatever tables the pages held
    limit_fits : (before since rest : List Line) (why : Refusal) → SinceBegan who before since rest → ((tables : L.Tables) → L.IsStored (page_world ground.pages since).current tables → IsLimit L ground who before item end why)
        → Fits L items ground before (line who (Refused why))
    limit_fits before since rest why at met tables along =
        let shows = stood ground who before since rest at tables along in
        (lines_fit L).transactions.refused items ground before who item is_item end is_kind since rest at why (met (world L items tables since).current shows.current) tables along

    -- the last line of an attempt that ends by this refusal, behind which others may have added lines
    pub refusal_fits : (front others since rest : List Line) (why : Refusal) → own who others ≡ [] → SinceBegan who front since rest → EndsBy L items ground who since front item end why
        → Fits L items ground (front ++ others) (line who (line_of why))
    refusal_fits front others since rest (refusal.Overlap session number) none at is =
        overlaps_fit ground (front ++ others) who item end session number is_item is_kind (overlap_on who front others session number none is)
    refusal_fits front others since rest (refusal.DiskFault device count) none at is =
        (lines_fit L).transactions.failed items ground (front ++ others) who item is_item end is_kind since (rest ++ others) (since_stays who Began front since rest others at none) device count Read is (reads_leave_none (page_world ground.pages (front ++ others)).current item end)
    refusal_fits front others since rest why none at is =
        limit_fits (front ++ others) since (rest ++ others) why (since_stays who Began front since rest others at none) (λ tables stored. limit_on ground who item end why front others none (is tables stored))

  -- its reply
  refusal_told : (pages : World Pages) (who : Who) (item : L.Item) (before : List Line) (why : Refusal) → IsReply L items pages who item (before ++ one who (line_of why)) ((L.words item).refused why)
  refusal_told pages who item before (refusal.Overlap session number) = (replies_told L).overlapped items pages who item before session number
  refusal_told pages who item before (refusal.DiskFault device count) = (replies_told L).failed items pages who item before device count Read
  refusal_told pages who item before why = (replies_told L).refused items pages who item before why

  -- what was told behind a line is told at the front that it leaves
  told_there : (who : Who) (item : L.Item) (old new : View) (what : What) (moves : Moves old new (one who what)) (text : List ℕ) → IsReply L items old.opened.pages who item (lines_before old new moves ++ one who what) text
      → IsReply L items new.opened.pages who item new.front text
  told_there who item old new what moves text told =
      subst (λ (ground : Ground). IsReply L items ground.pages who item new.front text) (sym moves.opened)
      (subst (λ (ls : List Line). IsReply L items old.opened.pages who item ls text) (sym moves.front) told)

  module _ (view : View) (a : Attempt) (item : L.Item) (end : End) (mine : a.who.session ≡ view.session) (is_item : items a.who ≡ Some item) (is_kind : L.kind item ≡ Transaction end) (sane : Sane L items view) where
    abbrev Ends : View → What → List ℕ → Type 0
    Ends new what text = Ended L items a.who item view new what text

    by_line : (new : View) (what : What) (text : List ℕ) (adds : Adds view new a.who what Idle) → Fits L items view.opened (lines_before view new adds.moves) (line a.who what)
        → IsReply L items view.opened.pages a.who item (lines_before view new adds.moves ++ one a.who what) text → Ends new what text
    by_line new what text adds fit told = record {
      added = added_line L items a.who view new what mine adds.moves fit sane;
      idle = adds.work_is;
      told = told_there a.who item view new what adds.moves text told;
    }

    -- it ends by a refusal, which it keeps if it may be kept
    pub refused_ends : (overlaps_fit : OverlapsFit L items) (new : View) (since rest : List Line) (why : Refusal) → SinceBegan a.who view.front since rest → a.kept ≡ keeps why None
        → EndsBy L items view.opened a.who since view.front item end why → RollbackGives (ending_of why) view new a → Ends new (line_of why) ((L.words item).refused why)
    refused_ends overlaps_fit new since rest why at kept is gives =
        let adds : Adds view new a.who (line_of why) Idle = subst (λ (what : What). Adds view new a.who what Idle) (closes_so why a.kept kept) gives in
        let none = none_mine a.who view.session adds.moves.others mine adds.moves.apart in
        by_line new (line_of why) ((L.words item).refused why) adds
        (refusal_fits overlaps_fit view.opened a.who item end is_item is_kind view.front adds.moves.others since rest why none at is)
        (refusal_told view.opened.pages a.who item (lines_before view new adds.moves) why)

    -- a device failed in a commit, or while room was made for it
    pub failed_ends : (new : View) (since rest : List Line) (device : Device) (count : ℕ) (call : FailedCall) → SinceBegan a.who view.front since rest → (adds : Adds view new a.who (Fault device count call) Idle) → IsNew new device count
        → LeavesCommit L (place view new adds.moves).current item end call → Ends new (Fault device count call) ((L.words item).refused (refusal.DiskFault device count))
    failed_ends new since rest device count call at adds is leaves =
        let none = none_mine a.who view.session adds.moves.others mine adds.moves.apart in
        let above : IsAbove view.opened device count = subst (λ (ground : Ground). count < 2 ^ 64 - 1 → ground.faults device < count) adds.moves.opened is in
        by_line new (Fault device count call) ((L.words item).refused (refusal.DiskFault device count)) adds
        ((lines_fit L).transactions.failed items view.opened (lines_before view new adds.moves) a.who item is_item end is_kind since (rest ++ adds.moves.others)
        (since_stays a.who Began view.front since rest adds.moves.others at none) device count call above leaves)
        ((replies_told L).failed items view.opened.pages a.who item (lines_before view new adds.moves) device count call)

  -- a commit: the edits make of pages that hold tables those that hold the tables behind the statements, and the text has the statements' replies, whatever pages agree with those read
  pub done_ends : (view : View) (a : Attempt) (item : L.Item) (label : Option (List ℕ)) → a.who.session ≡ view.session → items a.who ≡ Some item → L.kind item ≡ Transaction (Commit label) → Sane L items view
      → (new : View) (number : Option ℕ) (text : List ℕ) → Makes L items view a item
      → ((ended : CommitEnds view new a (Done label a.edits)) (tables : L.Tables) → L.IsStored (place view new ended.adds.moves).current tables → text ≡ L.replies item tables)
      → (gives : CommitGives label view new a (Ok number))
      → Ended L items a.who item view new (Done label a.edits) (text ++ (L.words item).committed (newest (place view new gives.0.adds.moves) + 1) label)
  done_ends view a item label mine is_item is_kind sane new number text makes replies gives =
      let adds = gives.0.adds in
      let before = lines_before view new adds.moves in
      by_line view a item (Commit label) mine is_item is_kind sane new (Done label a.edits) (text ++ (L.words item).committed (newest (place view new adds.moves) + 1) label) adds
      (done_fits L items view.opened before a.who item is_item label a.edits is_kind (λ tables stored. makes (page_world view.opened.pages before).current tables gives.0.agree stored) gives.2)
      ((replies_told L).committed items view.opened.pages a.who item before label a.edits text (newest (page_world view.opened.pages before) + 1) (replies gives.0) refl)

  -- a rollback that the script asks for
  pub rolled_ends : (view : View) (a : Attempt) (item : L.Item) → a.who.session ≡ view.session → items a.who ≡ Some item → L.kind item ≡ Transaction Rollback → Sane L items view
      → (new : View) (since rest : List Line) (text : List ℕ) → SinceBegan a.who view.front since rest → a.kept ≡ None
      → ((tables : L.Tables) → L.IsStored (page_world view.opened.pages since).current tables → text ≡ L.replies item tables) → RollbackGives ending.Asked view new a
      → Ended L items a.who item view new RolledBack (text ++ (L.words item).rolled_back)
  rolled_ends view a item mine is_item is_kind sane new since rest text at kept replies gives =
      let adds : Adds view new a.who RolledBack Idle = subst (λ (k : Option Refusal). Adds view new a.who (closing k ending.Asked) Idle) kept gives in
      let before = lines_before view new adds.moves in
      let none = none_mine a.who view.session adds.moves.others mine adds.moves.apart in
      by_line view a item Rollback mine is_item is_kind sane new RolledBack (text ++ (L.words item).rolled_back) adds
      ((lines_fit L).transactions.rolled_back items view.opened before a.who item is_item is_kind)
      ((replies_told L).rolled_back items view.opened.pages a.who item Began refl before since (rest ++ adds.moves.others) (since_stays a.who Began view.front since rest adds.moves.others at none) text replies)
