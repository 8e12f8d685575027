-- Why calls are refused, over the journal, the works, and numbers of the base.
use Rattle.std.specs.Prelude.{◌+◌, ◌-◌, ◌≤◌, ◌==◌, ◌&&◌, ◌||◌, nat_lt, nat_le, ℕ, Bool, not, is_some, List}
use Rattle.std.specs.Prelude.{[], ◌∷◌, length, drop, Option, Some, None, option_map, if◌then◌else◌}
use Rattle.std.specs.Option.{option_or}
use Rattle.retro_base.specs.declared.limits.TheConstants.{EDITED_PAGES, JOURNAL_IMAGES}
use Rattle.retro_base.specs.declared.limits.TheConstants.{MAX_CAPTURES, RETAINED_SNAPSHOTS}
use Rattle.retro_base.specs.declared.refusal.Refusal.{Refusal}
use Rattle.retro_base.specs.declared.refusal.Refusal.TheVariants.{ArchiveFull, Dropped, JournalFull, NoSuchSnapshot}
use Rattle.retro_base.specs.declared.refusal.Refusal.TheVariants.{Overlap, Pinned, SnapshotsFull, Stopped, TooManyPages}
use Rattle.retro_base.specs.declared.who.Who.{Who}
use Rattle.history.specs.declared.entry.Base.{Base}
use Rattle.history.specs.declared.journal.Line.{Line}
use Rattle.history.specs.declared.writes.PageImage.{PageImage}
use Rattle.history.specs.History.{capturing}
use Rattle.history.specs.LineLaws.{NoCommitOf}
use Rattle.history.specs.Lines.{changed_since, images_in}
use Rattle.history.specs.Marks.{newest, oldest_start}
use Rattle.history.specs.Writes.{pages_of, is_among}
use Rattle.txn_set.specs.declared.counts.Counts.{Counts}
use Rattle.history.specs.declared.stop.Stop.{Stop}
use Rattle.journal_book.specs.declared.work.Transaction.{Transaction}
use Rattle.journal_book.specs.declared.work.Work.{Work}
use Rattle.journal_book.specs.Works.{latch_holder, least_pin}

-- the refusal where the test holds
abbrev pub where_so : Bool → Refusal → Option Refusal
where_so test why = if test then Some why else None

-- the refusal that names the item
abbrev pub overlap : Who → Refusal
overlap who = Overlap who.session who.item

abbrev pub stopped : Stop → Refusal
stopped stop = Stopped stop.device stop.count

-- A transaction is open in the journal: its line is there, and it has committed nothing since.
pub record IsOpenIn (lines : List Line) (t : Transaction) : Type 0 where
  pub begun : t.began ≤ length lines
  pub own : NoCommitOf t.who (drop t.began lines)

-- the transaction edits as many pages as it may, and not this one
abbrev pub too_many : Transaction → ℕ → Option Refusal
too_many t page =
    where_so (nat_le EDITED_PAGES (length t.edits) && not (is_among page (pages_of t.edits)))
    (TooManyPages (EDITED_PAGES + 1))

-- why a read of the page is refused: what the transaction keeps, else the last other item that changed the page since
-- it began
abbrev pub read_refused : List Line → Transaction → ℕ → Option Refusal
read_refused lines t page = option_or t.kept (option_map overlap (changed_since t.who page t.began lines))

-- why an edit of the page is: what the transaction keeps, else the holder of the page's latch, else the last other item
-- that changed it, else too many pages
abbrev pub edit_refused : List Line → List (Option Work) → Transaction → ℕ → Option Refusal
edit_refused lines slots t page =
    option_or t.kept
    (option_or (option_map overlap (latch_holder t.who page slots))
    (option_or (option_map overlap (changed_since t.who page t.began lines)) (too_many t page)))

-- the last other item that changed the least of these pages which was changed since the transaction began
abbrev pub first_changed : List Line → Transaction → List ℕ → Option Who
first_changed lines t [] = None
first_changed lines t (page ∷ pages) = option_or (changed_since t.who page t.began lines) (first_changed lines t pages)

-- a commit that leaves a record
abbrev pub leaves_record : Option (List ℕ) → List PageImage → Bool
leaves_record label writes = is_some label || nat_lt 0 (length writes)

-- the stop of a commit that writes or declares
abbrev pub stopped_refused : Option Stop → Bool → List PageImage → Option Refusal
stopped_refused fault declares writes = if declares || nat_lt 0 (length writes) then option_map stopped fault else None

-- more page images than the journal may have
abbrev pub images_refused : List Line → List PageImage → Option Refusal
images_refused lines writes =
    where_so (nat_lt JOURNAL_IMAGES (images_in lines + length writes))
    (JournalFull (length lines) (images_in lines + length writes))

-- the counts of a base, and how many of these writes capture their page
abbrev pub counts_of : Base → List PageImage → Counts
counts_of base writes = record {
  capacity = base.capacity;
  captures = base.captures;
  captured = length (capturing base writes);
  retained = length base.marks;
  newest = newest base.marks;
  oldest_start = oldest_start base.marks;
}

-- more snapshots than may be retained, or numbered
abbrev pub snapshots_refused : Counts → Bool → Option Refusal
snapshots_refused counts declares =
    where_so (declares && (nat_le RETAINED_SNAPSHOTS counts.retained || nat_le 4294967295 counts.newest))
    (SnapshotsFull counts.retained)

-- the captures behind the commit
abbrev pub captures_behind : Counts → ℕ
captures_behind counts = counts.captures + counts.captured

-- the start of the oldest snapshot behind it: the first one starts there
abbrev pub start_behind : Counts → Bool → ℕ
start_behind counts declares =
    if declares && (counts.retained == 0) then captures_behind counts else counts.oldest_start

-- more captures than the archive holds, or than a store may ever have
abbrev pub archive_refused : Counts → Bool → Option Refusal
archive_refused counts declares =
    option_or
    (where_so (nat_lt counts.capacity (captures_behind counts - start_behind counts declares))
    (ArchiveFull (captures_behind counts - start_behind counts declares) counts.capacity))
    (where_so (nat_lt MAX_CAPTURES (captures_behind counts)) (ArchiveFull (captures_behind counts) MAX_CAPTURES))

-- why a commit is refused, which declares a snapshot or not, in this order: what the transaction keeps; the stop; the
-- last changer of the least page read that has changed; page images; snapshots; the archive
abbrev pub commit_refused : Option Stop → Counts → List Line → Transaction → Bool → Option Refusal
commit_refused fault counts lines t declares =
    option_or t.kept
    (option_or (stopped_refused fault declares t.edits)
    (option_or (option_map overlap (first_changed lines t t.reads.keys))
    (option_or (images_refused lines t.edits)
    (option_or (snapshots_refused counts declares) (archive_refused counts declares)))))

-- no snapshot has this number
abbrev pub no_snapshot : ℕ → ℕ → Option Refusal
no_snapshot number newest = where_so ((number == 0) || nat_lt newest number) (NoSuchSnapshot number newest)

-- why a look at a snapshot is refused
abbrev pub look_refused : ℕ → ℕ → ℕ → Option Refusal
look_refused number oldest newest =
    option_or (no_snapshot number newest) (where_so (nat_lt number oldest) (Dropped number oldest))

abbrev pub pinned_below : ℕ → Option (ℕ × ℕ) → Option Refusal
pinned_below below None = None
pinned_below below (Some pin) = where_so (nat_lt pin.0 below) (Pinned pin.0 pin.1)

-- why a drop of the snapshots below a number is refused
abbrev pub drop_refused : Option Stop → ℕ → ℕ → List (Option Work) → Option Refusal
drop_refused fault newest below slots =
    option_or (option_map stopped fault) (option_or (no_snapshot below newest) (pinned_below below (least_pin slots)))
