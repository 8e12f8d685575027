-- How the works of the sessions fit the journal.
use Rattle.std.specs.Prelude.{◌≡◌, ◌+◌, ◌<◌, ◌≤◌, ℕ, Bool, true, false, List, []}
use Rattle.std.specs.Prelude.{◌∷◌, length, Option, Some, None, if◌then◌else◌}
use Rattle.std.specs.List.{AllByRecursion}
use Rattle.retro_base.specs.declared.limits.TheConstants.{EDITED_PAGES}
use Rattle.retro_base.specs.declared.refusal.Refusal.{Refusal}
use Rattle.retro_base.specs.declared.who.Who.{Who}
use Rattle.history.specs.declared.entry.Base.{Base}
use Rattle.history.specs.declared.journal.Line.{Line}
use Rattle.history.specs.declared.journal.What.{What}
use Rattle.history.specs.LineLaws.{ends_look}
use Rattle.history.specs.Lines.{begins, changed_since, is_open, open_in, pinned_by}
use Rattle.history.specs.Sound.{pins_of, same_item}
use Rattle.history.specs.Writes.{pages_of, is_among, rises}
use Rattle.txn_set.specs.declared.ledger.Ledger.{Ledger}
use Rattle.journal_book.specs.declared.work.Look.{Look}
use Rattle.journal_book.specs.declared.work.Transaction.{Transaction}
use Rattle.journal_book.specs.declared.work.Work.{Work}
use Rattle.journal_book.specs.declared.work.Work.TheVariants.{Open, Looking, KeptDrop}
use Rattle.txn_set.specs.Ledger.{is_kept}
use Rattle.txn_set.specs.Refused.{IsOpenIn}
use Rattle.journal_book.specs.Works.{edits_page, who_of, work_at}

abbrev pub MayKeep : Option Refusal → Type 0
MayKeep None = Unit {0}
MayKeep (Some why) = is_kept why ≡ true

-- A transaction fits the journal: it began there and committed nothing since, no other item changed a page that it
-- edits since it began, and its pages are the store's, in rising number.
pub record TransactionFits (pages : ℕ) (lines : List Line) (t : Transaction) : Type 0 where
  pub is_open : IsOpenIn lines t
  pub few : length t.edits ≤ EDITED_PAGES
  pub edits_rise : rises 0 (pages_of t.edits) ≡ true
  pub edits_inside : AllByRecursion (λ edit. edit.page < pages) t.edits
  pub unchanged : (page : ℕ) → is_among page (pages_of t.edits) ≡ true → changed_since t.who page t.began lines ≡ None
  pub reads_inside : AllByRecursion (λ page. page < pages) t.reads.keys
  pub may_keep : MayKeep t.kept

-- A look fits the journal: it began there, and its pins rise.
pub record LookFits (lines : List Line) (look : Look) : Type 0 where
  pub begun : look.began ≤ length lines
  pub pins_rise : rises 0 look.pins ≡ true

abbrev pub WorkFits : ℕ → List Line → Work → Type 0
WorkFits pages lines (Open t) = TransactionFits pages lines t
WorkFits pages lines (Looking look) = LookFits lines look
WorkFits pages lines (KeptDrop who) = Unit {0}

-- whether the work of a session is an open transaction or look of this item
abbrev pub has_begun : Who → Option Work → Bool
has_begun who (Some (Open t)) = same_item t.who who
has_begun who (Some (Looking look)) = same_item look.who who
has_begun who _ = false

-- how many closing lines are kept for these works: one each
abbrev pub kept_lines : List (Option Work) → ℕ
kept_lines [] = 0
kept_lines (None ∷ slots) = kept_lines slots
kept_lines (Some work ∷ slots) = kept_lines slots + 1

-- The works fit the journal: each at its session, no page edited by two, a closing line kept for each, and what is open
-- in the journal is what is open there.
pub record WorksFit (ledger : Ledger) : Type 0 where
  pub pages : ledger.works.pages ≡ ledger.book.pages
  pub sessions : (session : ℕ) (work : Work) → work_at ledger.works.slots session ≡ Some work
      → (who_of work).session ≡ session
  pub each : (session : ℕ) (work : Work) → work_at ledger.works.slots session ≡ Some work
      → WorkFits ledger.book.pages ledger.book.lines work
  pub apart : (page one other : ℕ) → edits_page page (work_at ledger.works.slots one) ≡ true
      → edits_page page (work_at ledger.works.slots other) ≡ true → one ≡ other
  pub kept : ledger.book.kept ≡ kept_lines ledger.works.slots
  pub open_items : (who : Who)
      → is_open who (open_in ledger.book.lines) ≡ has_begun who (work_at ledger.works.slots who.session)

-- the snapshots that the look of this item pins, if it is the session's work
abbrev pub pins_at : Who → Option Work → List ℕ
pins_at who (Some (Looking look)) = if same_item look.who who then look.pins else []
pins_at who _ = []

-- What each look pins is what the journal says that it pins, and nothing else is pinned.
pub record PinsFit (opening : Base) (ledger : Ledger) : Type 0 where
  pub pins : (who : Who)
      → pinned_by who (pins_of opening [] ledger.book.lines) ≡ pins_at who (work_at ledger.works.slots who.session)

-- a line of this item may close the work: it begins nothing, is of the work's own item, and ends a look only where it
-- unpins
abbrev pub Closes : Who → What → Option Work → Type 0
Closes who what (Some (Open t)) = (begins what ≡ false) × (t.who ≡ who)
Closes who what (Some (Looking look)) = (ends_look what ≡ true) × (look.who ≡ who)
Closes who what (Some (KeptDrop other)) = begins what ≡ false
Closes who what None = Unit {0}
