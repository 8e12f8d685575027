-- What follows where a call is not refused.
use Rattle.std.specs.Prelude.{◌≡◌, ◌+◌, ◌≤◌, ◌<◌, ℕ, true, IsTrue, is_some, List, [], ◌∷◌, ◌++◌, length, Option, None}
use Rattle.std.specs.List.{AllByRecursion}
use Rattle.retro_base.specs.declared.limits.TheConstants.{JOURNAL_IMAGES, JOURNAL_LINES}
use Rattle.history.specs.declared.entry.Base.{Base}
use Rattle.history.specs.declared.entry.Change.TheVariants.{Commit}
use Rattle.history.specs.declared.journal.Line.{Line}
use Rattle.history.specs.declared.journal.What.TheVariants.{Done, Dropped}
use Rattle.history.specs.Lines.{base_of, images_in}
use Rattle.history.specs.Marks.{newest}
use Rattle.history.specs.Right.{DoesSomething, IsBase, IsRight}
use Rattle.history.specs.Sound.{IsSound}
use Rattle.history.specs.Writes.{pages_of, rises}
use Rattle.history.specs.declared.stop.Stop.{Stop}
use Rattle.journal_book.specs.declared.work.Transaction.{Transaction}
use Rattle.txn_set.specs.declared.ledger.Ledger.{Ledger}
use Rattle.txn_set.specs.Refused.{commit_refused, counts_of, drop_refused, leaves_record}
use Rattle.txn_set.specs.WorksFit.{PinsFit, WorksFit}

-- A commit that writes or declares, and is not refused, is right behind a right base.
abbrev pub CommitsAreRight : Type 0
CommitsAreRight = (base : Base) (fault : Option Stop) (lines : List Line) (t : Transaction) (label : Option (List ℕ))
    → IsBase base
    → AllByRecursion (λ edit. edit.page < base.page_count) t.edits
    → commit_refused fault (counts_of base t.edits) lines t (is_some label) ≡ None
    → DoesSomething label t.edits → IsRight base (Commit label t.edits)

-- The page images of a commit that is not refused fit the journal.
abbrev pub ImagesFit : Type 0
ImagesFit = (base : Base) (fault : Option Stop) (lines : List Line) (t : Transaction) (label : Option (List ℕ)) →
    commit_refused fault (counts_of base t.edits) lines t (is_some label) ≡ None
    → images_in lines + length t.edits ≤ JOURNAL_IMAGES

-- A commit that leaves a record is not refused only where nothing has stopped the desk.
abbrev pub DeskGoesOn : Type 0
DeskGoesOn = (base : Base) (fault : Option Stop) (lines : List Line) (t : Transaction) (label : Option (List ℕ)) →
    commit_refused fault (counts_of base t.edits) lines t (is_some label) ≡ None → leaves_record label t.edits ≡ true
    → fault ≡ None

-- The line of a commit that is not refused keeps the journal sound, where there is a place for it.
abbrev pub CommitsStaySound : Type 0
CommitsStaySound =
    (opening : Base) (fault : Option Stop) (lines : List Line) (line : Line) (t : Transaction) (label : Option (List ℕ))
    → IsSound opening lines → length lines < JOURNAL_LINES
    → IsTrue (rises 0 (pages_of t.edits))
    → AllByRecursion (λ edit. edit.page < (base_of opening lines).page_count) t.edits
    → commit_refused fault (counts_of (base_of opening lines) t.edits) lines t (is_some label) ≡ None
    → line.what ≡ Done label t.edits → IsSound opening (lines ++ line ∷ [])

-- The line of a drop that is not refused keeps the journal sound, where there is a place for it.
abbrev pub DropsStaySound : Type 0
DropsStaySound = (opening : Base) (fault : Option Stop) (l : Ledger) (line : Line) (below : ℕ)
    → IsSound opening l.book.lines → length l.book.lines < JOURNAL_LINES → WorksFit l → PinsFit opening l
    → drop_refused fault (newest (base_of opening l.book.lines).marks) below l.works.slots ≡ None
    → line.what ≡ Dropped below → IsSound opening (l.book.lines ++ line ∷ [])
