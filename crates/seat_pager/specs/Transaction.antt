-- What a pager over an open attempt shows, and what is known of the attempt while it goes on.
use Rattle.std.specs.Prelude.{◌≡◌, ◌+◌, ◌==◌, ◌||◌, ℕ, Bool, true, false, IsTrue}
use Rattle.std.specs.Prelude.{List, [], length, Option, Some, None, is_some}
use Rattle.retro_base.specs.declared.limits.TheConstants.{EDITED_PAGES}
use Rattle.retro_base.specs.declared.refusal.Refusal.{Refusal}
use Rattle.retro_base.specs.declared.refusal.Refusal.TheVariants as refusal
use Rattle.history.specs.History.{written}
use Rattle.history.specs.Writes.{is_among, pages_of, rises}
use Rattle.history.specs.declared.writes.PageImage.{PageImage}
use Rattle.journal_law.specs.Lawful.{IsOverlapBy}
use Rattle.journal_law.specs.Seats.{Agree, Attempt, IsNew, Moves, Open, View, at_began}
use Rattle.pager.specs.Pages.{Pages}

-- whether an edit of this page was asked for, one more than an attempt may edit
abbrev pub is_asked : ℕ → Option ℕ → Bool
is_asked page None = false
is_asked page (Some other) = page == other

-- whether the page was edited, or asked to be
abbrev pub is_marked : ℕ → Option ℕ → List PageImage → Bool
is_marked page asked edits = is_asked page asked || is_among page (pages_of edits)

-- these pages under edits
abbrev pub under : Pages → Option ℕ → List PageImage → Pages
under base asked edits = record {
  at = written base.at edits;
  edited = λ page. is_asked page asked || (is_among page (pages_of edits) || base.edited page);
}

-- The base agrees with the pages at the attempt's Began on every page that was read, and shown is the base under the
-- edits.
pub record Tells (view : View) (asked : Option ℕ) (base shown : Pages) : Type 0 where
  pub attempt : Attempt
  pub is_open : view.work ≡ Open attempt
  pub agree : Agree attempt.read base.at (at_began view attempt)
  pub shows : shown ≡ under base asked attempt.edits

-- A pager over an open attempt: what its seat sees, the refusal that the attempt keeps, and the page for which an edit
-- was refused as one too many.
pub record Paging : Type 0 where
  pub view : View
  pub kept : Option Refusal
  pub asked : Option ℕ

-- one page more than an attempt may edit, each edited or asked to be
pub record HasTooMany (edits : List PageImage) (asked : Option ℕ) : Type 0 where
  pub pages : List ℕ
  pub rise : IsTrue (rises 0 pages)
  pub many : length pages ≡ EDITED_PAGES + 1
  pub marked : (page : ℕ) → is_among page pages ≡ true → is_marked page asked edits ≡ true

-- what is known where the attempt keeps this refusal
abbrev pub IsKeptFor : View → Attempt → Option ℕ → Refusal → Type 0
IsKeptFor view a asked (refusal.Overlap session item) = IsOverlapBy a.who view.front session item
IsKeptFor view a asked (refusal.DiskFault device count) = IsNew view device count
IsKeptFor view a asked (refusal.TooManyPages needed) = (needed ≡ EDITED_PAGES + 1) × HasTooMany a.edits asked
IsKeptFor view a asked why = ⊥

-- which refusal an attempt of the seat's session keeps, where it keeps one, and why
pub record HasReasons (p : Paging) : Type 0 where
  pub attempt : Attempt
  pub is_open : p.view.work ≡ Open attempt
  pub mine : attempt.who.session ≡ p.view.session
  pub rise : IsTrue (rises 0 (pages_of attempt.edits))
  pub keeps : attempt.kept ≡ p.kept
  pub known : (why : Refusal) → attempt.kept ≡ Some why → IsKeptFor p.view attempt p.asked why
  pub many : is_some p.asked ≡ true → HasTooMany attempt.edits p.asked

-- the attempt of this item, begun behind these lines
pub record SameAttempt (old : Attempt) (new : View) : Type 0 where
  pub attempt : Attempt
  pub is_open : new.work ≡ Open attempt
  pub who : attempt.who ≡ old.who
  pub since : attempt.since ≡ old.since

-- The attempt goes on: only others have added lines, and what was known of its refusals is known of those now.
pub record GoesOn (old new : Paging) : Type 0 where
  pub moves : Moves old.view new.view []
  pub told : new.view.told ≡ old.view.told
  pub attempt : (a : Attempt) → old.view.work ≡ Open a → SameAttempt a new.view
  pub reasons : HasReasons old → HasReasons new
