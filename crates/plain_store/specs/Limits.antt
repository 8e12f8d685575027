-- What holds where the limits refuse a commit nothing, and where the journal has no room.
use Rattle.std.specs.Prelude.{◌≡◌, ◌≤◌, ◌<◌, ◌+◌, ◌-◌, ℕ, List, Option, length}
use Rattle.retro_base.specs.declared.limits.TheConstants.{JOURNAL_IMAGES, JOURNAL_LINES, WORKER_LINES}
use Rattle.retro_base.specs.declared.refusal.Refusal.{Refusal}
use Rattle.retro_base.specs.declared.refusal.Refusal.TheVariants.{JournalFull, OutOfMemory}
use Rattle.history.specs.declared.entry.Base.{Base}
use Rattle.history.specs.declared.entry.Change.TheVariants.{Commit}
use Rattle.history.specs.declared.journal.Line.{Line}
use Rattle.history.specs.declared.writes.PageImage.{PageImage}
use Rattle.history.specs.History.{base_after}
use Rattle.history.specs.Lines.{images_in}
use Rattle.history.specs.Right.{IsWithinLimits}
use Rattle.journal_book.specs.Book.{Book, lines_needed}

-- the limits hold behind a commit of these writes
pub record MayCommit (base : Base) (lines : List Line) (label : Option (List ℕ))
    (writes : List PageImage) : Type 0 where
  pub images : images_in lines + length writes ≤ JOURNAL_IMAGES
  pub limits : IsWithinLimits (base_after base (Commit label writes)).capacity
      (base_after base (Commit label writes)).captures (base_after base (Commit label writes)).marks

-- the journal has no room for so many lines more, or memory is wanting
abbrev pub IsNoRoom : Book → ℕ → Refusal → Type 0
IsNoRoom book more (JournalFull lines images) =
    (JOURNAL_LINES - WORKER_LINES < lines) × (lines ≡ lines_needed book more) × (images ≡ images_in book.lines)
IsNoRoom book more OutOfMemory = Unit {0}
IsNoRoom book more why = ⊥
