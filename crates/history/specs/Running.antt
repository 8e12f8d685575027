-- The running form of a base: for each page the number of the snapshot that was the newest when the page was captured
-- last.
use Rattle.std.specs.Prelude.{◌+◌, ◌*◌, ◌≤◌, ◌==◌, ℕ, List, [], ◌∷◌, length, drop, slice_set, if◌then◌else◌}
use Rattle.std.specs.List.{AllByRecursion}
use Rattle.retro_base.specs.declared.limits.TheConstants.{MAX_PAGES, RETAINED_SNAPSHOTS}
use Rattle.history.specs.declared.entry.Base.{Base}
use Rattle.history.specs.declared.entry.Mark.{Mark}
use Rattle.history.specs.Marks.{newest}

-- the pages with this stamp, in rising number, where the stamps begin with that of the first
abbrev pub stamped : ℕ → ℕ → List ℕ → List ℕ
stamped number first [] = []
stamped number first (stamp ∷ stamps) =
    if stamp == number then first ∷ stamped number (first + 1) stamps else stamped number (first + 1) stamps

-- the stamps behind captures of these pages
abbrev pub with_stamps : ℕ → List ℕ → List ℕ → List ℕ
with_stamps number stamps [] = stamps
with_stamps number stamps (page ∷ pages) = with_stamps number (slice_set stamps page number) pages

-- the pages captured since the newest of these snapshots, none before the first
abbrev pub captured_in : List Mark → List ℕ → List ℕ
captured_in [] stamps = []
captured_in (mark ∷ marks) stamps = stamped (newest (mark ∷ marks)) 0 stamps

-- the base that the running form stands for
abbrev pub stamped_base : ℕ → ℕ → ℕ → List Mark → List ℕ → Base
stamped_base capacity changes captures marks stamps =
    record {
      page_count = length stamps;
      capacity = capacity;
      changes = changes;
      captures = captures;
      marks = marks;
      captured = captured_in marks stamps;
    }

-- At most half of the marks are dropped ones, there are places for twice as many as may be retained, the pages have
-- stamps, and none is above the newest number.
pub record IsRunning (marks : List Mark) (dropped places : ℕ) (stamps : List ℕ) : Type 0 where
  pub kept : dropped + dropped ≤ length marks
  pub room : 2 * RETAINED_SNAPSHOTS ≤ places
  pub pages : length stamps ≤ MAX_PAGES
  pub below : AllByRecursion (λ stamp. stamp ≤ newest (drop dropped marks)) stamps
