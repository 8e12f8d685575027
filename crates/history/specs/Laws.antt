-- What follows from these definitions, in the words of the subject.
use Rattle.std.specs.Prelude.{◌≡◌, ◌≤◌, ◌++◌, ◌+◌, ◌&&◌, ℕ, true, not, List, []}
use Rattle.std.specs.Prelude.{◌∷◌, length, map, filter, take, drop, Option, Some}
use Rattle.std.specs.List.{AllByRecursion}
use Rattle.std.specs.Option.{option_to_list}
use Rattle.history.specs.declared.entry.Base.{Base}
use Rattle.history.specs.declared.entry.Change.{Change}
use Rattle.history.specs.declared.entry.Change.TheVariants.{Commit, Drop}
use Rattle.history.specs.declared.journal.Line.{Line}
use Rattle.history.specs.declared.writes.PageImage.{PageImage}
use Rattle.history.specs.Marks.{oldest, newest, is_retained, start_of, oldest_start, newest_start, AreMarks}
use Rattle.history.specs.Writes.{pages_of, is_among}
use Rattle.history.specs.History.{History, now, captures, with_change, with_changes, is_declared}
use Rattle.history.specs.History.{before_write, base_after, bases_after, captured_by, pages_as_of}
use Rattle.history.specs.Journal.{change_of, changes_of, pages_after_journal, after_journal}
use Rattle.history.specs.Right.{IsBase, IsRight, WritesRise}
use Rattle.history.specs.Sound.{Pin, pins_of, IsSound}

-- the pages of the captures since the newest snapshot was declared
abbrev pub captured_since : History → List ℕ
captured_since history = pages_of (drop (newest_start (now history).base.marks) (captures history))

-- A history is consistent: the archive held the base's captures and none that the changes don't make, the marks are in
-- order, and the pages that the log tells as captured are those with a capture since the newest snapshot.
pub record IsConsistent (history : History) : Type 0 where
  pub counted : history.origin.base.captures ≤ length history.held
  pub known : length history.held ≤ (now history).base.captures
  pub marks : AreMarks (now history).base.captures (now history).base.marks
  pub captured : (page : ℕ) →
      is_among page (now history).base.captured
      ≡ (is_declared (now history).base.marks && is_among page (captured_since history))

-- a drop leaves the newest snapshot
abbrev pub KeepsNewest : Base → Change → Type 0
KeepsNewest base (Commit label writes) = Unit {0}
KeepsNewest base (Drop below) = below ≤ newest base.marks

abbrev pub AllKeepNewest : Base → List Change → Type 0
AllKeepNewest base [] = Unit {0}
AllKeepNewest base (change ∷ changes) = KeepsNewest base change × AllKeepNewest (base_after base change) changes

-- a store where nothing was declared and nothing captured has a consistent history
abbrev pub MadeIsConsistent : Type 0
MadeIsConsistent = (base : Base) (pages : ℕ → List ℕ) → base.marks ≡ [] → base.captures ≡ 0 → base.captured ≡ [] →
    IsConsistent (record { origin = record { base = base; pages = pages }; held = []; changes = [] })

-- changes leave a consistent history consistent
abbrev pub StaysConsistent : Type 0
StaysConsistent = (history : History) (more : List Change) → IsConsistent history →
    AllKeepNewest (now history).base more → IsConsistent (with_changes history more)

-- there are as many captures as the log says
abbrev pub CapturesAreCounted : Type 0
CapturesAreCounted = (history : History) → IsConsistent history →
    length (captures history) ≡ (now history).base.captures

-- A change adds what it captures at the end, and leaves the captures before it.
abbrev pub CapturesGrow : Type 0
CapturesGrow = (history : History) (change : Change) → IsConsistent history →
    captures (with_change history change) ≡ captures history ++ captured_by (now history) change

-- A commit captures what a written page had exactly where a snapshot was declared before and the page has no capture
-- since the newest one.
abbrev pub CapturedByTheRule : Type 0
CapturedByTheRule = (history : History) (label : Option (List ℕ)) (writes : List PageImage) → IsConsistent history →
    captured_by (now history) (Commit label writes)
    ≡ map (before_write (now history).pages)
    (filter (λ write. is_declared (now history).base.marks && not (is_among write.page (captured_since history)))
    writes)

-- a commit whose pages were all captured since the newest snapshot captures nothing
abbrev pub NothingTwice : Type 0
NothingTwice = (history : History) (label : Option (List ℕ)) (writes : List PageImage) → IsConsistent history →
    AllByRecursion (λ write. is_among write.page (captured_since history) ≡ true) writes →
    captured_by (now history) (Commit label writes) ≡ []

-- A snapshot's start is the number of captures up to and including the commit that declared it. The start of a retained
-- snapshot stays.
abbrev pub StartsCount : Type 0
StartsCount = (history : History) (label : List ℕ) (writes : List PageImage) → IsConsistent history →
    let after : History = with_change history (Commit (Some label) writes) in
    (start_of (newest (now history).base.marks + 1) (now after).base.marks ≡ length (captures after))
    × ((number : ℕ) → is_retained number (now history).base.marks ≡ true →
    start_of number (now after).base.marks ≡ start_of number (now history).base.marks)

-- While a snapshot is retained, a page as of it is the page just after the commit that declared it, whatever changes
-- follow.
abbrev pub AsOfTheDeclaration : Type 0
AsOfTheDeclaration = (history : History) (label : List ℕ) (writes : List PageImage) (more : List Change) →
    IsConsistent history →
    let number : ℕ = newest (now history).base.marks + 1 in
    let declared : History = with_change history (Commit (Some label) writes) in
    let later : History = with_changes declared more in
    AllKeepNewest (now declared).base more → is_retained number (now later).base.marks ≡ true → (page : ℕ) →
    pages_as_of later number page ≡ (now declared).pages page

-- while a snapshot is retained, no page as of it changes
abbrev pub AsOfStays : Type 0
AsOfStays = (history : History) (more : List Change) (number : ℕ) → IsConsistent history →
    AllKeepNewest (now history).base more →
    number ≤ newest (now history).base.marks → is_retained number (now (with_changes history more)).base.marks ≡ true →
    (page : ℕ) →
    pages_as_of (with_changes history more) number page ≡ pages_as_of history number page

-- the base behind a right change is right
abbrev pub StaysRight : Type 0
StaysRight = (base : Base) (change : Change) → IsBase base → WritesRise change → IsRight base change →
    IsBase (base_after base change)

-- one line more leaves its own change behind those of the lines before it
abbrev pub OneMoreLine : Type 0
OneMoreLine = (base : Base) (lines : List Line) (line : Line) →
    changes_of base (lines ++ line ∷ []) ≡ changes_of base lines ++ option_to_list
    (change_of (bases_after base (changes_of base lines)) line.what)

-- the pages of the changes of a journal are those that its committed items write
abbrev pub JournalPages : Type 0
JournalPages = (history : History) (lines : List Line) (page : ℕ) →
    (now (after_journal history lines)).pages page ≡ pages_after_journal (now history).pages lines page

-- a journal goes on: what it captured stays
abbrev pub JournalCapturesGrow : Type 0
JournalCapturesGrow = (history : History) (lines more : List Line) → IsConsistent history →
    IsSound (now history).base (lines ++ more) →
    take (length (captures (after_journal history lines))) (captures (after_journal history (lines ++ more)))
    ≡ captures (after_journal history lines)

-- the front of a sound journal is sound
abbrev pub FrontIsSound : Type 0
FrontIsSound = (base : Base) (lines more : List Line) → IsSound base (lines ++ more) → IsSound base lines

-- Behind a sound journal each pinned snapshot is retained.
abbrev pub PinnedAreRetained : Type 0
PinnedAreRetained = (base : Base) (lines : List Line) → IsSound base lines →
    AllByRecursion (λ (pin : Pin). is_retained pin.snapshot (bases_after base (changes_of base lines)).marks ≡ true)
    (pins_of base [] lines)

-- As a sound journal goes on, the oldest and the newest snapshot and the oldest start do not fall.
abbrev pub HorizonRises : Type 0
HorizonRises = (base : Base) (lines more : List Line) → IsSound base (lines ++ more) →
    let before : Base = bases_after base (changes_of base lines) in
    let after : Base = bases_after base (changes_of base (lines ++ more)) in
    (oldest before.marks ≤ oldest after.marks) × (newest before.marks ≤ newest after.marks)
    × (oldest_start before.marks ≤ oldest_start after.marks)
