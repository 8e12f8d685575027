-- What one line more tells, behind the lines before it.
use Rattle.std.specs.Prelude.{◌⊎◌, ◌↔◌, ◌≡◌, ◌≤◌, ◌<◌, ◌+◌, ◌==◌, nat_le, ℕ, Bool, true, false, List}
use Rattle.std.specs.Prelude.{[], ◌∷◌, ◌++◌, length, map, filter, Option, Some, None, if◌then◌else◌}
use Rattle.std.specs.Option.{option_or}
use Rattle.std.specs.List.{AllByRecursion}
use Rattle.retro_base.specs.declared.limits.TheConstants.{JOURNAL_LINES}
use Rattle.retro_base.specs.declared.device.Device.{Device}
use Rattle.retro_base.specs.declared.who.Who.{Who}
use Rattle.history.specs.declared.entry.Base.{Base}
use Rattle.history.specs.declared.entry.Change.TheVariants.{Commit}
use Rattle.history.specs.declared.journal.FailedCall.{FailedCall}
use Rattle.history.specs.declared.journal.Line.{Line}
use Rattle.history.specs.declared.journal.What.{What}
use Rattle.history.specs.declared.journal.What.TheVariants.{Began, Done, Looked, LookedAll}
use Rattle.history.specs.declared.journal.What.TheVariants.{Unlooked, Dropped, Refused, Fault}
use Rattle.history.specs.declared.writes.PageImage.{PageImage}
use Rattle.history.specs.Journal.{base_behind, changes_of, pages_after_journal, after_journal}
use Rattle.history.specs.Laws.{IsConsistent}
use Rattle.history.specs.Lines.{base_of, lines_of, pinned_by, images_of, images_in, open_behind, open_in}
use Rattle.history.specs.Lines.{is_open, change_by, last_change, changed_since, DeviceFault, fault_of, faults_of}
use Rattle.history.specs.Lines.{IsNewer, FaultsDiffer, is_write, stop_of, first_stop, doubt_in, doubt_of}
use Rattle.history.specs.Marks.{oldest, newest, is_retained}
use Rattle.history.specs.History.{History, now, pages_as_of}
use Rattle.history.specs.Right.{IsBase, MayFollow, AllMayFollow}
use Rattle.history.specs.Sound.{Pin, pins_behind, KeepsRules, pins_of, IsSound}
use Rattle.history.specs.Writes.{pages_of, is_among}

-- One line more is sound where there is room for it and it keeps the rules.
abbrev pub SoundWithOneMore : Type 0
SoundWithOneMore = (base : Base) (lines : List Line) (line : Line) →
    IsSound base (lines ++ line ∷ []) ↔ IsSound base lines × (length lines < JOURNAL_LINES)
    × KeepsRules (base_of base lines) (pins_of base [] lines) line.what

-- The changes that a sound journal leaves may follow one another: each is right at its place.
abbrev pub ChangesMayFollow : Type 0
ChangesMayFollow = (base : Base) (lines : List Line) → IsSound base lines → AllMayFollow base (changes_of base lines)

-- Behind a sound journal the base is right.
abbrev pub BaseStaysRight : Type 0
BaseStaysRight = (base : Base) (lines : List Line) → IsSound base lines → IsBase (base_of base lines)

-- A drop in a sound journal is below a snapshot that was declared, and below none that is pinned.
abbrev pub DropsAreBelowPins : Type 0
DropsAreBelowPins = (base : Base) (lines : List Line) (line : Line) (below : ℕ) → IsSound base (lines ++ line ∷ []) →
    line.what ≡ Dropped below →
    (0 < below) × (below ≤ newest (base_of base lines).marks)
    × AllByRecursion (λ (pin : Pin). below ≤ pin.snapshot) (pins_of base [] lines)

-- Behind a drop exactly the retained snapshots from its number on are left. One that is below none of them changes
-- nothing.
abbrev pub DropLeaves : Type 0
DropLeaves = (base : Base) (lines : List Line) (line : Line) (below : ℕ) → IsSound base (lines ++ line ∷ []) →
    line.what ≡ Dropped below →
    let before : Base = base_of base lines in
    let behind : Base = base_of base (lines ++ line ∷ []) in
    (behind.marks ≡ filter (λ mark. nat_le below mark.number) before.marks)
    × (below ≤ oldest before.marks → behind ≡ before)

-- A commit that may follow a sound journal, with room for a line, makes a sound line.
abbrev pub CommitsAreSound : Type 0
CommitsAreSound = (base : Base) (lines : List Line) (line : Line) (label : Option (List ℕ)) (writes : List PageImage) →
    IsSound base lines → length lines < JOURNAL_LINES →
    MayFollow (base_of base lines) (Commit label writes) → line.what ≡ Done label writes →
    IsSound base (lines ++ line ∷ [])

-- whether a line ends a look
abbrev pub ends_look : What → Bool
ends_look Unlooked = true
ends_look (Refused why) = true
ends_look (Fault device count call) = true
ends_look _ = false

-- What is looked at: a snapshot, or each that is retained.
abbrev pub LooksAt : Base → What → ℕ → Type 0
LooksAt base (Looked snapshot) number = snapshot ≡ number
LooksAt base LookedAll number = is_retained number base.marks ≡ true
LooksAt base _ number = ⊥

-- While a look has no end, what it looked at stays retained.
abbrev pub LookedAtStays : Type 0
LookedAtStays = (base : Base) (before more : List Line) (look : Line) (number : ℕ) →
    IsSound base (before ++ look ∷ more) → LooksAt (base_of base before) look.what number →
    AllByRecursion (λ (line : Line). line.who ≡ look.who → ends_look line.what ≡ false) more →
    is_retained number (base_of base (before ++ look ∷ more)).marks ≡ true

-- Behind a line that ends a look its item pins nothing.
abbrev pub EndedPinsNothing : Type 0
EndedPinsNothing = (base : Base) (lines : List Line) (line : Line) → ends_look line.what ≡ true →
    pinned_by line.who (pins_of base [] (lines ++ line ∷ [])) ≡ []

-- No line changes what other items pin.
abbrev pub OthersPinsStay : Type 0
OthersPinsStay = (base : Base) (lines : List Line) (line : Line) (who : Who) → (who ≡ line.who → ⊥) →
    pinned_by who (pins_of base [] (lines ++ line ∷ [])) ≡ pinned_by who (pins_of base [] lines)

-- A look pins its snapshot, and a look at all of them each that is retained there, beside what its item pinned before.
abbrev pub LooksPin : Type 0
LooksPin = (base : Base) (lines : List Line) (line : Line) →
    let before : List ℕ = pinned_by line.who (pins_of base [] lines) in
    let behind : List ℕ = pinned_by line.who (pins_of base [] (lines ++ line ∷ [])) in
    ((snapshot : ℕ) → line.what ≡ Looked snapshot → behind ≡ snapshot ∷ before)
    × (line.what ≡ LookedAll → behind ≡ map (λ mark. mark.number) (base_of base lines).marks ++ before)

abbrev pub BaseOfOneMore : Type 0
BaseOfOneMore = (base : Base) (lines : List Line) (line : Line) →
    base_of base (lines ++ line ∷ []) ≡ base_behind (base_of base lines) line

abbrev pub PinsOfOneMore : Type 0
PinsOfOneMore = (base : Base) (lines : List Line) (line : Line) →
    pins_of base [] (lines ++ line ∷ []) ≡ pins_behind (base_of base lines) (pins_of base [] lines) line.who line.what

abbrev pub LinesOfOneMore : Type 0
LinesOfOneMore = (session : ℕ) (lines : List Line) (line : Line) →
    lines_of session (lines ++ line ∷ [])
    ≡ lines_of session lines ++ (if line.who.session == session then line ∷ [] else [])

abbrev pub ImagesInOneMore : Type 0
ImagesInOneMore = (lines : List Line) (line : Line) →
    images_in (lines ++ line ∷ []) ≡ images_in lines + images_of line.what

abbrev pub OpenInOneMore : Type 0
OpenInOneMore = (lines : List Line) (line : Line) → open_in (lines ++ line ∷ []) ≡ open_behind (open_in lines) line

-- A commit adds as many images as it writes.
abbrev pub CommitsHoldImages : Type 0
CommitsHoldImages = (lines : List Line) (line : Line) (label : Option (List ℕ)) (writes : List PageImage) →
    line.what ≡ Done label writes →
    images_in (lines ++ line ∷ []) ≡ images_in lines + length writes

-- No other line adds one.
abbrev pub OthersHoldNoImages : Type 0
OthersHoldNoImages = (lines : List Line) (line : Line) →
    ((label : Option (List ℕ)) (writes : List PageImage) → line.what ≡ Done label writes → ⊥) →
    images_in (lines ++ line ∷ []) ≡ images_in lines

-- what begins an item: a transaction, a look at a snapshot, or one at all of them
abbrev pub IsBeginning : What → Type 0
IsBeginning what = (what ≡ Began) ⊎ ((snapshot : ℕ) × (what ≡ Looked snapshot)) ⊎ (what ≡ LookedAll)

-- no line is of this item
abbrev pub NoLineOf : Who → List Line → Type 0
NoLineOf who lines = AllByRecursion (λ (line : Line). line.who ≡ who → ⊥) lines

-- An item is open exactly where its last line begins it.
abbrev pub OpenWhereLastBegins : Type 0
OpenWhereLastBegins = (before more : List Line) (line : Line) → NoLineOf line.who more →
    (is_open line.who (open_in (before ++ line ∷ more)) ≡ true) ↔ IsBeginning line.what

-- An item without a line is not open.
abbrev pub OpenByALine : Type 0
OpenByALine = (who : Who) (lines : List Line) → NoLineOf who lines → is_open who (open_in lines) ≡ false

abbrev pub LastChangeInOneMore : Type 0
LastChangeInOneMore = (who : Who) (page : ℕ) (lines : List Line) (line : Line) →
    last_change who page (lines ++ line ∷ []) ≡ option_or (change_by who page line) (last_change who page lines)

abbrev pub FirstStopInOneMore : Type 0
FirstStopInOneMore = (lines : List Line) (line : Line) →
    first_stop (lines ++ line ∷ []) ≡ option_or (first_stop lines) (stop_of line.what)

abbrev pub DoubtInOneMore : Type 0
DoubtInOneMore = (lines : List Line) (line : Line) →
    doubt_in (lines ++ line ∷ []) ≡ option_or (doubt_in lines) (doubt_of line.what)

-- So it is since a place among the lines before.
abbrev pub ChangedSinceInOneMore : Type 0
ChangedSinceInOneMore = (who : Who) (page place : ℕ) (lines : List Line) (line : Line) → place ≤ length lines →
    changed_since who page place (lines ++ line ∷ []) ≡ option_or (change_by who page line)
    (changed_since who page place lines)

-- A commit of another item that writes the page is its last change.
abbrev pub CommitIsLastChange : Type 0
CommitIsLastChange =
    (who : Who) (page : ℕ) (lines : List Line) (line : Line) (label : Option (List ℕ)) (writes : List PageImage) →
    (line.who ≡ who → ⊥) → line.what ≡ Done label writes → is_among page (pages_of writes) ≡ true →
    last_change who page (lines ++ line ∷ []) ≡ Some line.who

-- no line is a commit of this item
abbrev pub NoCommitOf : Who → List Line → Type 0
NoCommitOf who lines =
    AllByRecursion
    (λ (line : Line). (label : Option (List ℕ)) (writes : List PageImage) → line.who ≡ who →
    line.what ≡ Done label writes → ⊥) lines

-- A page that neither another item nor a commit of this one changed is as it was.
abbrev pub UnchangedStays : Type 0
UnchangedStays = (pages : ℕ → List ℕ) (who : Who) (page : ℕ) (more : List Line) → last_change who page more ≡ None →
    NoCommitOf who more →
    pages_after_journal pages more page ≡ pages page

-- no line tells a fault that a write or a sync met
abbrev pub NoStop : List Line → Type 0
NoStop lines =
    AllByRecursion
    (λ (line : Line). (device : Device) (count : ℕ) (call : FailedCall) → line.what ≡ Fault device count call →
    is_write call ≡ true → ⊥) lines

-- There is no first such fault exactly where no line tells one.
abbrev pub NoneStops : Type 0
NoneStops = (lines : List Line) → (first_stop lines ≡ None) ↔ NoStop lines

-- It is the one behind lines that tell none, by its device and its count.
abbrev pub FirstStops : Type 0
FirstStops = (before more : List Line) (line : Line) (device : Device) (count : ℕ) (call : FailedCall) → NoStop before →
    line.what ≡ Fault device count call → is_write call ≡ true →
    first_stop (before ++ line ∷ more) ≡ Some (record { device = device; count = count })

-- Where no line tells such a fault, none tells a change in doubt.
abbrev pub OnlyStopsLeaveDoubt : Type 0
OnlyStopsLeaveDoubt = (lines : List Line) → first_stop lines ≡ None → doubt_in lines ≡ None

abbrev pub FaultsOfOneMore : Type 0
FaultsOfOneMore = (device : Device) (lines : List Line) (line : Line) →
    faults_of device (lines ++ line ∷ []) ≡ faults_of device lines ++ fault_of device line.who line.what

-- With one line more the faults differ where they did before and that line's is newer than each of its device.
abbrev pub FaultsDifferInOneMore : Type 0
FaultsDifferInOneMore = (lines : List Line) (line : Line) →
    FaultsDiffer (lines ++ line ∷ []) ↔ FaultsDiffer lines
    × ((device : Device) →
    AllByRecursion (λ (fault : DeviceFault). AllByRecursion (IsNewer fault) (fault_of device line.who line.what))
    (faults_of device lines))

-- The faults of a journal's front differ where those of the journal do.
abbrev pub FaultsOfFrontDiffer : Type 0
FaultsOfFrontDiffer = (lines more : List Line) → FaultsDiffer (lines ++ more) → FaultsDiffer lines

-- While a snapshot is retained, a page as of it is the page behind the line that declared it, whatever lines follow.
abbrev pub PageOfTheDeclaringLine : Type 0
PageOfTheDeclaringLine =
    (history : History) (before more : List Line) (declaring : Line) (label : List ℕ) (writes : List PageImage) →
    let base : Base = (now history).base in
    let lines : List Line = before ++ declaring ∷ more in
    let number : ℕ = newest (base_of base before).marks + 1 in
    IsConsistent history → IsSound base lines → declaring.what ≡ Done (Some label) writes →
    is_retained number (base_of base lines).marks ≡ true →
    (page : ℕ) →
    pages_as_of (after_journal history lines) number page
    ≡ (now (after_journal history (before ++ declaring ∷ []))).pages page

-- While a snapshot is retained, no page as of it changes with the lines that follow.
abbrev pub PagesAsOfStay : Type 0
PagesAsOfStay = (history : History) (lines more : List Line) (number : ℕ) →
    let base : Base = (now history).base in
    IsConsistent history → IsSound base (lines ++ more) → number ≤ newest (base_of base lines).marks →
    is_retained number (base_of base (lines ++ more)).marks ≡ true →
    (page : ℕ) →
    pages_as_of (after_journal history (lines ++ more)) number page
    ≡ pages_as_of (after_journal history lines) number page
