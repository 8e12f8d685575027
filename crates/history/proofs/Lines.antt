-- What one line more tells.
use Rattle.std.proofs.Common.{◌≡◌, ◌≤◌, ◌+◌, ◌∙◌, ℕ, Bool, true, false, cond, eqb, List, [], ◌∷◌, ◌++◌, drop, Option, Some, None, refl, sym, ap, subst, arith, append_assoc}
use Rattle.std.specs.List.{AllByRecursion}
use Rattle.std.specs.Option.{option_or, option_to_list}
use Rattle.std.proofs.lemmas.List.{append-nil, drop-append-le}
use Rattle.retro_base.specs.declared.device.Device.{Device}
use Rattle.retro_base.specs.declared.who.Who.{Who}
use Rattle.history.specs.declared.entry.Base.{Base}
use Rattle.history.specs.declared.entry.Change.{Change}
use Rattle.history.specs.declared.entry.Change.TheVariants.{Commit}
use Rattle.history.specs.declared.journal.Line.{Line}
use Rattle.history.specs.declared.journal.What.{What}
use Rattle.history.specs.declared.journal.What.TheVariants.{Began, Done, Overlapped, RolledBack, Looked, LookedAll, Unlooked, Dropped, Refused, Fault}
use Rattle.history.specs.declared.stop.Stop.{Stop}
use Rattle.history.specs.History.{bases_after, base_after, State, History, now, with_change, with_changes, pages_as_of}
use Rattle.history.specs.Journal.{change_of, changes_of, base_behind, after_journal}
use Rattle.history.specs.Laws.{AllKeepNewest}
use Rattle.history.specs.LineLaws.{BaseOfOneMore, PinsOfOneMore, LinesOfOneMore, ImagesInOneMore, OpenInOneMore, LastChangeInOneMore, ChangedSinceInOneMore, DoubtInOneMore, FirstStopInOneMore, FaultsOfOneMore, FaultsDifferInOneMore, FaultsOfFrontDiffer, PageOfTheDeclaringLine, PagesAsOfStay}
use Rattle.history.specs.Lines.{base_of, lines_of, open_behind, open_from, change_by, last_change, DeviceFault, same_device, fault_of, faults_of, IsNewer, AreNewer, stop_of, first_stop, doubt_in, doubt_of}
use Rattle.history.specs.Marks.{newest, is_retained}
use Rattle.history.specs.Sound.{Pin, pins_behind, pins_of}
use Rattle.history.proofs.AsOf.{as_of_the_declaration, as_of_stays, base_behind_all}
use Rattle.history.proofs.Captures.{now-with, with_changes-step}
use Rattle.history.proofs.Consistent.{stays_consistent}
use Rattle.history.proofs.Journals.{bases-append, changes-append, journal_keeps, newest-split, with_changes-append}

-- the base behind a journal that goes on
pub base_of-append : (base : Base) (lines more : List Line) → base_of base (lines ++ more) ≡ base_of (base_of base lines) more
base_of-append base lines more = ap (bases_after base) (changes-append base lines more) ∙ bases-append base (changes_of base lines) (changes_of (base_of base lines) more)

pub base_of_one_more : BaseOfOneMore
base_of_one_more base lines line = base_of-append base lines (line ∷ []) ∙ ap (bases_after (base_of base lines)) (append-nil (option_to_list (change_of (base_of base lines) line.what)))

pub pins-append : (base : Base) (pins : List Pin) (lines more : List Line) → pins_of base pins (lines ++ more) ≡ pins_of (base_of base lines) (pins_of base pins lines) more
pins-append base pins [] more = refl
pins-append base pins (line ∷ lines) more =
    let next : Base = base_behind base line in
    let later : List Pin = pins_behind base pins line.who line.what in
    pins-append next later lines more ∙ ap (λ (b : Base). pins_of b (pins_of next later lines) more) (sym (bases-append base (option_to_list (change_of base line.what)) (changes_of next lines)))

pub pins_of_one_more : PinsOfOneMore
pins_of_one_more base lines line = pins-append base [] lines (line ∷ [])

lines-append : (session : ℕ) (lines more : List Line) → lines_of session (lines ++ more) ≡ lines_of session lines ++ lines_of session more
lines-append session [] more = refl
lines-append session (line ∷ lines) more = go (eqb line.who.session session) (lines-append session lines more) where
  go : (b : Bool) → lines_of session (lines ++ more) ≡ lines_of session lines ++ lines_of session more
      → cond b (line ∷ lines_of session (lines ++ more)) (lines_of session (lines ++ more)) ≡ cond b (line ∷ lines_of session lines) (lines_of session lines) ++ lines_of session more
  go true again = ap (λ (l : List Line). line ∷ l) again
  go false again = again

pub lines_of_one_more : LinesOfOneMore
lines_of_one_more session lines line = lines-append session lines (line ∷ [])

pub images_in_one_more : ImagesInOneMore
images_in_one_more [] line = omega arith
images_in_one_more (first ∷ lines) line = omega (arith, images_in_one_more lines line)

pub open-append : (items : List Who) (lines more : List Line) → open_from items (lines ++ more) ≡ open_from (open_from items lines) more
open-append items [] more = refl
open-append items (line ∷ lines) more = open-append (open_behind items line) lines more

pub open_in_one_more : OpenInOneMore
open_in_one_more lines line = open-append [] lines (line ∷ [])

or-assoc : {X : Type 0} (a b c : Option X) → option_or (option_or a b) c ≡ option_or a (option_or b c)
or-assoc None b c = refl
or-assoc (Some x) b c = refl

or-none : {X : Type 0} (a : Option X) → option_or a None ≡ a
or-none None = refl
or-none (Some x) = refl

pub last_change_in_one_more : LastChangeInOneMore
last_change_in_one_more who page [] line = sym (or-none (change_by who page line))
last_change_in_one_more who page (first ∷ lines) line =
    ap (λ (o : Option Who). option_or o (change_by who page first)) (last_change_in_one_more who page lines line) ∙ or-assoc (change_by who page line) (last_change who page lines) (change_by who page first)

pub changed_since_in_one_more : ChangedSinceInOneMore
changed_since_in_one_more who page place lines line le = ap (last_change who page) (drop-append-le place lines (line ∷ []) le) ∙ last_change_in_one_more who page (drop place lines) line

pub first_stop_in_one_more : FirstStopInOneMore
first_stop_in_one_more [] line = or-none (stop_of line.what)
first_stop_in_one_more (first ∷ lines) line =
    ap (λ (o : Option Stop). option_or (stop_of first.what) o) (first_stop_in_one_more lines line) ∙ sym (or-assoc (stop_of first.what) (first_stop lines) (stop_of line.what))

pub doubt_in_one_more : DoubtInOneMore
doubt_in_one_more [] line = or-none (doubt_of line.what)
doubt_in_one_more (first ∷ lines) line =
    ap (λ (o : Option Change). option_or (doubt_of first.what) o) (doubt_in_one_more lines line) ∙ sym (or-assoc (doubt_of first.what) (doubt_in lines) (doubt_of line.what))

-- ---- faults

faults-append : (device : Device) (lines more : List Line) → faults_of device (lines ++ more) ≡ faults_of device lines ++ faults_of device more
faults-append device [] more = refl
faults-append device (line ∷ lines) more =
    ap (λ (l : List DeviceFault). fault_of device line.who line.what ++ l) (faults-append device lines more) ∙ sym (append_assoc (fault_of device line.who line.what) (faults_of device lines) (faults_of device more))

pub faults_of_one_more : FaultsOfOneMore
faults_of_one_more device lines line = faults-append device lines (line ∷ []) ∙ ap (λ (l : List DeviceFault). faults_of device lines ++ l) (append-nil (fault_of device line.who line.what))

all-split : {X : Type 0} (P : X → Type 0) (xs ys : List X) → AllByRecursion P (xs ++ ys) → AllByRecursion P xs × AllByRecursion P ys
all-split P [] ys all = (tt, all)
all-split P (x ∷ xs) ys all = let rest = all-split P xs ys all.1 in ((all.0, rest.0), rest.1)

all-join : {X : Type 0} (P : X → Type 0) (xs ys : List X) → AllByRecursion P xs → AllByRecursion P ys → AllByRecursion P (xs ++ ys)
all-join P [] ys all every = every
all-join P (x ∷ xs) ys all every = (all.0, all-join P xs ys all.1 every)

newer-split : (xs ys : List DeviceFault) → AreNewer (xs ++ ys) → AreNewer xs × AllByRecursion (λ (fault : DeviceFault). AllByRecursion (IsNewer fault) ys) xs
newer-split [] ys all = (tt, tt)
newer-split (x ∷ xs) ys all =
    let here = all-split (IsNewer x) xs ys all.0 in
    let rest = newer-split xs ys all.1 in
    ((here.0, rest.0), (here.1, rest.1))

newer-join : (xs ys : List DeviceFault) → AreNewer xs → AllByRecursion (λ (fault : DeviceFault). AllByRecursion (IsNewer fault) ys) xs → AreNewer ys → AreNewer (xs ++ ys)
newer-join [] ys all every more = more
newer-join (x ∷ xs) ys all every more = (all-join (IsNewer x) xs ys all.0 every.0, newer-join xs ys all.1 every.1 more)

one_alone : (device : Device) (who : Who) (what : What) → AreNewer (fault_of device who what)
one_alone device who Began = tt
one_alone device who (Done label writes) = tt
one_alone device who (Overlapped session item) = tt
one_alone device who RolledBack = tt
one_alone device who (Looked snapshot) = tt
one_alone device who LookedAll = tt
one_alone device who Unlooked = tt
one_alone device who (Dropped below) = tt
one_alone device who (Refused why) = tt
one_alone device who (Fault other count call) = go (same_device other device) where
  go : (b : Bool) → AreNewer (cond b (record { session = who.session; count = count } ∷ []) [])
  go true = (tt, tt)
  go false = tt

pub faults_of_front_differ : FaultsOfFrontDiffer
faults_of_front_differ lines more all = λ device. (newer-split (faults_of device lines) (faults_of device more) (subst AreNewer (faults-append device lines more) (all device))).0

pub faults_differ_in_one_more : FaultsDifferInOneMore
faults_differ_in_one_more lines line = (
  λ all. (
    faults_of_front_differ lines (line ∷ []) all,
    λ device. (newer-split (faults_of device lines) (fault_of device line.who line.what) (subst AreNewer (faults_of_one_more device lines line) (all device))).1,
  ),
  λ both. λ device. subst AreNewer (sym (faults_of_one_more device lines line)) (newer-join (faults_of device lines) (fault_of device line.who line.what) (both.0 device) (both.1 device) (one_alone device line.who line.what)),
)

-- ---- pages as of a snapshot

pub after-append : (history : History) (lines more : List Line) → after_journal history (lines ++ more) ≡ with_changes (after_journal history lines) (changes_of (base_of (now history).base lines) more)
after-append history lines more =
    let base : Base = (now history).base in
    ap (with_changes history) (changes-append base lines more) ∙ with_changes-append history (changes_of base lines) (changes_of (base_of base lines) more)

pub base_after_journal : (history : History) (lines : List Line) → (now (after_journal history lines)).base ≡ base_of (now history).base lines
base_after_journal history lines = base_behind_all history (changes_of (now history).base lines)

pub pages_as_of_stay : PagesAsOfStay
pages_as_of_stay history lines more number fine sound le kept page =
    let base : Base = (now history).base in
    let first : List Change = changes_of base lines in
    let second : List Change = changes_of (base_of base lines) more in
    let there : History = after_journal history lines in
    let whole : after_journal history (lines ++ more) ≡ with_changes there second = after-append history lines more in
    let keeps : AllKeepNewest base (first ++ second) = subst (AllKeepNewest base) (changes-append base lines more) (journal_keeps base [] (lines ++ more) sound.keeps) in
    let both = newest-split base first second keeps in
    let middle : (now there).base ≡ base_of base lines = base_after_journal history lines in
    let up : number ≤ newest (now there).base.marks = omega (arith, le, ap (λ (b : Base). newest b.marks) middle) in
    let behind : is_retained number (now (with_changes there second)).base.marks ≡ true =
    ap (λ (h : History). is_retained number (now h).base.marks) (sym whole) ∙ ap (λ (b : Base). is_retained number b.marks) (base_after_journal history (lines ++ more)) ∙ kept in
    ap (λ (h : History). pages_as_of h number page) whole
    ∙ as_of_stays there second number (stays_consistent history first fine both.0) (subst (λ (b : Base). AllKeepNewest b second) (sym middle) both.1) up behind page

pub page_of_the_declaring_line : PageOfTheDeclaringLine
page_of_the_declaring_line history before more declaring label writes fine sound is kept page =
    let base : Base = (now history).base in
    let b : Base = base_of base before in
    let there : History = after_journal history before in
    let change : Change = Commit (Some label) writes in
    let step : History = with_change there change in
    let rest : List Change = changes_of (base_after b change) more in
    let left : option_to_list (change_of b declaring.what) ≡ change ∷ [] = ap (λ (w : What). option_to_list (change_of b w)) is in
    let second : changes_of b (declaring ∷ more) ≡ change ∷ rest =
    ap (λ (l : List Change). l ++ changes_of (base_behind b declaring) more) left ∙ ap (λ (l : List Change). change ∷ changes_of (bases_after b l) more) left in
    let whole : after_journal history (before ++ declaring ∷ more) ≡ with_changes step rest =
    after-append history before (declaring ∷ more) ∙ ap (with_changes there) second ∙ with_changes-step there change rest in
    let declared : after_journal history (before ++ declaring ∷ []) ≡ step =
    after-append history before (declaring ∷ []) ∙ ap (with_changes there) (append-nil (option_to_list (change_of b declaring.what)) ∙ left) in
    let keeps : AllKeepNewest base (changes_of base before ++ changes_of b (declaring ∷ more)) = subst (AllKeepNewest base) (changes-append base before (declaring ∷ more)) (journal_keeps base [] (before ++ declaring ∷ more) sound.keeps) in
    let both = newest-split base (changes_of base before) (changes_of b (declaring ∷ more)) keeps in
    let later : AllKeepNewest (base_after b change) rest = (subst (AllKeepNewest b) second both.1).1 in
    let middle : (now there).base ≡ b = base_after_journal history before in
    let behind : (now step).base ≡ base_after b change = ap (λ (s : State). s.base) (now-with there change) ∙ ap (λ (x : Base). base_after x change) middle in
    let number : newest b.marks + 1 ≡ newest (now there).base.marks + 1 = ap (λ (x : Base). newest x.marks + 1) (sym middle) in
    let kept_there : is_retained (newest (now there).base.marks + 1) (now (with_changes step rest)).base.marks ≡ true =
    ap (λ (h : History). is_retained (newest (now there).base.marks + 1) (now h).base.marks) (sym whole)
    ∙ ap (λ (x : Base). is_retained (newest (now there).base.marks + 1) x.marks) (base_after_journal history (before ++ declaring ∷ more))
    ∙ ap (λ (n : ℕ). is_retained n (base_of base (before ++ declaring ∷ more)).marks) (sym number)
    ∙ kept in
    ap (λ (h : History). pages_as_of h (newest b.marks + 1) page) whole
    ∙ ap (λ (n : ℕ). pages_as_of (with_changes step rest) n page) number
    ∙ as_of_the_declaration there label writes rest (stays_consistent history (changes_of base before) fine both.0) (subst (λ (x : Base). AllKeepNewest x rest) (sym behind) later) kept_there page
    ∙ ap (λ (h : History). (now h).pages page) (sym declared)
