-- The run of a plan over the four devices of a store, at which each session has a seat of its own.
use Rattle.std.specs.Prelude.{◌≡◌, ◌⊎◌, ◌<◌, ◌≤◌, ◌++◌, ℕ, true, false, List, [], ◌∷◌, length}
use Rattle.std.specs.Prelude.{max, slice_get, Option, Some, None, Result, Ok, IfErr, IfOk}
use Rattle.std.specs.List.{AllByRecursion}
use Rattle.atomic_table.specs.Seated.{TableId}
use Rattle.disk_model.specs.Disk.{State}
use Rattle.disk_model.specs.Moments.{Clock}
use Rattle.disk_model.specs.declared.four.Four.{Four}
use Rattle.retro_base.specs.declared.device.Device.{Device}
use Rattle.retro_base.specs.declared.limits.TheConstants.{SESSIONS}
use Rattle.retro_base.specs.declared.refusal.Refusal.{Refusal}
use Rattle.retro_base.specs.declared.who.Who.{Who}
use Rattle.history.specs.declared.entry.Base.{Base}
use Rattle.history.specs.declared.entry.Change.{Change}
use Rattle.history.specs.declared.journal.Line.{Line}
use Rattle.history.specs.declared.log.Version.TheVariants.{One}
use Rattle.history.specs.History.{base_after, now}
use Rattle.history.specs.Lines.{base_of, doubt_in, doubt_of}
use Rattle.opening.specs.Devices.{AreHonest, AreImages, AreUnwritten, IsUnopened, of_each, SameCounts, seen_of}
use Rattle.opening.specs.Opening.{Hold}
use Rattle.replay.specs.Joined.{AreJoined}
use Rattle.replay.specs.Opened.{Contents, opened}
use Rattle.journal_law.specs.Language.{after_of}
use Rattle.journal_law.specs.Lawful.{Ground, Opening}
use Rattle.journal_law.specs.Pages.{page_world}
use Rattle.journal_law.specs.Seats.{Idle, View}
use Rattle.journal_law.specs.Shows.{Shows, world}
use Rattle.journal_law.specs.World.{World, behind, newest}
use Rattle.tables.specs.Tables.{Tables}
use Rattle.session.specs.Plan.{Item, Plan, item_of}
use Rattle.session.specs.Replies.{kept_by_place, printed}
use Rattle.session.specs.Sql.{sql}
use Rattle.session.specs.declared.kept.Kept.{Kept}
use Rattle.turn.specs.Seats.{mine, seen}
use Rattle.turn.specs.Tables.{table_of}
use Rattle.store.specs.Closing.{HasNoCopier, IsPending, resting}
use Rattle.store.specs.Crashes.{CrashesMap}
use Rattle.store.specs.Opening.{AreRefused}
use Rattle.store.specs.Seats.{IsSized, Sat}
use Rattle.store.specs.Recovery.{CrashesShow, what_of}
use Rattle.store.specs.Seen.{view_of}
use Rattle.store.specs.WorkerRounds.{IsFreshOrStopped}
use Rattle.store.specs.Worlds.{IsWorldOf}
use Rattle.store.specs.declared.held.Held.{Held}
use Rattle.retro.specs.Phases.{LeftLawful, RepliedOver}
use Rattle.retro.specs.Slots.{SitsAt}
use Rattle.retro.specs.Steps.{RunsPhases}
use Rattle.retro.specs.declared.slots.Slot.{Slot}
use Rattle.retro.specs.declared.storing.Ended.{Ended}

-- ---- what a run leaves

-- The devices hold contents that belong together, and what the store was opened with is what readers see of them.
pub record OpenAs (devices : Four (List ℕ)) (ground : Ground) : Type 0 where
  pub contents : Contents
  pub hold : Hold One devices contents
  pub joined : AreJoined contents
  pub base : (now (opened contents)).base ≡ ground.base
  pub shown : IsWorldOf (opened contents) ground.pages

-- A store that is opened from whatever a crash leaves of the devices has so many pages, which show tables of this kind.
abbrev pub OpensShowing : {D : Type 0} → (D → State) → ℕ → (World Tables → Type 0) → Four D → Type 0
OpensShowing state size AreIt disks =
    (devices : Four (List ℕ)) (ground : Ground) → AreImages state disks devices → OpenAs devices ground →
    (ground.base.page_count ≡ size) × (tables : World Tables) × AreIt tables × Shows (sql size) ground.pages tables

-- the base that was found is this one, or that behind the change in doubt
abbrev pub IsBaseOf : Base → Base → Option Change → Type 0
IsBaseOf found base None = found ≡ base
IsBaseOf found base (Some change) = (found ≡ base) ⊎ (found ≡ base_after base change)

-- What is opened from whatever a crash leaves of the devices has this base, so its sizes, its captures and its marks
-- with their starts, or that behind the change in doubt.
abbrev pub OpensAt : {D : Type 0} → (D → State) → Base → Option Change → Four D → Type 0
OpensAt state base doubt disks = (devices : Four (List ℕ)) (ground : Ground) → AreImages state disks devices →
    OpenAs devices ground → IsBaseOf ground.base base doubt

-- The tables behind a journal and a change that one of its lines tells to be in doubt: a commit leaves those behind the
-- statements of that line's item, and a drop the snapshots from its number on.
pub record AreBehindDoubt (size : ℕ) (items : Who → Option Item) (opening : World Tables) (journal : List Line)
    (tables : World Tables) : Type 0 where
  pub before : List Line
  pub after : List Line
  pub line : Line
  pub place : journal ≡ before ++ line ∷ after
  pub change : Change
  pub doubt : doubt_of line.what ≡ Some change
  pub is : tables ≡ behind
      (after_of (sql size) (items line.who) (world (sql size) items opening before).current) (what_of change)
      (world (sql size) items opening journal)

-- the tables that a run leaves to the next: those behind its journal, or also behind the change in doubt
abbrev pub AreLeft : ℕ → (Who → Option Item) → World Tables → List Line → World Tables → Type 0
AreLeft size items opening journal tables =
    (tables ≡ world (sql size) items opening journal) ⊎ AreBehindDoubt size items opening journal tables

-- with these tables on the pages
abbrev pub opening_with : (ground : Ground) → World Tables → Opening (sql ground.base.page_count)
opening_with ground tables = record { opened = ground; tables = tables }

-- the transcript of a run of a plan, by what it replied
pub record IsPrinted (plan : Plan) (ended : Ended) (text : List ℕ) : Type 0 where
  pub kept : List (List (List Kept))
  pub kept_is : ended.kept ≡ Ok kept
  pub text_is : text ≡ printed plan (kept_by_place kept) ended.newest ended.journal

-- From whatever tables its pages held, the run left this journal, which is lawful, and tells what was replied to each
-- item.
pub record HasRunOver (plan : Plan) (ground : Ground) (ending : Device → ℕ) (ended : Ended) : Type 0 where
  pub lawful : (tables : World Tables) → Shows (sql ground.base.page_count) ground.pages tables →
      LeftLawful ground.base.page_count plan (opening_with ground tables) ending ended.journal
  pub replied : (tables : World Tables) → Shows (sql ground.base.page_count) ground.pages tables →
      IfOk ended.kept
      (λ kept. RepliedOver ground.base.page_count plan (opening_with ground tables) ending ended.journal
      (kept_by_place kept))

-- What a run over a store leaves, from the devices so as they were to those that came back. Where they tell what they
-- hold, the store was opened with what they held, and whatever a crash leaves of them shows the pages behind the
-- journal, or behind the one change in doubt, and so the next run begins; and where all is copied, its Maplog ends with
-- the last capture.
pub record Leaves {D : Type 0} (faults : D → ℕ) (is_honest : D → Type 0) (state : D → State) (plan : Plan)
    (first last : Four D) (ended : Ended) : Type 0 where
  pub ground : Ground
  pub counts : SameCounts (of_each faults first) ground.faults
  pub opens : AreHonest is_honest first → OpenAs (seen_of state first) ground
  pub ran : AreHonest is_honest first → HasRunOver plan ground (of_each faults last) ended
  pub honest : AreHonest is_honest first → AreHonest is_honest last
  pub newest_is : ended.newest ≡ newest ground.pages
  pub captures_are : ended.captures ≡ (base_of ground.base ended.journal).captures
  pub crashes : AreHonest is_honest first →
      CrashesShow state One (page_world ground.pages ended.journal) ended.journal last
  pub base : AreHonest is_honest first →
      OpensAt state (base_of ground.base ended.journal) (doubt_in ended.journal) last
  pub next : AreHonest is_honest first → (tables : World Tables) →
      Shows (sql ground.base.page_count) ground.pages tables → OpensShowing state ground.base.page_count
      (AreLeft ground.base.page_count (item_of plan) tables ended.journal) last
  pub maps : AreHonest is_honest first → ended.copied ≡ true →
      CrashesMap state One (base_of ground.base ended.journal).captures last

-- the phase of a run's last copying: the last of its plan, or 1 where it has none
abbrev pub last_phase : Plan → ℕ
last_phase plan = max 1 (length plan)

-- Why captures of a run may be in the log alone: the journal tells a fault of a write or a sync; or the rounds of the
-- last copying, for which the copier had its seat, were refused for want of memory, or because the archive had stopped.
pub record IsUncopied {D : Type 0} (faults : D → ℕ) (is_honest : D → Type 0) (remembers : Type 0) (state : D → State)
    (clock : D → Clock) (phase : ℕ) (lines : List Line) : Type 0 where
  pub z : TableId
  pub old : List (Sat D)
  pub new : List (Sat D)
  pub copier : HasNoCopier old → ⊥
  pub cause : IsPending is_honest state faults z remembers clock phase old new lines

-- The devices did not open, and nothing was written on them; or a plan was run over their store, whose captures are all
-- copied but for such a cause.
pub record RunsOn {D : Type 0} (extent faults : D → ℕ) (is_honest : D → Type 0) (remembers : Type 0) (state : D → State)
    (clock : D → Clock) (plan : Plan) (first last : Four D) (result : Result Ended Refusal) : Type 0 where
  pub unwritten : IfErr result (λ why. AreUnwritten extent is_honest remembers state clock first last)
  pub unopened : IfErr result
      (λ why. IsUnopened (AreRefused extent is_honest state One first) (of_each faults first) (of_each faults last) why)
  pub leaves : IfOk result (Leaves faults is_honest state plan first last)
  pub pending : IfOk result (λ ended. AreHonest is_honest first → ended.copied ≡ false →
      IsUncopied faults is_honest remembers state clock (last_phase plan) ended.journal)

-- ---- seats in their slots

abbrev pub store_of : {R D : Type 0} → Held R D → TableId
store_of held = table_of held.store.now.turn

abbrev pub view_held : {R D : Type 0} → (D → State) → (D → ℕ) → Held R D → View
view_held state faults held = view_of state faults held.asked held.told.items held.seat

-- They are the seats of a store of so many pages that was just opened, each at the place of its number.
abbrev pub AreFresh : {D : Type 0} → ℕ → List (Sat D) → Type 0
AreFresh {D} pages seats = (k : ℕ) (s : Sat D) → slice_get seats k ≡ Some s → IsSized pages s × (s.number ≡ k)
    × ((mine s).work ≡ None) × (seen s ≡ [])

-- a store is held with this seat, and nothing is open
pub record IsHeld {R D : Type 0} (state : D → State) (faults : D → ℕ) (z : TableId) (seat : Sat D)
    (held : Held R D) : Type 0 where
  pub seat_is : held.seat ≡ seat
  pub store_is : store_of held ≡ z
  pub number_is : (view_held state faults held).session ≡ seat.number
  pub front_is : (view_held state faults held).front ≡ seen seat
  pub idle : (view_held state faults held).work ≡ Idle

-- each of these seats, in its slot
abbrev pub AreHeld : {R D : Type 0} → (D → State) → (D → ℕ) → TableId → List (Sat D) → List (Slot (Held R D)) → Type 0
AreHeld state faults z [] [] = Unit {0}
AreHeld {R} {D} state faults z (seat ∷ seats) (slot ∷ slots) =
    ((held : Held R D) × (slot.seat ≡ Some held) × IsHeld state faults z seat held) × AreHeld state faults z seats slots
AreHeld state faults z seats slots = ⊥

-- Nothing is open at the seat; and where it is one behind those of the sessions, a worker may run at it.
abbrev pub MayRest : {D : Type 0} → (D → State) → (D → ℕ) → Sat D → Type 0
MayRest state faults s =
    ((mine s).work ≡ None) × (SESSIONS ≤ s.number → IsFreshOrStopped (resting state faults s))

abbrev pub AllRest : {D : Type 0} → (D → State) → (D → ℕ) → List (Sat D) → Type 0
AllRest {D} state faults seats = (k : ℕ) (s : Sat D) → slice_get seats k ≡ Some s → MayRest state faults s

-- No slot is free, and each seat is one of this store's, and rests.
abbrev pub AreIn : {R D : Type 0} → (D → State) → (D → ℕ) → TableId → List (Slot (Held R D)) → Type 0
AreIn {R} {D} state faults z slots =
    AllByRecursion (λ slot. (held : Held R D) × (slot.seat ≡ Some held) × (store_of held ≡ z)
    × MayRest state faults held.seat) slots

-- the seat in the slot of this number is among these
abbrev pub IsAmong : {R D : Type 0} → List (Slot (Held R D)) → List (Sat D) → ℕ → Type 0
IsAmong {R} {D} slots seats number = (held : Held R D) → SitsAt slots number held → (k : ℕ)
    × (slice_get seats k ≡ Some held.seat)

-- each of these seats is that in the slot of some number
abbrev pub AreOf : {R D : Type 0} → List (Slot (Held R D)) → List (Sat D) → Type 0
AreOf {R} {D} slots seats = (k : ℕ) (s : Sat D) → slice_get seats k ≡ Some s →
    (number : ℕ) × (held : Held R D) × SitsAt slots number held × (held.seat ≡ s)

-- the seat of this number is among these, rests, and sees so
pub record HasStood {D : Type 0} (state : D → State) (faults : D → ℕ) (seats : List (Sat D)) (number : ℕ)
    (view : View) : Type 0 where
  pub seat : Sat D
  pub place : ℕ
  pub there : slice_get seats place ≡ Some seat
  pub number_is : seat.number ≡ number
  pub view_is : view ≡ resting state faults seat

-- The seats of a store come from a run over this ground, of which this was kept.
pub record ComeFrom {D E : Type 0} (state : D → State) (faults : D → ℕ) (plan : Plan) (ground : Ground) (count : ℕ)
    (seats : List (Sat D)) (kept : Result (List (List (List Kept))) E) : Type 0 where
  pub views : ℕ → View
  pub each : (number : ℕ) → number < count → HasStood state faults seats number (views number)
  pub places : (k : ℕ) (s : Sat D) → slice_get seats k ≡ Some s →
      (number : ℕ) × (number < count) × (views number ≡ resting state faults s)
  pub runs : RunsPhases plan ground count views kept
