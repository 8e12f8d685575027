-- A seat of a store, as sessions see it.
use Rattle.std.specs.Prelude.{◌≡◌, ◌+◌, ◌<◌, ℕ, List, [], ◌∷◌, ◌++◌, drop, map}
use Rattle.std.specs.Prelude.{reverse, take, Option, Some, None, IfSome, Contains}
use Rattle.disk_model.specs.Disk.{State}
use Rattle.retro_base.specs.declared.device.Device.{Device}
use Rattle.retro_base.specs.declared.refusal.Refusal.{Refusal}
use Rattle.retro_base.specs.declared.refusal.Refusal.TheVariants.{DiskFault}
use Rattle.retro_base.specs.declared.who.Who.{Who}
use Rattle.history.specs.declared.journal.Line.{Line}
use Rattle.history.specs.declared.journal.What.TheVariants.{Began}
use Rattle.history.specs.Lines.{base_of, lines_of}
use Rattle.journal_book.specs.declared.work.Look.{Look}
use Rattle.journal_book.specs.declared.work.Transaction.{Transaction}
use Rattle.journal_book.specs.declared.work.Work.{Work}
use Rattle.journal_book.specs.declared.work.Work.TheVariants as work
use Rattle.journal_book.specs.Works.{who_of}
use Rattle.journal_law.specs.Lawful.{Ground}
use Rattle.journal_law.specs.Own.{line}
use Rattle.journal_law.specs.Seats as seat
use Rattle.journal_law.specs.Seats.{View}
use Rattle.journal_law.specs.declared.seat.ToldFault.{ToldFault}
use Rattle.store.specs.Ground.{ground_of, no_ground}
use Rattle.store.specs.declared.start.Start.{Start}
use Rattle.store.specs.Seats.{Sat}
use Rattle.store.specs.Start.{AreJustOpened, opened_base}
use Rattle.turn.specs.Faults.{fault_times}
use Rattle.turn.specs.Seats.{mine, opening, seen}

-- with the fault for which a call was refused, at the end
abbrev pub told_more : List ToldFault → Refusal → List ToldFault
told_more told (DiskFault device count) = told ++ record { device = device; count = count } ∷ []
told_more told why = told

-- a work as sessions see it, behind the lines that were seen; a look is at this snapshot, or at all
abbrev pub work_in : Option ℕ → List Line → Option Work → seat.Work
work_in asked lines None = seat.Idle
work_in asked lines (Some (work.Open t)) = seat.Open (record {
  who = t.who;
  since = take t.began lines;
  read = t.reads.keys;
  edits = t.edits;
  kept = t.kept;
})
work_in asked lines (Some (work.Looking look)) = seat.Looking (record {
  who = look.who;
  since = take look.began lines;
  snapshot = asked;
})
work_in asked lines (Some (work.KeptDrop who)) = seat.Idle

-- a transaction has begun in its line, behind which its session has no other
pub record HasBegun (lines : List Line) (session : ℕ) (t : Transaction) : Type 0 where
  pub here : drop t.began lines ≡ line t.who Began ∷ drop (t.began + 1) lines
  pub last : lines_of session (drop (t.began + 1) lines) ≡ []

-- how many seats the store has
abbrev pub seats_in : {D : Type 0} → Option (Start D) → ℕ
seats_in (Some start) = start.seats.value
seats_in None = 0

module _ {D : Type 0} (state : D → State) (faults : D → ℕ) where
  abbrev pub ground_in : Option (Start D) → Ground
  ground_in (Some start) = ground_of state faults start
  ground_in None = no_ground

  -- what a seat sees, where its look is at this snapshot, or at all, and which was told these faults since its last
  -- line
  abbrev pub view_of : Option ℕ → List ToldFault → Sat D → View
  view_of asked told s = record {
    session = s.number;
    opened = ground_in (opening s);
    front = seen s;
    work = work_in asked (seen s) (mine s).work;
    told = reverse told;
  }

-- The store began as it was just opened, on devices of the pages and of the slots that tell what they hold.
abbrev pub IsHonest : {D : Type 0} → (D → Type 0) → (D → State) → Sat D → Type 0
IsHonest is_honest state s = IfSome (opening s) (λ start.
    (is_honest start.core.value.desk.pool.file.disk × is_honest start.archive.value.pagelog.disk)
    × AreJustOpened is_honest state start.core.value start.archive.value)

-- what a look pins: its one snapshot, or each that was retained when it began
abbrev pub pins_of_look : {D : Type 0} → Option ℕ → List Line → Start D → Look → List ℕ
pins_of_look (Some snapshot) lines start look = snapshot ∷ []
pins_of_look None lines start look =
    map (λ mark. mark.number) (base_of (opened_base start) (take look.began lines)).marks

-- What the seat has open is of this item; no drop's line is kept for it. What it has open it has seen begin, what its
-- look pins is what it is at, and it was told
-- these faults since its last line, none but in a look.
pub record IsSeated {D : Type 0} (who : Who) (asked : Option ℕ) (told : List ToldFault) (s : Sat D) : Type 0 where
  pub item : (w : Work) → (mine s).work ≡ Some w → who_of w ≡ who
  pub no_drop : (other : Who) → (mine s).work ≡ Some (work.KeptDrop other) → ⊥
  pub begun : (t : Transaction) → (mine s).work ≡ Some (work.Open t) → HasBegun (seen s) s.number t
  pub pins : (start : Start D) (look : Look) → opening s ≡ Some start → (mine s).work ≡ Some (work.Looking look)
      → look.pins ≡ pins_of_look asked (seen s) start look
  pub quiet : (mine s).work ≡ None → told ≡ []
  pub silent : (t : Transaction) → (mine s).work ≡ Some (work.Open t) → told ≡ []
  pub told_it : (device : Device) (count : ℕ) → Contains (reverse told) (record { device = device; count = count })
      → 0 < fault_times device count (mine s).faults
