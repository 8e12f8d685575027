-- What contracts say of a seat.
use Rattle.std.specs.Prelude.{◌≡◌, ℕ, ◌<◌, ◌≤◌, ◌⊎◌, ◌≢◌, ◌+◌, ◌++◌, true, is_some}
use Rattle.std.specs.Prelude.{List, [], ◌∷◌, slice_get, Option, Some, None}
use mathlib.Core.List.{IsPrefix}
use Rattle.atomic_table.specs.Seated.{TableId}
use Rattle.retro_base.specs.declared.device.Device.{Device}
use Rattle.history.specs.declared.journal.Line.{Line}
use Rattle.turn.specs.declared.seat.SeatOver.{SeatOver}
use Rattle.turn.specs.declared.view.Holding.{Holding}
use Rattle.turn.specs.declared.view.Place.TheVariants.{Outside, Inside}
use Rattle.turn.specs.declared.view.View.{View}
use Rattle.turn.specs.Faults.{desk_faults, fault_lines, fault_times, line_fault}
use Rattle.history.specs.Lines.{FaultsDiffer, lines_of}
use Rattle.turn.specs.Meanings.{OpeningMeaning, DeskMeaning, VaultMeaning}
use Rattle.turn.specs.Queue.{ticket_of, total}
use Rattle.turn.specs.Rule.{IsCounted, IsHeard, IsNewer, Knows, count_now}
use Rattle.turn.specs.Views.{PARTS, behind_desk, behind_vault, first_of, fresh}

module _ {O W A B : Type 0} where
  abbrev pub view_of : SeatOver O W A B → View O W A B
  view_of s = s.seat.me.0

  -- what the seat has seen of the journal
  abbrev pub seen : SeatOver O W A B → List Line
  seen s = s.seat.me.0.seen

  -- the most that it has seen the vault hold
  abbrev pub held : SeatOver O W A B → ℕ
  held s = s.seat.me.0.held

  abbrev pub opening : SeatOver O W A B → Option O
  opening s = s.seat.me.0.opening

  -- what it has under its number
  abbrev pub mine : SeatOver O W A B → Holding W
  mine s = first_of s.seat.me.0.holds

  -- what is so of each seat and helper of the table, inside a lock or not
  pub record IsSeat (z : TableId) (s : SeatOver O W A B) : Type 0 where
    pub table : s.seat.table_id ≡ z
    pub opened : is_some s.seat.me.0.opening ≡ true
    pub heard : s.seat.me.0.heard ≡ []
    pub one : s.seat.me.0.holds ≡ mine s ∷ []
    pub number : (mine s).number ≡ s.number
    pub part : 0 < (mine s).parts

  -- outside both locks
  pub record Rests (z : TableId) (s : SeatOver O W A B) : Type 0 where
    pub seat : IsSeat z s
    pub desk : s.seat.me.0.desk ≡ Outside
    pub vault : s.seat.me.0.vault ≡ Outside
    pub slots : s.seat.me.1 ≡ []

  -- in the desk, which had this value when it was entered
  pub record IsInDesk (z : TableId) (s : SeatOver O W A B) (value : A) : Type 0 where
    pub seat : IsSeat z s
    pub desk : s.seat.me.0.desk ≡ Inside (ticket_of s.seat.me.0.desk) value
    pub vault : s.seat.me.0.vault ≡ Outside
    pub slots : s.seat.me.1 ≡ (0, None) ∷ []

  -- in the vault, which had this value when it was entered
  pub record IsInVault (z : TableId) (s : SeatOver O W A B) (value : B) : Type 0 where
    pub seat : IsSeat z s
    pub desk : s.seat.me.0.desk ≡ Outside
    pub vault : s.seat.me.0.vault ≡ Inside (ticket_of s.seat.me.0.vault) value
    pub slots : s.seat.me.1 ≡ (1, None) ∷ []

  -- the same seat, of the same number and opening
  pub record IsSame (old new : SeatOver O W A B) : Type 0 where
    pub id : new.seat.id ≡ old.seat.id
    pub number : new.number ≡ old.number
    pub opening : opening new ≡ opening old

  -- the seats of a new table
  abbrev pub AreNew : TableId → O → List (SeatOver O W A B) → Type 0
  AreNew z o seats = (k : ℕ) (s : SeatOver O W A B) → slice_get seats k ≡ Some s → Rests z s × (s.number ≡ k)
      × (mine s ≡ fresh k) × (seen s ≡ []) × (opening s ≡ Some o)

  -- seats with no helper out, outside both locks
  abbrev pub AreWhole : TableId → List (SeatOver O W A B) → Type 0
  AreWhole z seats = (k : ℕ) (s : SeatOver O W A B) → slice_get seats k ≡ Some s → Rests z s × ((mine s).parts ≡ PARTS)

-- what a seat has seen begins a lawful journal, in which the lines of its number are its lines
pub record Agrees {O W A B : Type 0} (o : OpeningMeaning O) (s : SeatOver O W A B) : Type 0 where
  pub journal : List Line
  pub begins : IsPrefix (seen s) journal
  pub own : (mine s).lines ≡ lines_of s.number journal
  pub lawful : (x : O) → opening s ≡ Some x → o.Lawful x journal

module _ {O W A : Type 0} (a : DeskMeaning O W A) where
  -- The journal is as it was, and the work at each number
  pub record IsQuiet (old new : A) : Type 0 where
    pub journal : a.journal new ≡ a.journal old
    pub works : (n : ℕ) → a.work_of new n ≡ a.work_of old n

  -- One line more, of that number. A fault that it tells was told to its seat, which has not told it since.
  pub record AddsLine (mine : Holding W) (old new : A) : Type 0 where
    pub line : Line
    pub number : line.who.session ≡ mine.number
    pub journal : a.journal new ≡ a.journal old ++ line ∷ []
    pub told : (d : Device) (c : ℕ) → 0 < line_fault d c line.what →
        0 < fault_times d c (mine.faults ++ desk_faults (a.counts old) (a.counts new))

  -- a seat with no helper out may record a line of its number and change its work
  pub record IsOwnChange (mine : Holding W) (old new : A) : Type 0 where
    pub whole : mine.parts ≡ PARTS
    pub works : (n : ℕ) → n ≢ mine.number → a.work_of new n ≡ a.work_of old n
    pub journal : (a.journal new ≡ a.journal old) ⊎ AddsLine mine old new

  -- what an entry of a seat may do to the desk
  pub record MayLeave (o : OpeningMeaning O) (held : ℕ) (mine : Holding W) (old new : A) : Type 0 where
    pub opening : a.opening new ≡ a.opening old
    pub counts : (d : Device) → a.counts old d ≤ a.counts new d
    pub change : IsQuiet old new ⊎ IsOwnChange mine old new
    pub fits : a.Fits new
    pub lawful : o.Lawful (a.opening new) (a.journal new)
    pub acked : a.acked new ≤ held

-- the seat is in the desk, and may leave this value
abbrev pub LeavesDesk : {O W A B : Type 0} → OpeningMeaning O → DeskMeaning O W A → TableId → SeatOver O W A B → A →
    Type 0
LeavesDesk {A = A} o a z s desk = (old : A) × IsInDesk z s old × MayLeave a o (held s) (mine s) old desk

-- what a seat has under its number, behind an entry that left this value
abbrev pub IsBehindDesk : {O W A B : Type 0} → DeskMeaning O W A → TableId → SeatOver O W A B → A → SeatOver O W A B →
    Type 0
IsBehindDesk {A = A} a z s desk new = (old : A) → IsInDesk z s old → mine new ≡ behind_desk a old desk (mine s)

-- what an entry of a seat may do to the vault
pub record MayLeaveVault {O B : Type 0} (b : VaultMeaning O B) (opening : Option O) (seen : List Line)
    (old new : B) : Type 0 where
  pub held : b.held old ≤ b.held new
  pub counts : (d : Device) → b.counts old d ≤ b.counts new d
  pub fits : (x : O) → opening ≡ Some x → b.Fits new x seen

-- the seat is in the vault, and may leave this value
abbrev pub LeavesVault : {O W A B : Type 0} → VaultMeaning O B → TableId → SeatOver O W A B → B → Type 0
LeavesVault {B = B} b z s vault = (old : B) × IsInVault z s old × MayLeaveVault b (opening s) (seen s) old vault

abbrev pub IsBehindVault : {O W A B : Type 0} → VaultMeaning O B → TableId → SeatOver O W A B → B → SeatOver O W A B →
    Type 0
IsBehindVault {B = B} b z s vault new = (old : B) → IsInVault z s old → mine new ≡ behind_vault b old vault (mine s)

-- what a seat has is what the two values have of its number
pub record IsRight {O W A B : Type 0} (a : DeskMeaning O W A) (b : VaultMeaning O B) (desk : A) (vault : B)
    (s : SeatOver O W A B) : Type 0 where
  pub front : IsPrefix (seen s) (a.journal desk)
  pub held : held s ≤ b.held vault
  pub lines : (mine s).lines ≡ lines_of s.number (a.journal desk)
  pub work : (mine s).work ≡ a.work_of desk s.number
  pub newer : IsNewer (mine s)

abbrev pub AreRight : {O W A B : Type 0} → DeskMeaning O W A → VaultMeaning O B → A → B → List (SeatOver O W A B) →
    Type 0
AreRight {O = O} {W = W} {A = A} {B = B} a b desk vault seats =
    (k : ℕ) (s : SeatOver O W A B) → slice_get seats k ≡ Some s → IsRight a b desk vault s

-- how often a fault was told to these seats, of what each has not told since
abbrev pub told_to : {O W A B : Type 0} → Device → ℕ → List (SeatOver O W A B) → ℕ
told_to d c seats = total (λ (s : SeatOver _ _ _ _). fault_times d c (mine s).faults) seats

-- what is so of the two values at the start
pub record MayOpen {O W A B : Type 0} (o : OpeningMeaning O) (a : DeskMeaning O W A) (b : VaultMeaning O B) (desk : A)
    (vault : B) : Type 0 where
  pub empty : a.journal desk ≡ []
  pub idle : (n : ℕ) → a.work_of desk n ≡ None
  pub lawful : o.Lawful (a.opening desk) (a.journal desk)
  pub desk_fits : a.Fits desk
  pub vault_fits : b.Fits vault (a.opening desk) (a.journal desk)
  pub acked : a.acked desk ≤ b.held vault
  pub counts : (d : Device) → o.counts (a.opening desk) d ≤ count_now o a b desk vault d
  -- no fault has come since the opening
  pub begins : (d : Device) → count_now o a b desk vault d ≤ o.counts (a.opening desk) d

-- what is so of the two values at the end, of a table with so many seats, which were told each fault so often and have
-- not told it since
pub record AreClosed {O W A B : Type 0} (o : OpeningMeaning O) (a : DeskMeaning O W A) (b : VaultMeaning O B)
    (limit : ℕ) (told : Device → ℕ → ℕ) (desk : A) (vault : B) : Type 0 where
  pub lawful : o.Lawful (a.opening desk) (a.journal desk)
  pub desk_fits : a.Fits desk
  pub vault_fits : b.Fits vault (a.opening desk) (a.journal desk)
  pub acked : a.acked desk ≤ b.held vault
  -- no line and no work is of another number
  pub foreign : (n : ℕ) → limit ≤ n → (lines_of n (a.journal desk) ≡ []) × (a.work_of desk n ≡ None)
  pub counts : (d : Device) → o.counts (a.opening desk) d ≤ count_now o a b desk vault d
  -- A fault is told by one line, or was told to one seat that has no line of it: it is new since the opening, and not
  -- above the count at the end.
  pub faults : (d : Device) (c : ℕ) →
      IsCounted (o.counts (a.opening desk) d) (count_now o a b desk vault d) c
      (fault_lines d c (a.journal desk) + told d c)
  -- A device whose count rose has a fault that a line tells, or that a seat was told and has not told since.
  pub heard : (d : Device) →
      IsHeard (o.counts (a.opening desk) d) (count_now o a b desk vault d)
      (λ c. fault_lines d c (a.journal desk) + told d c)
  pub differ : FaultsDiffer (a.journal desk)

-- what is right of a gathered view is right of each of these seats
abbrev pub Covers : {O W A B : Type 0} → OpeningMeaning O → DeskMeaning O W A → VaultMeaning O B → View O W A B →
    List (SeatOver O W A B) → Type 0
Covers {A = A} {B = B} o a b v seats = (desk : A) (vault : B) → Knows o a b desk vault v → AreRight a b desk vault seats
