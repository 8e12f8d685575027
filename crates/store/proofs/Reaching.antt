-- Rounds leave at most the line of a fault, whatever visits they make.
use Rattle.std.proofs.Common.{◌≡◌, ◌∙◌, ◌⊎◌, ℕ, Some, Result, Ok, Err, inl, inr}
use Rattle.std.specs.Prelude.{MatchResult}
use Rattle.atomic_table.specs.Seated.{TableId}
use Rattle.disk_model.specs.Disk.{State}
use Rattle.history.specs.declared.journal.FailedCall.TheVariants.{Write}
use Rattle.retro_base.specs.declared.device.Device.{Device}
use Rattle.retro_base.specs.declared.refusal.Refusal.{Refusal}
use Rattle.retro_base.specs.declared.refusal.Refusal.TheVariants.{DiskFault, OutOfMemory, Stopped}
use Rattle.retro_base.specs.declared.who.Who.{Who}
use Rattle.txn_set.specs.Ledger.{faulted}
use Rattle.store_core.specs.declared.desk_core.Core.{Core}
use Rattle.turn.specs.Seats.{IsSame, opening}
use Rattle.store.specs.declared.start.Start.{Start}
use Rattle.store.specs.Rounds.{IsNoRoom, MayAskAgain, Passes}
use Rattle.store.specs.Seats.{Sat, Visits}
use Rattle.store.specs.Start.{IsAbove}
use Rattle.store.proofs.Passing.{passes_on}

pub same_on : {D : Type 0} (s0 s1 s2 : Sat D) → IsSame s0 s1 → IsSame s1 s2 → IsSame s0 s2
same_on s0 s1 s2 one two = record { id = two.id ∙ one.id; number = two.number ∙ one.number; opening = two.opening ∙ one.opening }

module _ {D : Type 0} (is_honest : D → Type 0) (state : D → State) (faults : D → ℕ) (z : TableId) where
  -- The seat passed so, and then made a visit to the desk in which the core did that. So what it has seen is what it had seen,
  -- lines of others, and the lines of that visit.
  pub record Reaches (Does : Core D → Core D → Type 0) (old new : Sat D) : Type 0 where
    pub middle : Sat D
    pub passes : Passes z old middle
    pub visits : Visits is_honest state faults z Does middle new

  -- a fault of the device with this count is new since the opening
  abbrev pub IsNewSince : Device → ℕ → Sat D → Type 0
  IsNewSince device count s = (start : Start D) → opening s ≡ Some start → IsAbove faults start device count

  -- the Fault line of the item stands, which wrote
  abbrev pub TellsFault : Who → Device → ℕ → Core D → Core D → Type 0
  TellsFault who device count old new = new.ledger ≡ faulted who device count Write old.ledger

  -- A round that was refused: for a fault, whose line stands and which is new; else nothing is left.
  abbrev pub RoundRefused : Who → Refusal → Sat D → Sat D → Type 0
  RoundRefused who (DiskFault device count) old new = Reaches (TellsFault who device count) old new × IsNewSince device count new
  RoundRefused who (Stopped device count) old new = Passes z old new
  RoundRefused who OutOfMemory old new = Passes z old new
  RoundRefused who why old new = ⊥

  abbrev pub RoundEnds : {T : Type 0} → Who → Result T Refusal → Sat D → Sat D → Type 0
  RoundEnds who result old new = MatchResult result (λ _. Passes z old new) (λ why. RoundRefused who why old new)

  -- a round that was to make room was refused, not for a stop
  abbrev pub RoomRefused : Who → Refusal → Sat D → Sat D → Type 0
  RoomRefused who (Stopped device count) old new = ⊥
  RoomRefused who why old new = RoundRefused who why old new

  -- What the desk did at last, other than to find no room, is that. Or a round was refused.
  abbrev pub AnswersSo : {T : Type 0} → Who → (Result T Refusal → Core D → Core D → Type 0) → Result T Refusal → Sat D → Sat D → Type 0
  AnswersSo who Does result old new = (Reaches (Does result) old new × (IsNoRoom result → ⊥))
      ⊎ ((why : Refusal) × (result ≡ Err why) × RoomRefused who why old new)

  -- The same of a drop, whose first asking may leave its line.
  abbrev pub DropSo : {T : Type 0} → Who → (Result T Refusal → Core D → Core D → Type 0) → Result T Refusal → Sat D → Sat D → Type 0
  DropSo {T} who Does result old new =
      (Visits is_honest state faults z (Does result) old new × (IsNoRoom result → ⊥))
      ⊎ ((first : Result T Refusal) × (kept : Sat D) × IsNoRoom first
      × Visits is_honest state faults z (Does first) old kept × AnswersSo who Does result kept new)

  -- ---- behind other visits

  module _ (who : Who) where
    pub refused_after : (why : Refusal) (s0 s1 s2 : Sat D) → Passes z s0 s1 → RoundRefused who why s1 s2 → RoundRefused who why s0 s2
    refused_after (DiskFault d c) s0 s1 s2 passes e = (record { middle = e.0.middle; passes = passes_on z s0 s1 passes e.0.middle e.0.passes; visits = e.0.visits }, e.1)
    refused_after (Stopped d c) s0 s1 s2 passes e = passes_on z s0 s1 passes s2 e
    refused_after OutOfMemory s0 s1 s2 passes e = passes_on z s0 s1 passes s2 e
    refused_after _ s0 s1 s2 passes e = absurd e

    pub ends_after : {T : Type 0} (r : Result T Refusal) (s0 s1 s2 : Sat D) → Passes z s0 s1 → RoundEnds who r s1 s2 → RoundEnds who r s0 s2
    ends_after (Ok x) s0 s1 s2 passes ends = passes_on z s0 s1 passes s2 ends
    ends_after (Err why) s0 s1 s2 passes ends = refused_after why s0 s1 s2 passes ends

    -- it is the seat that it was
    pub refused_same : (why : Refusal) (s0 s1 : Sat D) → RoundRefused who why s0 s1 → IsSame s0 s1
    refused_same (DiskFault d c) s0 s1 e = same_on s0 e.0.middle s1 e.0.passes.stays.same e.0.visits.visited.same
    refused_same (Stopped d c) s0 s1 e = e.stays.same
    refused_same OutOfMemory s0 s1 e = e.stays.same
    refused_same _ s0 s1 e = absurd e

    pub ends_same : {T : Type 0} (r : Result T Refusal) (s0 s1 : Sat D) → RoundEnds who r s0 s1 → IsSame s0 s1
    ends_same (Ok x) s0 s1 ends = ends.stays.same
    ends_same (Err why) s0 s1 ends = refused_same why s0 s1 ends

    room_refused : (why : Refusal) (s0 s1 : Sat D) → (MayAskAgain (Err why) → ⊥) → RoundRefused who why s0 s1 → RoomRefused who why s0 s1
    room_refused (Stopped d c) s0 s1 never e = never tt
    room_refused (DiskFault d c) s0 s1 never e = e
    room_refused OutOfMemory s0 s1 never e = e
    room_refused _ s0 s1 never e = e

    room_after : (why : Refusal) (s0 s1 s2 : Sat D) → Passes z s0 s1 → RoomRefused who why s1 s2 → RoomRefused who why s0 s2
    room_after (Stopped d c) s0 s1 s2 passes e = e
    room_after (DiskFault d c) s0 s1 s2 passes e = refused_after (DiskFault d c) s0 s1 s2 passes e
    room_after OutOfMemory s0 s1 s2 passes e = passes_on z s0 s1 passes s2 e
    room_after _ s0 s1 s2 passes e = absurd e

    -- room was made, or the store has stopped: nothing is left
    pub made_passes : (made : Result (Unit {0}) Refusal) (s0 s1 : Sat D) → MayAskAgain made → RoundEnds who made s0 s1 → Passes z s0 s1
    made_passes (Ok x) s0 s1 may ends = ends
    made_passes (Err (Stopped d c)) s0 s1 may ends = ends
    made_passes (Err _) s0 s1 may ends = absurd may

    module _ {T : Type 0} (Does : Result T Refusal → Core D → Core D → Type 0) (r : Result T Refusal) where
      pub so_now : (s0 s1 s2 : Sat D) → Passes z s0 s1 → Visits is_honest state faults z (Does r) s1 s2 → (IsNoRoom r → ⊥) → AnswersSo who Does r s0 s2
      so_now s0 s1 s2 passes v none = inl (record { middle = s1; passes = passes; visits = v }, none)

      pub so_refused : (why : Refusal) (s0 s1 : Sat D) → (MayAskAgain (Err why) → ⊥) → r ≡ Err why → RoundRefused who why s0 s1 → AnswersSo who Does r s0 s1
      so_refused why s0 s1 never e refused = inr (why, e, room_refused why s0 s1 never refused)

      pub so_after : (s0 s1 s2 : Sat D) → Passes z s0 s1 → AnswersSo who Does r s1 s2 → AnswersSo who Does r s0 s2
      so_after s0 s1 s2 passes (inl (reaches, none)) = so_now s0 reaches.middle s2 (passes_on z s0 s1 passes reaches.middle reaches.passes) reaches.visits none
      so_after s0 s1 s2 passes (inr (why, e, refused)) = inr (why, e, room_after why s0 s1 s2 passes refused)
