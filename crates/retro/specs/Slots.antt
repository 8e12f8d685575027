-- Slots for the seats of one store, each under the number of its session.
use Rattle.std.specs.Prelude.{◌≡◌, ◌≢◌, ◌<◌, ℕ, List, [], length, Option, Some, None, Result, Ok, slice_get}
use Rattle.std.specs.declared.alloc.AllocError.{AllocError}
use Rattle.journal_law.specs.Seats.{Idle, View}
use Rattle.session.specs.Replies.{kept_at_place}
use Rattle.session.specs.declared.kept.Kept.{Kept}
use Rattle.retro.specs.declared.slots.Slot.{Slot}

abbrev pub seat_in : {S : Type 0} → Option (Slot S) → Option S
seat_in (Some slot) = slot.seat
seat_in None = None

-- the seat in the slot of this number
abbrev pub seat_at : {S : Type 0} → List (Slot S) → ℕ → Option S
seat_at slots number = seat_in (slice_get slots number)

abbrev pub SitsAt : {S : Type 0} → List (Slot S) → ℕ → S → Type 0
SitsAt slots number seat = seat_at slots number ≡ Some seat

-- A seat of this number is there, and it has nothing open.
pub record IsSeated {S : Type 0} (view : S → View) (number : ℕ) (there : Option S) : Type 0 where
  pub seat : S
  pub sits : there ≡ Some seat
  pub number_is : (view seat).session ≡ number
  pub idle : (view seat).work ≡ Idle

-- each slot has the seat of its number
abbrev pub AreSeated : {S : Type 0} → (S → View) → List (Slot S) → Type 0
AreSeated view slots = (number : ℕ) → number < length slots → IsSeated view number (seat_at slots number)

-- each two of the seats are of one store
abbrev pub AreTogether : {S : Type 0} → (S → S → Type 0) → List (Slot S) → Type 0
AreTogether {S} together slots = (number other : ℕ) (s t : S) → SitsAt slots number s → SitsAt slots other t →
    number ≢ other → together s t

abbrev pub AreHonest : {S : Type 0} → (S → Type 0) → List (Slot S) → Type 0
AreHonest {S} is_honest slots = (number : ℕ) (s : S) → SitsAt slots number s → is_honest s

-- what is seen where no seat is
abbrev pub nobody : View
nobody = record {
  session = 0;
  opened = record {
    base = record { page_count = 0; capacity = 0; changes = 0; captures = 0; marks = []; captured = [] };
    pages = record { current = λ page. []; marks = [] };
    faults = λ device. 0;
  };
  front = [];
  work = Idle;
  told = [];
}

abbrev pub view_in : {S : Type 0} → (S → View) → Option S → View
view_in view (Some seat) = view seat
view_in view None = nobody

-- what the seat of this number sees
abbrev pub view_at : {S : Type 0} → (S → View) → List (Slot S) → ℕ → View
view_at view slots number = view_in view (seat_at slots number)

-- No seat is gone: each slot still has the seat of its number, with nothing open, of the same store.
pub record AllCome {S : Type 0} (view : S → View) (goes : S → S → Type 0) (old new : List (Slot S)) : Type 0 where
  pub count : length new ≡ length old
  pub seated : AreSeated view new
  pub each : (number : ℕ) (s t : S) → SitsAt old number s → SitsAt new number t → goes s t

-- ---- the steps of a run

-- the seat of a number has become this one, and the others are as they were
pub record IsSetAt {S : Type 0} (old new : List (Slot S)) (number : ℕ) (seat : S) : Type 0 where
  pub count : length new ≡ length old
  pub sits : SitsAt new number seat
  pub others : (other : ℕ) → other ≢ number → seat_at new other ≡ seat_at old other

-- ---- what the sessions of a phase answered

abbrev pub answered_in : {S : Type 0} → Option (Slot S) → Result (List Kept) AllocError
answered_in (Some slot) = slot.answered
answered_in None = Ok []

-- what the session of this number answered
abbrev pub answered_at : {S : Type 0} → List (Slot S) → ℕ → Result (List Kept) AllocError
answered_at slots number = answered_in (slice_get slots number)

-- this was kept of each, at its place
abbrev pub AreAnswers : {S : Type 0} → List (Slot S) → List (List Kept) → Type 0
AreAnswers slots kept =
    (length kept ≡ length slots)
    × ((number : ℕ) → number < length slots → answered_at slots number ≡ Ok (kept_at_place kept number))
