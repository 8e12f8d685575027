-- What a pager over an open look shows, and what is known of the look while it goes on.
use Rattle.std.specs.Prelude.{◌≡◌, ◌==◌, ◌&&◌, ℕ, Bool, true, false, [], Option, Some, None, Ok, Contains, is_ok}
use Rattle.retro_base.specs.declared.refusal.Refusal.{Refusal}
use Rattle.retro_base.specs.declared.refusal.Refusal.TheVariants as refusal
use Rattle.journal_law.specs.Pages.{Pages as Bytes}
use Rattle.journal_law.specs.Seats.{IsNew, Look, Looking, Moves, View, Work, at_look}
use Rattle.journal_law.specs.declared.seat.ToldFault.{ToldFault}
use Rattle.journal_law.specs.World.{as_of}
use Rattle.pager.specs.Pages.{Pages}

-- whether a look at this snapshot, or at all, is at that one
abbrev pub is_at : Option ℕ → ℕ → Bool
is_at None snapshot = true
is_at (Some looked) snapshot = looked == snapshot

-- whether the open look pins the snapshot
abbrev pub pins_in : View → Work → ℕ → Bool
pins_in view (Looking look) snapshot = is_at look.snapshot snapshot && is_ok (as_of snapshot (at_look view look))
pins_in view work snapshot = false

abbrev pub pins : View → ℕ → Bool
pins view snapshot = pins_in view view.work snapshot

-- shown are the pages as of the snapshot
pub record Shows (view : View) (snapshot : ℕ) (shown : Pages) : Type 0 where
  pub look : Look
  pub is_looking : view.work ≡ Looking look
  pub held : Bytes
  pub is_held : as_of snapshot (at_look view look) ≡ Ok held
  pub bytes : shown.at ≡ held

-- a pager over an open look: what its seat sees, and the refusal of its last call that was refused
pub record PastPaging : Type 0 where
  pub view : View
  pub refused : Option Refusal

-- the refusal was for want of memory, or a fault that the seat was told of
abbrev pub IsToldOf : View → Refusal → Type 0
IsToldOf view refusal.OutOfMemory = Unit {0}
IsToldOf view (refusal.DiskFault device count) =
    Contains view.told (record { device = device; count = count }) × IsNew view device count
IsToldOf view why = ⊥

-- why a read was refused, where one was
abbrev pub IsTold : PastPaging → Type 0
IsTold p = (why : Refusal) → p.refused ≡ Some why → IsToldOf p.view why

-- The look goes on: only others have added lines, and what was told stays told.
pub record LooksOn (old new : PastPaging) : Type 0 where
  pub moves : Moves old.view new.view []
  pub work : new.view.work ≡ old.view.work
  pub told : (fault : ToldFault) → Contains old.view.told fault → Contains new.view.told fault
  pub reasons : IsTold old → IsTold new
