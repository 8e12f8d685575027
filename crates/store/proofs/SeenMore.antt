-- Seats that have seen more, with no line of their own.
use Rattle.std.proofs.Common.{◌≡◌, ◌∙◌, ℕ, [], refl, sym, append-nil}
use Rattle.atomic_table.specs.Seated.{TableId}
use Rattle.disk_model.specs.Disk.{State}
use Rattle.turn.specs.Seats.{IsSame, seen}
use Rattle.store.specs.declared.desk_side.DeskSide.{DeskSide}
use Rattle.store.specs.Rounds.{Passes}
use Rattle.store.specs.Seats.{Sat, Visited, Waits, journal}
use Rattle.store.proofs.Reaching.{same_on}
use Rattle.store.proofs.Recalling.{waits_on}

-- it is the seat that it was, and has seen more, with no line of its own
pub record Reached {D : Type 0} (s0 s1 : Sat D) : Type 0 where
  pub same : IsSame s0 s1
  pub waits : Waits s0 s1

pub reached_none : {D : Type 0} (s : Sat D) → Reached s s
reached_none s = record { same = record { id = refl; number = refl; opening = refl }; waits = record { others = []; front = append-nil (seen s); apart = refl } }

pub reached_on : {D : Type 0} (s0 s1 s2 : Sat D) → Reached s0 s1 → Reached s1 s2 → Reached s0 s2
reached_on s0 s1 s2 one two = record { same = same_on s0 s1 s2 one.same two.same; waits = waits_on s0 s1 s2 one.same.number one.waits two.waits }

pub reached_passes : {D : Type 0} (z : TableId) (s0 s1 : Sat D) → Passes z s0 s1 → Reached s0 s1
reached_passes z s0 s1 p = record { same = p.stays.same; waits = p.waits }

module _ {D : Type 0} (is_honest : D → Type 0) (state : D → State) (faults : D → ℕ) (z : TableId) where
  pub reached_quiet : (s0 s1 : Sat D) (d0 d1 : DeskSide D) → Visited is_honest state faults z s0 s1 d0 d1 → journal d1 ≡ journal d0 → Reached s0 s1
  reached_quiet s0 s1 d0 d1 v quiet = record { same = v.same; waits = record { others = v.others; front = v.place ∙ (sym quiet ∙ sym v.seen); apart = v.apart } }
