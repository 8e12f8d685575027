-- What stays over the calls of a seat.
use Rattle.std.proofs.Common.{◌≡◌, ◌∙◌, Option, IfSome, ap, refl, subst, sym}
use Rattle.std.specs.Prelude.{◌↔◌}
use Rattle.atomic_table.specs.Seated.{TableId}
use Rattle.disk_model.specs.Disk.{State}
use Rattle.turn.specs.Seats.{IsSame, opening}
use Rattle.store.specs.declared.start.Start.{Start}
use Rattle.store.specs.Seats.{Sat}
use Rattle.store.specs.Start.{AreJustOpened}
use Rattle.store.specs.Seen.{IsHonest, seats_in}

-- It is the same seat of a store, with these locks as before.
pub record GoesOn {D : Type 0} (z w : TableId) (old new : Sat D) : Type 0 where
  pub store : w ≡ z
  pub same : IsSame old new

pub stays : {D : Type 0} (z : TableId) (s : Sat D) → GoesOn z z s s
stays z s = record { store = refl; same = record { id = refl; number = refl; opening = refl } }

pub goes_on : {D : Type 0} (z y x : TableId) (s t u : Sat D) → GoesOn z y s t → GoesOn y x t u → GoesOn z x s u
goes_on z y x s t u one two = record {
  store = two.store ∙ one.store;
  same = record {
    id = two.same.id ∙ one.same.id;
    number = two.same.number ∙ one.same.number;
    opening = two.same.opening ∙ one.same.opening;
  };
}

-- and its store has as many seats
pub seats_stay : {D : Type 0} (z w : TableId) (s t : Sat D)
    → GoesOn z w s t → seats_in (opening s) ≡ seats_in (opening t)
seats_stay z w s t goes = ap seats_in (sym goes.same.opening)

-- and its devices tell what they hold, or not, as before
abbrev JustOpened : {D : Type 0} → (D → Type 0) → (D → State) → Option (Start D) → Type 0
JustOpened is_honest state o = IfSome o (λ start.
    (is_honest start.core.value.desk.pool.file.disk × is_honest start.archive.value.pagelog.disk)
    × AreJustOpened is_honest state start.core.value start.archive.value)

pub honest_stays : {D : Type 0} (is_honest : D → Type 0) (state : D → State) (z w : TableId) (s t : Sat D)
    → GoesOn z w s t → IsHonest is_honest state s ↔ IsHonest is_honest state t
honest_stays is_honest state z w s t goes =
    (subst (JustOpened is_honest state) (sym goes.same.opening), subst (JustOpened is_honest state) goes.same.opening)
