-- A page that was read by the table of its snapshot.
use Rattle.std.proofs.Common.{◌≡◌, ◌≤◌, ℕ, List, Option, Some, None, Result, Ok, Err, IfErr, ap, arith, ⊎_elim}
use Rattle.atomic_table.specs.Seated.{TableId}
use Rattle.disk_model.specs.Disk.{State}
use Rattle.disk_model.specs.Moments.{Clock}
use Rattle.race_model.specs.declared.fault.Fault.{Fault}
use Rattle.page_table.specs.Table.{Table}
use Rattle.store.specs.Kept.{CoversNoLess, IsRecallRefusal, IsTableFor, ReadsBy, Tabled}
use Rattle.store.specs.Seats.{Sat}

-- the table that is kept then covers no less
pub covers_so : {D : Type 0} (kept : Option (Tabled D)) (snapshot : ℕ) (table next : Table) (new : Tabled D) → IsTableFor kept snapshot table → table.covered ≤ next.covered → new.snapshot ≡ snapshot → new.table ≡ next → CoversNoLess kept snapshot (Some new)
covers_so None snapshot table next new is_for more of holds = of
covers_so (Some old) snapshot table next new is_for more of holds = (
  of,
  λ same. ⊎_elim
      (λ kept. let a = ap (λ (t : Table). t.covered) kept.1 in let b = ap (λ (t : Table). t.covered) holds in omega (arith, more, a, b))
      (λ other. absurd (other.0 same)) is_for,
)

module _ {D : Type 0} (is_honest : D → Type 0) (state : D → State) (faults : D → ℕ) (z : TableId) (remembers : Type 0) (clock : D → Clock) (kept : Option (Tabled D)) (snapshot before after page : ℕ) (out : List ℕ) (s0 s2 : Sat D) where
  pub refused_so : (result : Result (Unit {0}) Fault) → ReadsBy is_honest state faults z remembers clock kept snapshot before after page out result s0 s2 → IfErr result (IsRecallRefusal is_honest state faults z kept snapshot s0 s2)
  refused_so (Ok x) by = tt
  refused_so (Err fault) by = record {
    table = by.table;
    is_for = by.is_for;
    middle = by.middle;
    stays = by.stays;
    refuses = record { asked = by.reads.middle; before = by.reads.asks.before; after = by.reads.asks.after; visited = by.reads.asks.visited; refused = by.reads.refused };
  }
