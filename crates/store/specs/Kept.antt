-- The page table that a seat keeps while it looks.
use Rattle.std.specs.Prelude.{◌≡◌, ◌≢◌, ◌⊎◌, ◌≤◌, ℕ, Bool, true, false, List, Option, Some, None, ⊤, Result}
use Rattle.std.specs.Coded.{Coded, Coded-set, coded_bool, ×_prop, Unit-prop}
use Rattle.atomic_table.specs.Seated.{TableId}
use Rattle.disk_model.specs.Disk.{State}
use Rattle.disk_model.specs.Moments.{Clock}
use Rattle.journal_book.specs.declared.work.Work.{Work}
use Rattle.journal_book.specs.declared.work.Work.TheVariants.{Looking}
use Rattle.page_table.specs.Table.{Table}
use Rattle.race_model.specs.declared.fault.Fault.{Fault}
use Rattle.turn.specs.Seats.{mine}
use Rattle.store.specs.Past.{LooksBack, RefusesPast, new_table}
use Rattle.store.specs.Seats.{Sat, StaysIn}

-- the page table of a snapshot, and the seat as it was when the table was kept
pub record Tabled (D : Type 0) : Type 0 where
  pub snapshot : ℕ
  pub table : Table
  pub seat : Sat D

abbrev pub looks : Option Work → Bool
looks (Some (Looking look)) = true
looks _ = false

-- Where a table is kept the seat looks, and is as it was when the table was kept.
abbrev pub IsTabled : {D : Type 0} → Sat D → Option (Tabled D) → Type 0
IsTabled s None = ⊤
IsTabled s (Some t) = (looks (mine s).work ≡ true) × (t.seat ≡ s)

pub IsTabled-prop : {D : Type 0} → Coded (Sat D) → (s : Sat D) (kept : Option (Tabled D)) → IsProp (IsTabled s kept)
IsTabled-prop code s None = Unit-prop
IsTabled-prop code s (Some t) = ×_prop (Coded-set coded_bool (looks (mine s).work) true) (Coded-set code t.seat s)

-- the table by which a page of the snapshot is read: the kept one, where it is of this snapshot, else a new one
abbrev pub IsTableFor : {D : Type 0} → Option (Tabled D) → ℕ → Table → Type 0
IsTableFor None snapshot table = table ≡ new_table table.start
IsTableFor (Some kept) snapshot table =
    ((kept.snapshot ≡ snapshot) × (table ≡ kept.table)) ⊎ ((kept.snapshot ≢ snapshot) × (table ≡ new_table table.start))

-- the table that is kept of a snapshot covers no less than the one that was kept of it
abbrev pub CoversNoLess : {D : Type 0} → Option (Tabled D) → ℕ → Option (Tabled D) → Type 0
CoversNoLess old snapshot None = ⊥
CoversNoLess None snapshot (Some new) = new.snapshot ≡ snapshot
CoversNoLess (Some old) snapshot (Some new) =
    (new.snapshot ≡ snapshot) × (old.snapshot ≡ snapshot → old.table.covered ≤ new.table.covered)

module _ {D : Type 0} (is_honest : D → Type 0) (state : D → State) (faults : D → ℕ) (z : TableId) where
  -- A page was to be read by that table of the snapshot, and was refused so.
  pub record IsRecallRefusal (kept : Option (Tabled D)) (snapshot : ℕ) (old new : Sat D) (fault : Fault) : Type 0 where
    pub table : Table
    pub is_for : IsTableFor kept snapshot table
    pub middle : Sat D
    pub stays : StaysIn old middle
    pub refuses : RefusesPast is_honest state faults z table.covered fault middle new

  -- A page was read by that table of the snapshot, with so many entries, or was refused.
  pub record ReadsBy (remembers : Type 0) (clock : D → Clock) (kept : Option (Tabled D))
      (snapshot before after page : ℕ) (out : List ℕ) (result : Result (Unit {0}) Fault) (old new : Sat D)
      : Type 0 where
    pub table : Table
    pub is_for : IsTableFor kept snapshot table
    pub middle : Sat D
    pub stays : StaysIn old middle
    pub reads : LooksBack is_honest state faults z remembers clock table.covered before after snapshot page out result
        middle new
