-- The steps of a desk and a vault, and of the readers between them. A call that fails is a step too; a crash within a
-- call leaves what its failing leaves.
use Rattle.std.specs.Prelude.{◌≡◌, ◌+◌, ◌==◌, ◌||◌, ◌<◌, ◌≤◌, ◌++◌, min, max, ℕ, Bool, true}
use Rattle.std.specs.Prelude.{false, List, [], ◌∷◌, map, take, drop, Contains, if◌then◌else◌}
use Rattle.std.specs.List.{AllByRecursion}
use Rattle.retro_base.specs.declared.limits.TheConstants.{BATCH}
use Rattle.history.specs.declared.entry.Change.{Change}
use Rattle.history.specs.declared.entry.Change.TheVariants.{Commit, Drop}
use Rattle.history.specs.declared.entry.Mark.{Mark}
use Rattle.history.specs.Marks.{is_retained, oldest_start}
use Rattle.history.specs.Right.{MayFollow}
use Rattle.history.specs.History.{History, now, captures, with_change}
use Rattle.skippy.specs.Mappings.{end_of}
use Rattle.race_model.specs.Desk.{OneMore, NewBase, Desk, captured, capacity_of, writes_page}
use Rattle.race_model.specs.Vault.{Vault, Batch, batch_end, listing, trim_to, enter_into, LeavesOthers, HoldsBatch}
use Rattle.race_model.specs.Reading.{PeekTold, told_of}

-- ---- the desk

-- a commit or a drop, done
abbrev pub changed : Desk → Change → Desk
changed desk change = record desk {
  history = with_change desk.history change;
  rest = desk.rest ++ change ∷ [];
  dirty = λ page. desk.dirty page || writes_page page change;
}

abbrev pub change_failed : Desk → Change → Desk
change_failed desk change = record desk { doubt = OneMore change; stopped = true }

-- so many of the captures that are not yet acknowledged
abbrev pub batch_of : Desk → ℕ → Batch
batch_of desk count = record {
  first = desk.acked;
  low = min (oldest_start (now desk.history).base.marks) desk.acked;
  images = take count (drop desk.acked (captures desk.history));
}

abbrev pub acked_to : Desk → ℕ → Desk
acked_to desk count = record desk { acked = max desk.acked count }

-- a page may be written back where it is dirty and its captures are below the new need, all of them acknowledged
pub record MayWrite (desk : Desk) (page need : ℕ) : Type 0 where
  pub goes : desk.stopped ≡ false
  pub soiled : desk.dirty page ≡ true
  pub below : (number : ℕ) → number < (now desk.history).base.captures → (captured desk.history number).page ≡ page
      → number < need
  pub up : desk.need ≤ need
  pub acked : need ≤ desk.acked

abbrev pub with_page : {X : Type 0} → (ℕ → X) → ℕ → X → ℕ → X
with_page pages page x other = if other == page then x else pages other

abbrev pub written_desk : Desk → ℕ → ℕ → Desk
written_desk desk page need =
    record desk {
      pages = with_page desk.pages page ((now desk.history).pages page);
      loose = with_page desk.loose page true;
      dirty = with_page desk.dirty page false;
      need = need;
    }

abbrev pub write_failed : Desk → ℕ → ℕ → List ℕ → Desk
write_failed desk page need left = record desk {
  pages = with_page desk.pages page left;
  loose = with_page desk.loose page true;
  need = need;
  stopped = true;
}

abbrev pub settled : Desk → Desk
settled desk = record desk { loose = λ page. false }

abbrev pub stopped : Desk → Desk
stopped desk = record desk { stopped = true }

-- the log may be cut where no page is dirty or loose and all captures are acknowledged
pub record MayCut (desk : Desk) : Type 0 where
  pub goes : desk.stopped ≡ false
  pub clean : (page : ℕ) → (desk.dirty page ≡ false) × (desk.loose page ≡ false)
  pub acked : desk.acked ≡ (now desk.history).base.captures

abbrev pub cut : Desk → Desk
cut desk = record desk { past = desk.history.changes; rest = []; need = (now desk.history).base.captures }

abbrev pub cut_failed : Desk → Desk
cut_failed desk = record desk { need = (now desk.history).base.captures; doubt = NewBase desk.version; stopped = true }

-- ---- the vault

-- a batch may be laid where it goes on behind the mappings
pub record MayLay (vault : Vault) (batch : Batch) : Type 0 where
  pub first : batch.first ≡ end_of vault.mappings

abbrev pub laid : Vault → Batch → (ℕ → List ℕ) → (ℕ → Bool) → Vault
laid vault batch slots loose = record vault { slots = slots; loose = loose; laid = max vault.laid (batch_end batch) }

abbrev pub lay_failed : Vault → (ℕ → List ℕ) → (ℕ → Bool) → Vault
lay_failed vault slots loose = record vault {
  slots = slots;
  loose = loose;
  laid = end_of vault.mappings;
  stopped = true;
}

-- a batch may be entered where it is laid
pub record MayEnter (vault : Vault) (batch : Batch) : Type 0 where
  pub first : batch.first ≡ end_of vault.mappings
  pub laid : batch_end batch ≤ vault.laid

abbrev pub entered : Vault → Batch → Vault
entered vault batch = record vault { mappings = enter_into vault.mappings batch }

abbrev pub enter_failed : Vault → Batch → Vault
enter_failed vault batch = record vault {
  others = listing vault (trim_to vault.mappings batch.low) ∷ listing vault (enter_into vault.mappings batch) ∷ [];
  stopped = true;
}

-- Mappings may be forgotten below a number up to what is held; a step forgets none that a retained snapshot needs.
pub record MayTrim (history : History) (vault : Vault) (low : ℕ) : Type 0 where
  pub held : low ≤ end_of vault.mappings
  pub needed : low ≤ oldest_start (now history).base.marks

abbrev pub trimmed : Vault → ℕ → Vault
trimmed vault low = record vault { mappings = trim_to vault.mappings low }

abbrev pub trim_failed : Vault → ℕ → Vault
trim_failed vault low = record vault { others = listing vault (trim_to vault.mappings low) ∷ []; stopped = true }

-- ---- both

-- with the batches and the receipts that go between them, the snapshots that open looks pin, and what readers were told
pub record Machine : Type 0 where
  pub desk : Desk
  pub vault : Vault
  pub batches : List Batch
  pub receipts : List ℕ
  pub pins : List ℕ
  pub told : List PeekTold

-- a drop leaves each pinned snapshot
abbrev pub KeepsPins : List ℕ → Change → Type 0
KeepsPins pins (Commit label writes) = Unit {0}
KeepsPins pins (Drop below) = AllByRecursion (λ pin. below ≤ pin) pins

pub record MayChange (machine : Machine) (change : Change) : Type 0 where
  pub goes : machine.desk.stopped ≡ false
  pub follows : MayFollow (now machine.desk.history).base change
  pub pins : KeepsPins machine.pins change

-- a batch has 1 to 64 captures, of those that are there
pub record MayTake (desk : Desk) (count : ℕ) : Type 0 where
  pub some : 1 ≤ count
  pub few : count ≤ BATCH
  pub there : desk.acked + count ≤ (now desk.history).base.captures

-- the machine with its desk, or its vault, at another state
abbrev pub with_desk : Machine → Desk → Machine
with_desk m desk = record m { desk = desk }

abbrev pub with_vault : Machine → Vault → Machine
with_vault m vault = record m { vault = vault }

pub data Step : Machine → Machine → Type 0 where
  Quiet : (m : Machine) → Step m m
  -- of the desk
  Changes : (m : Machine) (change : Change) → MayChange m change → Step m (with_desk m (changed m.desk change))
  ChangeFails : (m : Machine) (change : Change) → MayChange m change
      → Step m (with_desk m (change_failed m.desk change))
  WritesBack : (m : Machine) (page need : ℕ) → MayWrite m.desk page need
      → Step m (with_desk m (written_desk m.desk page need))
  WriteFails : (m : Machine) (page need : ℕ) (left : List ℕ) → MayWrite m.desk page need
      → Step m (with_desk m (write_failed m.desk page need left))
  Settles : (m : Machine) → m.desk.stopped ≡ false → Step m (with_desk m (settled m.desk))
  Stops : (m : Machine) → Step m (with_desk m (stopped m.desk))
  CutsLog : (m : Machine) → MayCut m.desk → Step m (with_desk m (cut m.desk))
  CutFails : (m : Machine) → MayCut m.desk → Step m (with_desk m (cut_failed m.desk))
  -- of the vault
  Lays : (m : Machine) (batch : Batch) (slots : ℕ → List ℕ) (loose : ℕ → Bool) → Contains m.batches batch
      → m.vault.stopped ≡ false → MayLay m.vault batch
      → LeavesOthers (capacity_of m.desk.history) m.vault batch slots loose
      → HoldsBatch (capacity_of m.desk.history) batch slots loose
      → Step m (with_vault m (laid m.vault batch slots loose))
  LayFails : (m : Machine) (batch : Batch) (slots : ℕ → List ℕ) (loose : ℕ → Bool) → Contains m.batches batch
      → m.vault.stopped ≡ false → MayLay m.vault batch
      → LeavesOthers (capacity_of m.desk.history) m.vault batch slots loose
      → Step m (with_vault m (lay_failed m.vault slots loose))
  EnterFails : (m : Machine) (batch : Batch) → Contains m.batches batch → m.vault.stopped ≡ false
      → MayEnter m.vault batch → Step m (with_vault m (enter_failed m.vault batch))
  Trims : (m : Machine) (low : ℕ) → m.vault.stopped ≡ false → MayTrim m.desk.history m.vault low
      → Step m (with_vault m (trimmed m.vault low))
  TrimFails : (m : Machine) (low : ℕ) → m.vault.stopped ≡ false → MayTrim m.desk.history m.vault low
      → Step m (with_vault m (trim_failed m.vault low))
  -- between the two: a batch goes to the vault, and its receipt to the desk
  TakesBatch : (m : Machine) (count : ℕ) → MayTake m.desk count
      → Step m (record m { batches = batch_of m.desk count ∷ m.batches })
  Enters : (m : Machine) (batch : Batch) → Contains m.batches batch → m.vault.stopped ≡ false → MayEnter m.vault batch
      → Step m (record m { vault = entered m.vault batch; receipts = batch_end batch ∷ m.receipts })
  Acknowledges : (m : Machine) (count : ℕ) → Contains m.receipts count
      → count ≤ (now m.desk.history).base.captures → Step m (with_desk m (acked_to m.desk count))
  -- of readers
  Looks : (m : Machine) (snapshot : ℕ) → is_retained snapshot (now m.desk.history).base.marks ≡ true
      → Step m (record m { pins = snapshot ∷ m.pins })
  LooksAtAll : (m : Machine)
      → Step m (record m { pins = map (λ (mark : Mark). mark.number) (now m.desk.history).base.marks ++ m.pins })
  Unlooks : (m : Machine) (pins : List ℕ) → ((pin : ℕ) → Contains pins pin → Contains m.pins pin)
      → Step m (record m { pins = pins })
  Peeks : (m : Machine) (snapshot page : ℕ) → Contains m.pins snapshot
      → Step m (record m { told = told_of m.desk snapshot page ∷ m.told })

pub data Run : Machine → Machine → Type 0 where
  Done : {m : Machine} → Run m m
  More : {first next last : Machine} → Step first next → Run next last → Run first last
