-- What holds of a machine between its steps.
use Rattle.std.specs.Prelude.{◌≡◌, ◌≤◌, true, ℕ, Contains}
use Rattle.std.specs.List.{AllByRecursion}
use Rattle.retro_base.specs.FirstMet.{first_met}
use Rattle.history.specs.Marks.{is_retained, newest, start_of}
use Rattle.history.specs.Writes.{pages_of}
use Rattle.history.specs.History.{History, now, captures, pages_as_of, bytes_at}
use Rattle.skippy.specs.Mappings.{end_of}
use Rattle.race_model.specs.Fits.{DeskFits, VaultFits, BatchFits}
use Rattle.race_model.specs.Machine.{Machine}
use Rattle.race_model.specs.Reading.{PeekTold}

-- What a reader was told fits: while the snapshot is retained, the page as of it has the bytes of its first capture
-- from the start up to the count that was told, else those that were told.
pub record ToldFits (history : History) (acked : ℕ) (told : PeekTold) : Type 0 where
  pub known : told.snapshot ≤ newest (now history).base.marks
  pub upto : told.upto ≤ acked
  pub start : is_retained told.snapshot (now history).base.marks ≡ true
      → told.start ≡ start_of told.snapshot (now history).base.marks
  pub reads : is_retained told.snapshot (now history).base.marks ≡ true → pages_as_of history told.snapshot told.page
      ≡ bytes_at (captures history) told.bytes
      (first_met (pages_of (captures history)) told.start told.upto told.page)

-- The desk and the vault fit; what is acknowledged is held; batches are parts of the captures, and receipts tell no
-- more than is held; pinned snapshots are retained.
pub record Fits (machine : Machine) : Type 0 where
  pub desk : DeskFits machine.desk
  pub vault : VaultFits machine.desk.history machine.desk.floor machine.vault
  pub order : machine.desk.acked ≤ end_of machine.vault.mappings
  pub batches : AllByRecursion (BatchFits machine.desk.history) machine.batches
  pub receipts : AllByRecursion (λ count. count ≤ end_of machine.vault.mappings) machine.receipts
  pub pins : (pin : ℕ) → Contains machine.pins pin → is_retained pin (now machine.desk.history).base.marks ≡ true
  pub told : AllByRecursion (ToldFits machine.desk.history machine.desk.acked) machine.told
