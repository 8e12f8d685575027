-- The other side as it was last left, in the words of the store.
use Rattle.std.proofs.Common.{◌≡◌, ◌∙◌, ℕ, List, Option, Some, ap, subst, sym}
use Rattle.disk_model.specs.Disk.{State}
use Rattle.history.specs.declared.journal.Line.{Line}
use Rattle.archive.specs.Archive.{Running}
use Rattle.turn.specs.Rule.{DeskBeside, VaultBeside}
use Rattle.store.specs.declared.desk_side.DeskSide.{DeskSide}
use Rattle.store.specs.declared.start.Start.{Start}
use Rattle.store.specs.Seats.{ArchiveBeside, DeskSideBeside, journal}
use Rattle.store.specs.Sides.{of_desk, of_vault}
use Rattle.store.specs.Start.{of_start}

module _ {D : Type 0} (is_honest : D → Type 0) (state : D → State) (faults : D → ℕ) where
  pub archive_beside : (side : DeskSide D) (seen_held : ℕ) → VaultBeside (of_start faults) (of_desk is_honest state faults) (of_vault is_honest state faults) side seen_held → ArchiveBeside is_honest state faults side seen_held
  archive_beside side seen_held near = record {
    archive = near.vault;
    stands = near.together.vault_fits.0;
    later = near.together.vault_fits.1;
    acked = near.together.acked;
    held = near.held;
  }

  pub some_is : (x y : Start D) → Some x ≡ Some y → x ≡ y
  some_is x y e = cc e

  abbrev pub desk_beside : (archive : Running D) (o : Option (Start D)) (lines : List Line) (start : Start D) → o ≡ Some start → DeskBeside (of_start faults) (of_desk is_honest state faults) (of_vault is_honest state faults) archive o lines
      → DeskSideBeside is_honest state faults archive start lines
  desk_beside archive o lines start is near = record {
    side = near.desk;
    begun = some_is near.desk.start start (sym near.opening ∙ is);
    stands = near.together.desk_fits.0;
    keeps = near.together.desk_fits.1;
    begins = near.begins;
    vault = near.together.vault_fits.0;
    acked = near.together.acked;
  }

  -- with its journal
  pub desk_beside_at : (archive : Running D) (o : Option (Start D)) (lines : List Line) (start : Start D) → o ≡ Some start →
      (near : DeskBeside (of_start faults) (of_desk is_honest state faults) (of_vault is_honest state faults) archive o lines) × (journal near.desk ≡ lines)
      → (near : DeskSideBeside is_honest state faults archive start lines) × (journal near.side ≡ lines)
  desk_beside_at archive o lines start is near = (desk_beside archive o lines start is near.0, near.1)
