-- How a page as of a snapshot is read: what the desk tells, and later what the vault finds.
use Rattle.std.specs.Prelude.{◌%◌, max, ℕ, List, length, Option, Some, None}
use Rattle.retro_base.specs.FirstMet.{first_met}
use Rattle.history.specs.Marks.{start_of}
use Rattle.history.specs.Writes.{pages_of}
use Rattle.history.specs.History.{now, captures, bytes_at}
use Rattle.skippy.specs.Mappings.{first_in}
use Rattle.race_model.specs.Desk.{Desk}
use Rattle.race_model.specs.Vault.{Vault}

-- What a reader of a page as of a snapshot was told: the bytes to take where the vault finds nothing from `start` up to
-- `upto`.
pub record PeekTold : Type 0 where
  pub snapshot : ℕ
  pub page : ℕ
  pub start : ℕ
  pub upto : ℕ
  pub bytes : List ℕ

-- the page's first capture from the start on that is not yet acknowledged, else the page as it is
abbrev pub told_of : Desk → ℕ → ℕ → PeekTold
told_of desk snapshot page =
    let start : ℕ = start_of snapshot (now desk.history).base.marks in
    let images = captures desk.history in
    record {
      snapshot = snapshot;
      page = page;
      start = start;
      upto = desk.acked;
      bytes =
          bytes_at images ((now desk.history).pages page)
          (first_met (pages_of images) (max start desk.acked) (length images) page);
    }

abbrev pub in_slot : Vault → ℕ → List ℕ → Option ℕ → List ℕ
in_slot vault capacity bytes None = bytes
in_slot vault capacity bytes (Some number) = vault.slots (number % capacity)

-- the bytes in the slot of the page's first mapping from the start up to the count that was told, else the bytes that
-- were told
abbrev pub found : Vault → ℕ → PeekTold → List ℕ
found vault capacity told = in_slot vault capacity told.bytes (first_in vault.mappings told.start told.upto told.page)
