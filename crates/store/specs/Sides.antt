-- What the locks know of the two sides of a store.
use Rattle.std.proofs.Common.{◌≡◌, ◌≤◌, ◌++◌, ℕ, List, None, sym, subst}
use Rattle.disk_model.specs.Disk.{State}
use Rattle.history.specs.declared.entry.Base.{Base}
use Rattle.history.specs.declared.journal.Line.{Line}
use Rattle.history.specs.Sound.{IsSound}
use Rattle.journal_book.specs.declared.work.Work.{Work}
use Rattle.journal_book.specs.Works.{work_at}
use Rattle.archive.specs.Archive.{Running}
use Rattle.race_model.specs.Vault.{Vault}
use Rattle.race_model.proofs.Apart.{all_outlive_lines}
use Rattle.turn.specs.Meanings.{DeskMeaning, VaultMeaning}
use Rattle.store.specs.declared.desk_side.DeskSide.{DeskSide}
use Rattle.store.specs.declared.start.Start.{Start}
use Rattle.store.specs.Tried.{AreTried}
use Rattle.store.specs.Workers.{WorkersFit}
use Rattle.store.specs.Start.{AreAsHonest, IsAsHonest, IsCoreFrom, IsLaterArchive, IsLaterCore, IsOpenedTo}
use Rattle.store.specs.Start.{IsVaultFrom, Origin, desk_counts, opened_base, vault_counts, with_slots}

-- what is open is of a seat of the store
abbrev pub AreOfSeats : {D : Type 0} → DeskSide D → Type 0
AreOfSeats side = (n : ℕ) → side.start.seats.value ≤ n → work_at side.core.ledger.works.slots n ≡ None

module _ {D : Type 0} (is_honest : D → Type 0) (state : D → State) where
  -- The store was opened to some history, and the core is a plain desk behind each to which it was opened. Its
  -- devices are as honest as they were.
  pub record DeskStands (side : DeskSide D) : Type 0 where
    pub honest : AreAsHonest is_honest side.start.core.value side.core
    pub origin : Origin
    pub opened : IsOpenedTo is_honest state side.start origin
    pub stands : (other : Origin) → IsOpenedTo is_honest state side.start other →
        IsCoreFrom is_honest state other side.core

  -- Each worker that told no fault has its line; what is open is of a seat of the store; each commit ended an attempt;
  -- and no device has had fewer faults than at the opening.
  pub record Keeps (faults : D → ℕ) (side : DeskSide D) : Type 0 where
    pub workers : WorkersFit side.core.ledger
    pub of_seats : AreOfSeats side
    pub tried : AreTried side.core.ledger
    pub later : IsLaterCore faults side.start.core.value side.core

  abbrev pub IsDeskSide : (D → ℕ) → DeskSide D → Type 0
  IsDeskSide faults side = DeskStands side × Keeps faults side

  -- The archive is a vault that fits each such history behind these lines. Its devices are as honest as they were,
  -- and its log is of as many mappings as there are slots.
  pub record VaultStands (archive : Running D) (start : Start D) (lines : List Line) : Type 0 where
    pub honest : IsAsHonest is_honest start.archive.value archive
    pub slots : archive.side.log.capacity ≡ archive.pagelog.blocks
    pub stands : (origin : Origin) → IsOpenedTo is_honest state start origin →
        IsVaultFrom is_honest state (is_honest start.core.value.desk.pool.file.disk) origin lines archive

  -- it is, and no device of its has had fewer faults than at the opening
  abbrev pub IsVaultSide : (D → ℕ) → Running D → Start D → List Line → Type 0
  IsVaultSide faults archive start lines =
      VaultStands archive start lines × IsLaterArchive faults start.archive.value archive

  abbrev pub of_desk : (D → ℕ) → DeskMeaning (Start D) Work (DeskSide D)
  of_desk faults = record {
    opening = λ side. side.start;
    journal = λ side. side.core.ledger.book.lines;
    Fits = IsDeskSide faults;
    work_of = λ side. work_at side.core.ledger.works.slots;
    acked = λ side. side.core.desk.queue.first;
    counts = λ side. desk_counts faults side.core;
  }

  abbrev pub of_vault : (D → ℕ) → VaultMeaning (Start D) (Running D)
  of_vault faults = record {
    Fits = IsVaultSide faults;
    held = λ archive. archive.side.held;
    counts = vault_counts faults;
  }

  pub vault_outlives : (archive : Running D) (start : Start D) (lines more : List Line) →
      VaultStands archive start lines → IsSound (opened_base start) (lines ++ more) →
      VaultStands archive start (lines ++ more)
  vault_outlives archive start lines more stands lawful = record {
    honest = stands.honest;
    slots = stands.slots;
    stands = λ origin opened.
        let found = stands.stands origin opened in
        let outlives =
        λ (vault : Vault). all_outlive_lines.vault origin.floor vault origin.history lines more opened.fits.consistent
        (subst (λ (b : Base). IsSound b (lines ++ more)) (sym opened.base) lawful) in
        record {
          vault = found.vault;
          is = found.is;
          captured = found.captured;
          numbers = outlives (with_slots found.captured found.vault) found.numbers;
          fits = λ honest. outlives found.vault (found.fits honest);
          slots = found.slots;
          pages = found.pages;
          in_version = found.in_version;
        };
  }
