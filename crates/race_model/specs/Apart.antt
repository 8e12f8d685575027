-- What holds of the desk, of the vault, and of what goes between them, where nobody holds both: each was seen at its
-- own place of one history.
use Rattle.std.specs.Prelude.{◌≡◌, ◌+◌, ◌≤◌, ◌<◌, ◌++◌, true, false, ℕ, Bool, List, Contains}
use Rattle.retro_base.specs.declared.limits.TheConstants.{BATCH}
use Rattle.history.specs.declared.entry.Change.{Change}
use Rattle.history.specs.declared.journal.Line.{Line}
use Rattle.history.specs.Journal.{after_journal}
use Rattle.history.specs.Laws.{IsConsistent, AllKeepNewest}
use Rattle.history.specs.Marks.{is_retained, oldest_start}
use Rattle.history.specs.Right.{AllMayFollow}
use Rattle.history.specs.Sound.{IsSound}
use Rattle.history.specs.History.{History, now, with_changes, pages_as_of}
use Rattle.skippy.specs.Mappings.{Mappings, end_of, first_in}
use Rattle.race_model.specs.Desk.{Desk, captured, capacity_of}
use Rattle.race_model.specs.Vault.{Maplog, Vault, Batch, batch_end, IsMaplogOf}
use Rattle.race_model.specs.Fits.{HistoryFits, DeskFits, VaultFits, BatchFits}
use Rattle.race_model.specs.Machine.{Machine, MayTake, MayWrite, MayCut, MayLay, MayEnter}
use Rattle.race_model.specs.Machine.{batch_of, settled, laid, entered, trimmed}
use Rattle.race_model.specs.Invariant.{ToldFits, Fits}
use Rattle.race_model.specs.Reading.{PeekTold, told_of, found}

-- ---- what fits a history fits it still when it has gone on

abbrev pub HistoryOutlives : Type 0
HistoryOutlives = (history : History) (floor : ℕ) (more : List Change) → HistoryFits history floor
    → AllMayFollow (now history).base more → HistoryFits (with_changes history more) floor

-- A history goes on where it is consistent and its drops leave the newest snapshot. A vault, a batch and what a reader
-- was told fit it then as before.
abbrev pub Outlives : (History → Type 0) → Type 0
Outlives Fit = (history : History) (more : List Change) → IsConsistent history → AllKeepNewest (now history).base more
    → Fit history → Fit (with_changes history more)

abbrev pub HistoryOutlivesLines : Type 0
HistoryOutlivesLines = (history : History) (floor : ℕ) (lines more : List Line)
    → IsSound (now history).base (lines ++ more) → HistoryFits (after_journal history lines) floor
    → HistoryFits (after_journal history (lines ++ more)) floor

-- the same over the lines of a sound journal
abbrev pub OutlivesLines : (History → Type 0) → Type 0
OutlivesLines Fit = (history : History) (lines more : List Line) → IsConsistent history
    → IsSound (now history).base (lines ++ more) → Fit (after_journal history lines)
    → Fit (after_journal history (lines ++ more))

-- what a reader was told, of no more captures than there are
pub record ToldBelow (acked : ℕ) (told : PeekTold) (history : History) : Type 0 where
  pub there : acked ≤ (now history).base.captures
  pub fits : ToldFits history acked told

pub record AllOutlive (Outlive : (History → Type 0) → Type 0) : Type 0 where
  pub vault : (floor : ℕ) (vault : Vault) → Outlive (λ history. VaultFits history floor vault)
  pub batch : (batch : Batch) → Outlive (λ history. BatchFits history batch)
  pub told : (acked : ℕ) (told : PeekTold) → Outlive (ToldBelow acked told)

-- ---- the desk tells, and later the vault finds

-- what the desk tells of a page as of a retained snapshot is right
abbrev pub PeekTells : Type 0
PeekTells = (desk : Desk) (snapshot page : ℕ) → HistoryFits desk.history desk.floor
    → is_retained snapshot (now desk.history).base.marks ≡ true
    → ToldFits desk.history desk.acked (told_of desk snapshot page)

-- What the vault finds below the count that was told, or else what was told, is the page as of the snapshot. So it is
-- whichever of its Maplogs' mappings an archive keeps in memory that has stopped.
abbrev pub VaultFinds : Type 0
VaultFinds = (history : History) (floor acked : ℕ) (vault : Vault) (kept : Maplog) (told : PeekTold)
    → HistoryFits history floor → VaultFits history floor vault → IsMaplogOf vault kept → acked ≤ end_of vault.mappings
    → ToldFits history acked told → is_retained told.snapshot (now history).base.marks ≡ true
    → found (record vault { mappings = kept.mappings }) (capacity_of history) told
    ≡ pages_as_of history told.snapshot told.page

-- A page's first mapping from a retained start on, up to what is held, is one number in all of them.
abbrev pub FindsAlike : Type 0
FindsAlike = (history : History) (floor : ℕ) (vault : Vault) (kept : Maplog) (start upto page : ℕ)
    → HistoryFits history floor → VaultFits history floor vault → IsMaplogOf vault kept
    → oldest_start (now history).base.marks ≤ start → upto ≤ end_of vault.mappings
    → first_in kept.mappings start upto page ≡ first_in vault.mappings start upto page

-- The desk fits when it tells. Later the vault fits the history with more changes, and holds what the desk had
-- acknowledged. The snapshot is retained at both times.
abbrev pub PastIsRight : Type 0
PastIsRight = (desk : Desk) (more : List Change) (vault : Vault) (kept : Maplog) (snapshot page : ℕ)
    → let later : History = with_changes desk.history more in
    DeskFits desk → AllMayFollow (now desk.history).base more → VaultFits later desk.floor vault → IsMaplogOf vault kept
    → desk.acked ≤ end_of vault.mappings
    → is_retained snapshot (now desk.history).base.marks ≡ true → is_retained snapshot (now later).base.marks ≡ true
    → found (record vault { mappings = kept.mappings }) (capacity_of later) (told_of desk snapshot page)
    ≡ pages_as_of later snapshot page

-- So it is where the desk has seen the lines of a journal, and the vault more lines.
abbrev pub PastOverLines : Type 0
PastOverLines = (opening : History) (lines more : List Line) (desk : Desk) (vault : Vault) (kept : Maplog)
    (snapshot page : ℕ)
    → let later : History = after_journal opening (lines ++ more) in
    IsSound (now opening).base (lines ++ more) → desk.history ≡ after_journal opening lines → DeskFits desk
    → VaultFits later desk.floor vault → IsMaplogOf vault kept → desk.acked ≤ end_of vault.mappings
    → is_retained snapshot (now desk.history).base.marks ≡ true → is_retained snapshot (now later).base.marks ≡ true
    → found (record vault { mappings = kept.mappings }) (capacity_of later) (told_of desk snapshot page)
    ≡ pages_as_of later snapshot page

-- A reader was told something of a page as of a snapshot that is still pinned, whatever steps were done since.
abbrev pub FindAfterPeek : Type 0
FindAfterPeek = (machine : Machine) (told : PeekTold) → Fits machine → Contains machine.told told
    → Contains machine.pins told.snapshot
    → found machine.vault (capacity_of machine.desk.history) told
    ≡ pages_as_of machine.desk.history told.snapshot told.page

-- ---- what goes between

-- while the desk has captures that are not acknowledged, each count of 1 to `BATCH` of them is a batch, and fits
abbrev pub BatchesFit : Type 0
BatchesFit = (desk : Desk) (count : ℕ) → DeskFits desk → 1 ≤ count → count ≤ BATCH
    → desk.acked + count ≤ (now desk.history).base.captures
    → MayTake desk count × BatchFits desk.history (batch_of desk count)

-- A trim up to what is held leaves what is held, and each page's first mapping from the new lowest on, whatever a
-- history needs.
abbrev pub TrimLeaves : Type 0
TrimLeaves = (vault : Vault) (low : ℕ) → low ≤ end_of vault.mappings
    → let left : Mappings = (trimmed vault low).mappings in (end_of left ≡ end_of vault.mappings)
    × ((start upto page : ℕ)
    → left.low ≤ start → first_in left start upto page ≡ first_in vault.mappings start upto page)

-- ---- what a desk and a vault that go on may do

-- A dirty page may be written back once each of its captures is acknowledged: the desk needs no more of the archive
-- than that.
abbrev pub MayWriteBack : Type 0
MayWriteBack = (desk : Desk) (page : ℕ) → DeskFits desk → desk.stopped ≡ false → desk.dirty page ≡ true
    → ((number : ℕ) → desk.acked ≤ number → number < (now desk.history).base.captures
    → (captured desk.history number).page ≡ page → ⊥) → MayWrite desk page desk.acked

-- With no dirty page, and all captures acknowledged, the log may be cut behind a settling of the pages' device.
abbrev pub MayCutSettled : Type 0
MayCutSettled = (desk : Desk) → DeskFits desk → desk.stopped ≡ false → ((page : ℕ) → desk.dirty page ≡ false)
    → (now desk.history).base.captures ≤ desk.acked → MayCut (settled desk)

-- A batch of a desk that knows of all that the vault holds may be laid, and then entered. Then the vault holds the
-- batch's captures too, and the desk may be told so.
pub record MayBeSent (vault : Vault) (batch : Batch) (count captures : ℕ) : Type 0 where
  pub lay : MayLay vault batch
  pub enter : (slots : ℕ → List ℕ) (loose : ℕ → Bool) → MayEnter (laid vault batch slots loose) batch
  pub holds : end_of (entered vault batch).mappings ≡ end_of vault.mappings + count
  pub known : batch_end batch ≤ captures

abbrev pub MaySend : Type 0
MaySend = (desk : Desk) (vault : Vault) (count : ℕ) → DeskFits desk → MayTake desk count
    → desk.acked ≡ end_of vault.mappings → MayBeSent vault (batch_of desk count) count (now desk.history).base.captures
