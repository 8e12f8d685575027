-- The refusals by number and by name.
use Rattle.std.specs.Prelude.{ℕ, List, codes}
use Rattle.retro_base.specs.declared.refusal.Refusal.{Refusal}
use Rattle.retro_base.specs.declared.refusal.Refusal.TheVariants.{OutOfMemory, DiskFault, SourceFault, SinkFault}
use Rattle.retro_base.specs.declared.refusal.Refusal.TheVariants.{NotAStore, BadWords, BadScript, Overlap}
use Rattle.retro_base.specs.declared.refusal.Refusal.TheVariants.{NoSuchSnapshot, Dropped, Pinned}
use Rattle.retro_base.specs.declared.refusal.Refusal.TheVariants.{ArchiveFull, JournalFull, PagesFull, TooManyPages}
use Rattle.retro_base.specs.declared.refusal.Refusal.TheVariants.{Stopped, NoRoom, SnapshotsFull, Syntax}
use Rattle.retro_base.specs.declared.refusal.Refusal.TheVariants.{UnknownName, NameTaken, WrongType}
use Rattle.retro_base.specs.declared.refusal.Refusal.TheVariants.{Overflow, RowTooLong, NotOneValue, BadSizes}

-- the number of a refusal
abbrev pub number_of : Refusal → ℕ
number_of OutOfMemory = 1
number_of (DiskFault _ _) = 2
number_of SourceFault = 3
number_of SinkFault = 4
number_of (NotAStore _ _) = 5
number_of BadWords = 6
number_of (BadScript _) = 7
number_of (Overlap _ _) = 8
number_of (NoSuchSnapshot _ _) = 9
number_of (Dropped _ _) = 10
number_of (Pinned _ _) = 11
number_of (ArchiveFull _ _) = 12
number_of (JournalFull _ _) = 13
number_of (PagesFull _) = 14
number_of (TooManyPages _) = 15
number_of (Stopped _ _) = 16
number_of (NoRoom _ _) = 17
number_of (SnapshotsFull _) = 18
number_of (Syntax _) = 19
number_of UnknownName = 20
number_of NameTaken = 21
number_of WrongType = 22
number_of Overflow = 23
number_of (RowTooLong _) = 24
number_of (NotOneValue _) = 25
number_of BadSizes = 26

-- the name of a refusal
abbrev pub name_of : Refusal → List ℕ
name_of OutOfMemory = codes "OutOfMemory"
name_of (DiskFault _ _) = codes "DiskFault"
name_of SourceFault = codes "SourceFault"
name_of SinkFault = codes "SinkFault"
name_of (NotAStore _ _) = codes "NotAStore"
name_of BadWords = codes "BadWords"
name_of (BadScript _) = codes "BadScript"
name_of (Overlap _ _) = codes "Overlap"
name_of (NoSuchSnapshot _ _) = codes "NoSuchSnapshot"
name_of (Dropped _ _) = codes "Dropped"
name_of (Pinned _ _) = codes "Pinned"
name_of (ArchiveFull _ _) = codes "ArchiveFull"
name_of (JournalFull _ _) = codes "JournalFull"
name_of (PagesFull _) = codes "PagesFull"
name_of (TooManyPages _) = codes "TooManyPages"
name_of (Stopped _ _) = codes "Stopped"
name_of (NoRoom _ _) = codes "NoRoom"
name_of (SnapshotsFull _) = codes "SnapshotsFull"
name_of (Syntax _) = codes "Syntax"
name_of UnknownName = codes "UnknownName"
name_of NameTaken = codes "NameTaken"
name_of WrongType = codes "WrongType"
name_of Overflow = codes "Overflow"
name_of (RowTooLong _) = codes "RowTooLong"
name_of (NotOneValue _) = codes "NotOneValue"
name_of BadSizes = codes "BadSizes"
