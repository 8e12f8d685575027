-- The texts of replies, in which sessions have their names.
use Rattle.std.specs.Prelude.{◌++◌, ℕ, List, [], codes, length, Option, Some, None, Result, Ok, Err, slice_get}
use Rattle.std.specs.Fmt.{decimal}
use Rattle.std.specs.Option.{option_map_or}
use Rattle.retro_base.specs.Device.{device_name}
use Rattle.retro_base.specs.Refusal.{name_of, number_of}
use Rattle.retro_base.specs.declared.refusal.Refusal.{Refusal}
use Rattle.retro_base.specs.declared.refusal.Refusal.TheVariants as refusal
use Rattle.sql_select.specs.declared.answer.Answer.{Answer}
use Rattle.tables.specs.declared.reply.Reply.{Reply}
use Rattle.session.specs.Line.{line}
use Rattle.session.specs.Texts.{reply_text, value_text}
use Rattle.journal_law.specs.Language.{Words}

-- the name of a session of the phase, by its place from 0
abbrev pub session_name : List (List ℕ) → ℕ → List ℕ
session_name names place = option_map_or (λ (name : List ℕ). name) (slice_get names place) []

abbrev pub word : List ℕ → List ℕ
word text = codes " " ++ text

-- the values of a refusal, in their order: a session by its name, a device in lower case; of a full journal none
abbrev pub values_text : List (List ℕ) → Refusal → List ℕ
values_text names (refusal.DiskFault device count) = word (device_name device) ++ value_text count
values_text names (refusal.NotAStore device place) = word (device_name device) ++ value_text place
values_text names (refusal.BadScript number) = value_text number
values_text names (refusal.Overlap session other) = word (session_name names session) ++ value_text other
values_text names (refusal.NoSuchSnapshot asked newest) = value_text asked ++ value_text newest
values_text names (refusal.Dropped asked oldest) = value_text asked ++ value_text oldest
values_text names (refusal.Pinned snapshot session) = value_text snapshot ++ word (session_name names session)
values_text names (refusal.ArchiveFull needed room) = value_text needed ++ value_text room
values_text names (refusal.PagesFull pages) = value_text pages
values_text names (refusal.TooManyPages needed) = value_text needed
values_text names (refusal.Stopped device count) = word (device_name device) ++ value_text count
values_text names (refusal.NoRoom needed free) = value_text needed ++ value_text free
values_text names (refusal.SnapshotsFull retained) = value_text retained
values_text names (refusal.Syntax place) = value_text place
values_text names (refusal.RowTooLong bytes) = value_text bytes
values_text names (refusal.NotOneValue snapshot) = value_text snapshot
values_text names other = []

-- a refusal: its number, its name and its values
abbrev pub refusal_text : List (List ℕ) → Refusal → List ℕ
refusal_text names why =
    line (codes "refused " ++ decimal (number_of why) ++ codes " " ++ name_of why ++ values_text names why)

-- the reply of a statement, or its refusal, which names no session
abbrev pub outcome_text : Result Reply Refusal → List ℕ
outcome_text (Ok reply) = reply_text reply
outcome_text (Err why) = refusal_text [] why

-- the reply of a commit that declared a snapshot of this number, or none
abbrev pub committed_as : Option ℕ → List ℕ
committed_as None = line (codes "committed")
committed_as (Some number) = line (codes "committed as " ++ decimal number)

abbrev pub committed_text : ℕ → Option (List ℕ) → List ℕ
committed_text number None = line (codes "committed")
committed_text number (Some label) = line (codes "committed as " ++ decimal number)

-- how many rows a call's result has
abbrev pub count_text : Answer → List ℕ
count_text answer = line (codes "ok " ++ decimal (length answer.rows))

abbrev pub rolled_back_text : List ℕ
rolled_back_text = line (codes "rolled back")

abbrev pub not_run_text : List ℕ
not_run_text = line (codes "not run")

-- the reply lines that depend on no tables, in a phase whose sessions have these names
abbrev pub words_of : List (List ℕ) → Words
words_of names = record {
  committed = committed_text;
  rolled_back = rolled_back_text;
  dropped = λ below. line (codes "dropped below " ++ decimal below);
  refused = refusal_text names;
  not_run = not_run_text;
}
