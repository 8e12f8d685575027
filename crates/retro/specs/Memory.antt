-- The run of a plan from an opening, and over an empty store that is made for it.
use Rattle.std.specs.Prelude.{◌≡◌, ℕ, [], IfOk, MatchResult, Result}
use Rattle.disk_model.specs.declared.four.Sizes.{Sizes}
use Rattle.retro_base.specs.declared.device.Device.{Device}
use Rattle.retro_base.specs.declared.limits.TheConstants.{MEMORY_CAPACITY, MEMORY_PAGES}
use Rattle.retro_base.specs.declared.refusal.Refusal.{Refusal}
use Rattle.retro_base.specs.declared.refusal.Refusal.TheVariants.{OutOfMemory}
use Rattle.history.specs.Lines.{base_of}
use Rattle.history.specs.Replayed.{page_in}
use Rattle.journal_law.specs.Lawful.{Ground, Opening}
use Rattle.journal_law.specs.World.{newest}
use Rattle.tables.specs.Tables.{no_tables}
use Rattle.session.specs.Plan.{Plan}
use Rattle.session.specs.Replies.{kept_by_place}
use Rattle.session.specs.Sql.{sql}
use Rattle.store_format.specs.Empty.{empty_base, zero_pages}
use Rattle.retro.specs.Phases.{LeftLawful, RepliedOver}
use Rattle.retro.specs.declared.storing.Ended.{Ended}

-- the store of a run that names no folder
abbrev pub memory_sizes : Sizes
memory_sizes = record { pages = MEMORY_PAGES; capacity = MEMORY_CAPACITY }

-- What an empty store of these sizes is opened with: so says its log, its pages are zero, no snapshot is retained, and
-- its devices have counted so many faults.
abbrev pub empty_ground : Sizes → (Device → ℕ) → Ground
empty_ground sizes faults = record {
  base = empty_base sizes;
  pages = record { current = page_in (zero_pages sizes.pages); marks = [] };
  faults = faults;
}

-- it holds no tables
abbrev pub empty_opening : (sizes : Sizes) → (Device → ℕ) → Opening (sql sizes.pages)
empty_opening sizes faults = record {
  opened = empty_ground sizes faults;
  tables = record { current = no_tables; marks = [] };
}

-- What a run of the plan leaves that began with this opening, and behind which faults are counted so: a lawful journal,
-- which tells what was replied to each item.
pub record LeftFrom (size : ℕ) (plan : Plan) (o : Opening (sql size)) (ending : Device → ℕ) (ended : Ended)
    : Type 0 where
  pub lawful : LeftLawful size plan o ending ended.journal
  pub replied : IfOk ended.kept (λ kept. RepliedOver size plan o ending ended.journal (kept_by_place kept))
  pub newest_is : ended.newest ≡ newest o.opened.pages
  pub captures_are : ended.captures ≡ (base_of o.opened.base ended.journal).captures

-- ---- in memory, where no call of a device fails

abbrev pub memory_opening : Opening (sql MEMORY_PAGES)
memory_opening = empty_opening memory_sizes (λ device. 0)

-- a plan was run from this opening, and no count of faults rose; or it was not, for want of memory
abbrev pub RunsFrom : (size : ℕ) → Opening (sql size) → Plan → Result Ended Refusal → Type 0
RunsFrom size o plan ended =
    MatchResult ended (LeftFrom size plan o o.opened.faults) (λ why. why ≡ OutOfMemory)
