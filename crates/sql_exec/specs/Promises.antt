-- What is promised of the calls.
use Rattle.std.specs.Prelude.{◌≡◌, ◌⊎◌, ◌<◌, ℕ, true, Option, Some, None, Result, Ok, Err, is_ok}
use Rattle.retro_base.specs.declared.refusal.Refusal.{Refusal}
use Rattle.retro_base.specs.declared.refusal.Refusal.TheVariants.{PagesFull}
use Rattle.sql_tree.specs.declared.select.Select.{Select as SelectRecord}
use Rattle.sql_tree.specs.declared.statement.Statement.{Statement}
use Rattle.sql_select.specs.declared.answer.Answer.{Answer}
use Rattle.tables.specs.declared.reply.Reply.{Reply}
use Rattle.tables.specs.Meaning.{asked, does}
use Rattle.tables.specs.Tables.{Tables}
use Rattle.pager.specs.Allows.{only}
use Rattle.pager.specs.Pages.{Pages, Leads, Narrows}
use Rattle.pager.specs.Stop.{Allowed, Answers, IsCaused, Leaves, Makes}
use Rattle.pager.specs.declared.stop.Stop.{Stop}
use Rattle.heap_laws.specs.Store.{free_pages}
use Rattle.relation_laws.specs.Work.{EditsWithin, IsInReach, Needs, LeavesFree, Work}
use Rattle.sql_exec.specs.Asking.{asked_of}
use Rattle.sql_exec.specs.Planning.{work_of}
use Rattle.sql_exec.specs.Running.{ran}
use Rattle.sql_exec.specs.Stored.{IsStored}

-- What a select answers. Wherever the pages shown are well-formed and hold tables, that is its answer over those
-- tables; over any pages, that is what it reads of them, and a refusal of the pages tells one that is broken.
pub record Asks {F : Type 0} (size : ℕ) (query : SelectRecord) (snapshot : Option ℕ) (tells : Pages → Pages → Type 0)
    (result : Result Answer (Stop F)) : Type 0 where
  pub over_tables : (base shown : Pages) (tables : Tables) → tells base shown → IsStored size shown tables
      → Allowed (λ answer. answer) (only (asked query snapshot tables)) result
  pub over_pages : Answers (λ answer. answer) tells (asked_of size query snapshot) result

-- what a call that only reads keeps, and what ended it
pub record KeepsReading {P X F : Type 0} (tells : P → Pages → Pages → Type 0) (goes : P → P → Type 0)
    (size faults : P → ℕ) (old new : P) (result : Result X (Stop F)) : Type 0 where
  pub narrows : Narrows (tells old) (tells new)
  pub goes_on : goes old new
  pub size_stays : size new ≡ size old
  pub cause : IsCaused (faults old) (faults new) result

-- what a statement edits: nothing, or only pages in the reach of its piece of work, which takes as many pages as it
-- needs
abbrev pub EditsFor : ℕ → Pages → Pages → Option Work → Type 0
EditsFor size was after None = after ≡ was
EditsFor size was after (Some work) = (needs : ℕ) × Needs size was work needs
    × LeavesFree work needs (free_pages size was) (free_pages size after)
    × EditsWithin was after (IsInReach size was work)

-- a piece of work needs more pages than can be taken
abbrev pub IsFull : ℕ → Pages → Option Work → Type 0
IsFull size was None = ⊥
IsFull size was (Some work) = (needs : ℕ) × Needs size was work needs × (free_pages size was < needs)

-- what is done by a statement that replies: the pages are well-formed, and hold the tables behind it
pub record IsDoneOver (size : ℕ) (statement : Statement) (snapshot : Option ℕ) (was : Pages) (tables : Tables)
    (reply : Reply) (after : Pages) : Type 0 where
  pub behind : Tables
  pub means : does statement snapshot tables ≡ Ok (behind, reply)
  pub stored : IsStored size after behind
  pub work : Option Work
  pub is_work : work_of statement snapshot tables ≡ Ok work
  pub edits : EditsFor size was after work

-- what is not done: the statement is refused by its meaning, or is not, and needs more pages than can be taken
abbrev pub IsRefusedOver : ℕ → Statement → Option ℕ → Pages → Tables → Refusal → Type 0
IsRefusedOver size statement snapshot was tables why =
    (does statement snapshot tables ≡ Err why)
    ⊎ ((why ≡ PagesFull size) × (is_ok (does statement snapshot tables) ≡ true)
    × (work : Option Work) × (work_of statement snapshot tables ≡ Ok work) × IsFull size was work)

-- what a statement replies and leaves over well-formed pages that hold these tables
abbrev pub IsRunOver : ℕ → Statement → Option ℕ → Pages → Tables → Result (Reply × Pages) Refusal → Type 0
IsRunOver size statement snapshot was tables (Ok answer) =
    IsDoneOver size statement snapshot was tables answer.0 answer.1
IsRunOver size statement snapshot was tables (Err why) = IsRefusedOver size statement snapshot was tables why

-- What a statement does. Wherever the pages shown before it are well-formed and hold tables, it replies and leaves what
-- it means over those tables; over any pages, that is what it reads of them and makes of them. After a refusal no page
-- was edited.
pub record Runs {F : Type 0} (size : ℕ) (statement : Statement) (snapshot : Option ℕ)
    (before after : Pages → Pages → Type 0) (result : Result Reply (Stop F)) : Type 0 where
  pub over_tables : Leads before after (λ was now. (tables : Tables) → IsStored size was tables
      → Leaves (λ reply. reply) (IsRunOver size statement snapshot was tables) was now result)
  pub over_pages : Makes (λ reply. reply) before after (ran size statement snapshot) result

-- what a call that edits keeps whatever it answers, and what ended it
pub record Keeps {P X F : Type 0} (goes : P → P → Type 0) (size faults : P → ℕ) (old new : P)
    (result : Result X (Stop F)) : Type 0 where
  pub goes_on : goes old new
  pub size_stays : size new ≡ size old
  pub cause : IsCaused (faults old) (faults new) result
