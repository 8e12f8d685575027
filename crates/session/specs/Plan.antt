-- What a script asks for. A call has its arguments read; a line that the grammar refuses, or a call with an argument
-- outside its form, has the place of the refusal.
use Rattle.std.specs.Prelude.{◌≡◌, ◌≤◌, ℕ, zero, suc, List, [], ◌∷◌, length, map, Option, None, Some, slice_get}
use Rattle.std.specs.List.{AllByRecursion}
use Rattle.std.specs.Option.{option_and_then, option_map, option_map_or}
use Rattle.retro_base.specs.declared.limits.TheConstants.{ITEMS, PHASES, SESSIONS}
use Rattle.retro_base.specs.declared.refusal.Refusal.TheVariants as refusal
use Rattle.retro_base.specs.declared.who.Who.{Who}
use Rattle.rql_arguments.specs.Calls.{IsCall, IsRefused}
use Rattle.script.specs.Limits.{EndFits, StatementFits}
use Rattle.sql_tree.specs.Statement.{IsSelect}
use Rattle.script.specs.declared.structure.Item.{Item as ScriptItem}
use Rattle.script.specs.declared.structure.Item.TheVariants as item
use Rattle.script.specs.declared.structure.Phase.{Phase}
use Rattle.script.specs.declared.structure.Script.{Script}
use Rattle.script.specs.declared.structure.Session.{Session}
use Rattle.script.specs.declared.structure.Single.TheVariants as single
use Rattle.session.specs.declared.plan.SessionPlan.{SessionPlan}
use Rattle.session.specs.declared.plan.Task.{Task}
use Rattle.session.specs.declared.plan.Task.TheVariants.{Transaction, AsOf, SnapIds, Call, DropBelow, Results, Syntax}

abbrev pub Plan : Type 0
Plan = List (List SessionPlan)

-- the item asks for this task
abbrev pub IsTask : ScriptItem → Task → Type 0
IsTask (item.Transaction t) (Transaction asked) = asked ≡ t
IsTask (item.Single (single.AsOf query)) (AsOf asked) = asked ≡ query
IsTask (item.Single (single.SnapIds query)) (SnapIds asked) = asked ≡ query
IsTask (item.Single (single.Call call places)) (Call said) = IsCall call said
IsTask (item.Single (single.Call call places)) (Syntax place) = IsRefused call places (refusal.Syntax place)
IsTask (item.Single (single.DropBelow below)) (DropBelow asked) = asked ≡ below
IsTask (item.Single (single.Results query)) (Results asked) = asked ≡ query
IsTask (item.Single (single.Syntax place)) (Syntax asked) = asked ≡ place
IsTask item task = ⊥

abbrev pub AreTasks : List ScriptItem → List Task → Type 0
AreTasks [] [] = Unit {0}
AreTasks (item ∷ items) (task ∷ tasks) = IsTask item task × AreTasks items tasks
AreTasks items tasks = ⊥

abbrev pub AreSessions : List Session → List SessionPlan → Type 0
AreSessions [] [] = Unit {0}
AreSessions (session ∷ sessions) (plan ∷ plans) = (plan.name ≡ session.name) × AreTasks session.items plan.tasks
    × AreSessions sessions plans
AreSessions sessions plans = ⊥

abbrev pub ArePhases : List Phase → Plan → Type 0
ArePhases [] [] = Unit {0}
ArePhases (phase ∷ phases) (plan ∷ plans) = AreSessions phase.sessions plan × ArePhases phases plans
ArePhases phases plans = ⊥

-- the script asks for this
abbrev pub IsPlan : Script → Plan → Type 0
IsPlan script plan = ArePhases script.phases plan

-- ---- limits

-- the statements and the label of a transaction are within the limits, and a call's query is
abbrev pub TaskFits : Task → Type 0
TaskFits (Transaction t) = AllByRecursion StatementFits t.statements × EndFits t.end
TaskFits (Call call) = IsSelect call.query
TaskFits task = Unit {0}

-- so are the number of a session's tasks, and each
abbrev pub SessionFits : SessionPlan → Type 0
SessionFits session = (length session.tasks ≤ ITEMS) × AllByRecursion TaskFits session.tasks

abbrev pub SessionsFit : List SessionPlan → Type 0
SessionsFit sessions = (length sessions ≤ SESSIONS) × AllByRecursion SessionFits sessions

abbrev pub PlanFits : Plan → Type 0
PlanFits plan = (length plan ≤ PHASES) × AllByRecursion SessionsFit plan

-- ---- places

-- A task, with the names of the sessions of its phase.
pub record Item : Type 0 where
  pub names : List (List ℕ)
  pub task : Task

abbrev pub names_of : List SessionPlan → List (List ℕ)
names_of sessions = map (λ (session : SessionPlan). session.name) sessions

-- what stands at a number, counted from 1
abbrev pub numbered : {A : Type 0} → List A → ℕ → Option A
numbered list zero = None
numbered list (suc place) = slice_get list place

abbrev pub item_in_phase : Who → List SessionPlan → Option Item
item_in_phase who sessions =
    option_map (λ (task : Task). record { names = names_of sessions; task = task })
    (option_and_then (λ (session : SessionPlan). numbered session.tasks who.item) (slice_get sessions who.session))

-- the item of this name: phases and items are numbered from 1, the sessions of a phase from 0
abbrev pub item_of : Plan → Who → Option Item
item_of plan who = option_and_then (item_in_phase who) (numbered plan who.phase)

-- the names of the sessions of a phase
abbrev pub names_at : Plan → ℕ → List (List ℕ)
names_at plan phase = option_map_or names_of (numbered plan phase) []

-- the session at a place of a phase, and its tasks
abbrev pub session_at : Plan → ℕ → ℕ → Option SessionPlan
session_at plan phase place =
    option_and_then (λ (sessions : List SessionPlan). slice_get sessions place) (numbered plan phase)

abbrev pub tasks_at : Plan → ℕ → ℕ → List Task
tasks_at plan phase place = option_map_or (λ (session : SessionPlan). session.tasks) (session_at plan phase place) []

-- these are the sessions of a phase
abbrev pub IsPhaseOf : Plan → ℕ → List SessionPlan → Type 0
IsPhaseOf plan phase sessions = numbered plan phase ≡ Some sessions

-- how many sessions the phase of this number has
abbrev pub EndsAt : Plan → ℕ → ℕ → Type 0
EndsAt plan phase place = (sessions : List SessionPlan) → numbered plan phase ≡ Some sessions → length sessions ≤ place
