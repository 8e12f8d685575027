-- The plan of a script is within the limits of scripts.
use Rattle.std.proofs.Common.{◌≡◌, ◌∙◌, ℕ, List, [], ◌∷◌, length, suc, Some, refl, ap, sym, subst, arith}
use Rattle.std.specs.List.{AllByRecursion}
use Rattle.script.specs.Limits.{ItemFits, PhaseFits, ScriptFits}
use Rattle.script.specs.Limits as limits
use Rattle.script.specs.declared.structure.Item.{Item}
use Rattle.script.specs.declared.structure.Item.TheVariants as item
use Rattle.script.specs.declared.structure.Phase.{Phase}
use Rattle.script.specs.declared.structure.Script.{Script}
use Rattle.script.specs.declared.structure.Session.{Session}
use Rattle.script.specs.declared.structure.Single.TheVariants as one
use Rattle.sql_lexer.specs.declared.token.Token.{Token}
use Rattle.sql_parts.specs.declared.parsed.Parsed.{Parsed}
use Rattle.sql_parts.specs.declared.parsed.Parsed.TheVariants as parsed
use Rattle.sql_text.proofs.Meaning.{says}
use Rattle.sql_text.specs.Line.{HasLimits, Says, Spells}
use Rattle.sql_text.specs.Places.{tokens_of}
use Rattle.sql_tree.specs.Statement.{IsSelect}
use Rattle.sql_tree.specs.declared.select.Select.{Select}
use Rattle.sql_tree.specs.declared.statement.Statement.TheVariants as statement
use Rattle.session.specs.Plan.{ArePhases, AreSessions, AreTasks, IsPlan, IsTask, Plan, PlanFits, SessionFits, SessionsFit, TaskFits}
use Rattle.session.specs.declared.plan.SessionPlan.{SessionPlan}
use Rattle.session.specs.declared.plan.Task.{Task}
use Rattle.session.specs.declared.plan.Task.TheVariants as task

pub empty : {A : Type 0} (xs : List A) → length xs ≡ 0 → xs ≡ []
empty [] e = refl
empty (x ∷ xs) e = absurd (omega (arith, e))

-- what a sentence says is within the limits of a statement
said_within : (ts : List Token) (p : Parsed) → Says ts p → HasLimits p
said_within ts p said =
    let meant = says ts said.0 said.1 in
    let same : meant.0 ≡ p = one_parsed meant.0 p (sym meant.1 ∙ said.2) in
    subst HasLimits same meant.2
  where
    one_parsed : (a b : Parsed) → Some a ≡ Some b → a ≡ b
    one_parsed a b e = cc

query_within : (text : List ℕ) (query : Select) → Spells text (parsed.Plain (statement.Select query)) → IsSelect query
query_within text query spells = said_within (tokens_of spells.0) (parsed.Plain (statement.Select query)) spells.2

task_fits : (i : Item) (t : Task) → IsTask i t → ItemFits i → TaskFits t
task_fits (item.Transaction given) (task.Transaction asked) is fits = rw is fits
task_fits (item.Single (one.AsOf query)) (task.Transaction asked) is fits = absurd is
task_fits (item.Single line) (task.Transaction asked) is fits = absurd is
task_fits (item.Transaction given) (task.Call said) is fits = absurd is
task_fits (item.Single (one.Call call places)) (task.Call said) is fits = query_within call.query said.query is.query.1
task_fits (item.Single line) (task.Call said) is fits = absurd is
task_fits i t is fits = tt

tasks_fit : (items : List Item) (tasks : List Task) → AreTasks items tasks → AllByRecursion ItemFits items → (length tasks ≡ length items) × AllByRecursion TaskFits tasks
tasks_fit [] [] are fit = (refl, tt)
tasks_fit (i ∷ items) (t ∷ tasks) are fit =
    let rest = tasks_fit items tasks are.1 fit.1 in
    (ap suc rest.0, (task_fits i t are.0 fit.0, rest.1))
tasks_fit [] (t ∷ tasks) are fit = absurd are
tasks_fit (i ∷ items) [] are fit = absurd are

sessions_fit : (sessions : List Session) (plans : List SessionPlan) → AreSessions sessions plans → AllByRecursion limits.SessionFits sessions → (length plans ≡ length sessions) × AllByRecursion SessionFits plans
sessions_fit [] [] are fit = (refl, tt)
sessions_fit (s ∷ sessions) (p ∷ plans) are fit =
    let rest = sessions_fit sessions plans are.2 fit.1 in
    let tasks = tasks_fit s.items p.tasks are.1 fit.0.1 in
    (ap suc rest.0, ((rw tasks.0 fit.0.0, tasks.1), rest.1))
sessions_fit [] (p ∷ plans) are fit = absurd are
sessions_fit (s ∷ sessions) [] are fit = absurd are

phases_fit : (phases : List Phase) (plan : Plan) → ArePhases phases plan → AllByRecursion PhaseFits phases → (length plan ≡ length phases) × AllByRecursion SessionsFit plan
phases_fit [] [] are fit = (refl, tt)
phases_fit (p ∷ phases) (sessions ∷ plan) are fit =
    let rest = phases_fit phases plan are.1 fit.1 in
    let here = sessions_fit p.sessions sessions are.0 fit.0.1 in
    (ap suc rest.0, ((rw here.0 fit.0.0, here.1), rest.1))
phases_fit [] (sessions ∷ plan) are fit = absurd are
phases_fit (p ∷ phases) [] are fit = absurd are

pub plan_fits : (script : Script) (plan : Plan) → IsPlan script plan → ScriptFits script → PlanFits plan
plan_fits script plan is fits =
    let all = phases_fit script.phases plan is fits.1 in
    (rw all.0 fits.0, all.1)
