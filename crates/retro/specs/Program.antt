-- The run of a script that names no folder, and how it ends.
use Rattle.std.specs.Prelude.{◌≡◌, ◌≢◌, ◌⊎◌, ◌<◌, ◌-◌, ◌^◌, ◌∷◌, ◌==◌, ℕ}
use Rattle.std.specs.Prelude.{IsTrue, List, [], Some, IfSome, Result, Ok, Err}
use Rattle.std.specs.List.{list_any}
use Rattle.retro_base.specs.declared.refusal.Refusal.{Refusal}
use Rattle.script.specs.Script.{ReadsAs}
use Rattle.script.specs.declared.structure.Script.{Script}
use Rattle.journal_law.specs.Lawful.{Opening}
use Rattle.session.specs.Plan.{Plan}
use Rattle.session.specs.Sql.{sql}
use Rattle.retro.specs.Asked.{AsksFor, IsAsked, IsTheBadLine, RefusesScript, RunsAsAsked}
use Rattle.retro.specs.Memory.{RunsFrom}
use Rattle.retro.specs.Phases.{RanOver}
use Rattle.retro.specs.Says.{Refuses, SinkTold, WritesOne}
use Rattle.retro.specs.Seen.{HasFailed, IsSteady, Seen}
use Rattle.retro.specs.declared.storing.Ended.{Ended}

-- how a run of a plan from an opening ends: the transcript of its journal is written
abbrev pub EndsFrom : (size : ℕ) → Opening (sql size) → Seen → Plan → Result Ended Refusal → ℕ → Type 0
EndsFrom size o sink plan (Ok ended) status =
    WritesOne sink (RanOver size plan o o.opened.faults ended.journal) status
EndsFrom size o sink plan (Err why) status = Refuses sink why status

-- `run`, with this opening. What its script asks for, or why for nothing; the run of that plan, which
-- left one journal; and how it ended.
abbrev pub RunsPlainly : (size : ℕ) → Opening (sql size) → Seen → Seen → ℕ → Type 0
RunsPlainly size o source sink status =
    RunsAsAsked (IsAsked source)
    (λ plan. (ended : Result Ended Refusal) × RunsFrom size o plan ended × EndsFrom size o sink plan ended status)
    (λ why. RefusesScript sink why status)

-- What a status tells of the source and the sink of a run: each has its cause, and each cause its status, unless
-- memory runs out.
pub record FeedsTold (source sink : Seen) (status : ℕ) : Type 0 where
  pub source_fault : status ≡ 4 → HasFailed source
  pub source_steady : status ≢ 4 → IsSteady source
  pub no_source_fault : IsSteady source → source.faults_old < 2 ^ 64 - 1 → status ≢ 4
  pub sink_told : SinkTold sink status
  pub bad_script : status ≡ 3 → (n : ℕ) × IfSome source.bytes_old (IsTheBadLine n)
  pub good_script : (bytes : List ℕ) (script : Script) → source.bytes_old ≡ Some bytes → ReadsAs bytes (Ok script)
      → status ≢ 3
  pub bad_line : (bytes : List ℕ) (n : ℕ) → source.bytes_old ≡ Some bytes → ReadsAs bytes (Err n)
      → (status ≡ 3) ⊎ (status ≡ 4) ⊎ (status ≡ 8)

-- What the status of `run` tells. No other comes. With 0 and 5 a plan was asked for.
pub record HasCauses (source sink : Seen) (status : ℕ) : Type 0 where
  pub statuses : IsTrue (list_any (λ one. one == status) (0 ∷ 3 ∷ 4 ∷ 5 ∷ 8 ∷ []))
  pub feeds : FeedsTold source sink status
  pub came : status ≢ 3 → status ≢ 4 → status ≢ 8 → (plan : Plan) × AsksFor source.bytes_old plan

-- the law of `run`
abbrev pub StatusesTellCauses : Type 0
StatusesTellCauses = (size : ℕ) (o : Opening (sql size)) (source sink : Seen) (status : ℕ)
    → RunsPlainly size o source sink status → HasCauses source sink status
