-- What a script asks for, or why it asks for nothing.
use Rattle.std.specs.Prelude.{◌≡◌, ℕ, List, [], Option, Some, IfSome, Result, Ok, Err, MatchResult}
use Rattle.std.specs.Option.{option_map}
use Rattle.script.specs.Rules.{IsFirstBad, IsToldBy}
use Rattle.script.specs.Script.{ReadsAs, IsOnlyReading}
use Rattle.script.specs.declared.structure.Script.{Script}
use Rattle.session.specs.Plan.{IsPlan, Plan}
use Rattle.retro.specs.Says.{LacksMemory, Says, Tells, bad_script_line, source_fault_line}
use Rattle.retro.specs.Seen.{HasFailed, IsSteady, Seen}
use Rattle.retro.specs.declared.asking.NoPlan.{NoPlan}
use Rattle.retro.specs.declared.asking.NoPlan.TheVariants.{BadScript, OutOfMemory, SourceFault}

-- the bytes are this script, and nothing else: their lines keep the rules, and tell it
abbrev pub IsTheScript : Script → List ℕ → Type 0
IsTheScript script bytes = ReadsAs bytes (Ok script) × IsOnlyReading bytes (Ok script) × IsToldBy bytes script

-- the bytes are no script, and nothing else: the line of this number is the first that breaks a rule
abbrev pub IsTheBadLine : ℕ → List ℕ → Type 0
IsTheBadLine number bytes =
    ReadsAs bytes (Err number) × IsOnlyReading bytes (Err number) × IsFirstBad bytes number

-- the script that was left in the source asks for this plan
pub record AsksFor (left : Option (List ℕ)) (plan : Plan) : Type 0 where
  pub script : Script
  pub read : IfSome left (IsTheScript script)
  pub asks : IsPlan script plan

-- what bytes ask for: a plan; or nothing, since they are bad at a line, or for want of memory
abbrev pub BytesAsk : List ℕ → Result Plan NoPlan → Type 0
BytesAsk bytes (Ok plan) = AsksFor (Some bytes) plan
BytesAsk bytes (Err (BadScript number)) = IsTheBadLine number bytes
BytesAsk bytes (Err OutOfMemory) = Unit {0}
BytesAsk bytes (Err SourceFault) = ⊥

-- the source was read to its end
abbrev pub ReadToEnd : Seen → Type 0
ReadToEnd source = source.bytes_new ≡ option_map (λ bytes. []) source.bytes_old

-- What the script in a source asks for: a plan, and then it was read to its end; or nothing, since the source failed,
-- or since the script is bad at a line, or for want of memory. The source has failed in that case alone.
abbrev pub IsAsked : Seen → Result Plan NoPlan → Type 0
IsAsked source (Ok plan) = AsksFor source.bytes_old plan × ReadToEnd source × IsSteady source
IsAsked source (Err SourceFault) = HasFailed source
IsAsked source (Err (BadScript number)) = IfSome source.bytes_old (IsTheBadLine number) × IsSteady source
IsAsked source (Err OutOfMemory) = IsSteady source

-- What a script asks for, and what came of it: this of a plan, and that of why there is none.
pub record RunsAsAsked (Asked : Result Plan NoPlan → Type 0) (Runs : Plan → Type 0) (Refused : NoPlan → Type 0)
    : Type 0 where
  pub asked : Result Plan NoPlan
  pub is_asked : Asked asked
  pub runs : MatchResult asked Runs Refused

-- A script that asks for nothing: a fault of its source is told with status 4, a bad line with status 3.
abbrev pub RefusesScript : Seen → NoPlan → ℕ → Type 0
RefusesScript sink SourceFault status = (status ≡ 4) × Says sink source_fault_line
RefusesScript sink (BadScript number) status = Tells sink (bad_script_line number) 3 status
RefusesScript sink OutOfMemory status = LacksMemory sink status
