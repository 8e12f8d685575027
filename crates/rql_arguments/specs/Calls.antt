-- What a call says, and the first argument that is outside its form.
use Rattle.std.specs.Prelude.{◌≡◌, ◌<◌, ℕ, zero, suc, IsTrue, Option, Some, None, List, slice_get}
use Rattle.std.specs.Option.{option_map_or}
use Rattle.retro_base.specs.declared.refusal.Refusal.{Refusal}
use Rattle.retro_base.specs.declared.refusal.Refusal.TheVariants as refusal
use Rattle.rql.specs.declared.function.Function.{Function}
use Rattle.rql.specs.declared.pair.Pair.{Pair}
use Rattle.sql_parts.specs.declared.parsed.Mechanism.{Mechanism}
use Rattle.sql_parts.specs.declared.parsed.Mechanism.TheVariants as mechanism
use Rattle.sql_parts.specs.declared.parsed.RqlCall.{RqlCall}
use Rattle.sql_tree.specs.declared.select.Select.{Select}
use Rattle.rql_arguments.specs.Forms.{ArePairs, IsQuery, IsSnapshotQuery, function_named, is_result_word}
use Rattle.rql_arguments.specs.declared.call.Call.{Call}
use Rattle.rql_arguments.specs.declared.call.Combination.{Combination}
use Rattle.rql_arguments.specs.declared.call.Combination.TheVariants as combination

-- what a mechanism with its fourth argument says
abbrev pub IsCombination : Mechanism → Combination → Type 0
IsCombination mechanism.CollateData combination.Collate = Unit {0}
IsCombination (mechanism.AggregateDataInVariable text) (combination.InVariable f) = function_named text ≡ Some f
IsCombination (mechanism.AggregateDataInTable text) (combination.InTable pairs) = ArePairs text pairs
IsCombination mechanism.CollateDataIntoIntervals combination.Intervals = Unit {0}
IsCombination m c = ⊥

-- the call says so
pub record IsCall (call : RqlCall) (said : Call) : Type 0 where
  pub snapshots : IsSnapshotQuery call.snapshots said.snapshots
  pub query : IsQuery call.query said.query
  pub is_result : IsTrue (is_result_word call.table)
  pub table : said.table ≡ call.table
  pub combination : IsCombination call.mechanism said.combination

-- the argument of this index, from 0, has its form; that of the last is the mechanism's
abbrev pub HasForm : RqlCall → ℕ → Type 0
HasForm call zero = (query : Select) × IsSnapshotQuery call.snapshots query
HasForm call (suc zero) = (query : Select) × IsQuery call.query query
HasForm call (suc (suc zero)) = IsTrue (is_result_word call.table)
HasForm call (suc (suc (suc argument))) = (c : Combination) × IsCombination call.mechanism c

-- the first argument that is outside its form
pub record IsFirstOutside (call : RqlCall) (argument : ℕ) : Type 0 where
  pub outside : ¬ HasForm call argument
  pub before : (earlier : ℕ) → earlier < argument → HasForm call earlier

-- the place of an argument's opening quote
abbrev pub place_at : List ℕ → ℕ → ℕ
place_at places argument = option_map_or (λ place. place) (slice_get places argument) 0

-- what a call may be refused for: want of memory, or bad syntax at the opening quote of the first argument outside its
-- form
abbrev pub IsRefused : RqlCall → List ℕ → Refusal → Type 0
IsRefused call places refusal.OutOfMemory = Unit {0}
IsRefused call places (refusal.Syntax place) = (argument : ℕ) × IsFirstOutside call argument
    × (place ≡ place_at places argument)
IsRefused call places _ = ⊥
