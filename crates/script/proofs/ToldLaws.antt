-- What bytes read as, their lines tell.
use Rattle.std.proofs.Common.{ℕ, List, Result, Ok, Err, IfOk}
use Rattle.retro_base.specs.declared.refusal.Refusal.{Refusal}
use Rattle.script.proofs.RuleLaws.{bad_law, good_law, kept_law}
use Rattle.script.specs.Rules.{IsFirstBad, IsToldBy}
use Rattle.script.specs.Script.{IsScript, IsBadAt}
use Rattle.script.specs.declared.structure.Script.{Script}

pub good_told : (bytes : List ℕ) (answer : Result Script Refusal) → IfOk answer (IsScript bytes)
    → IfOk answer (IsToldBy bytes)
unfolding IsScript IsToldBy
good_told bytes (Ok script) (lines, are, good) = (lines, are, kept_law lines script good, good_law lines script good)
good_told bytes (Err refusal) is = tt

pub bad_first : (bytes : List ℕ) (number : ℕ) → IsBadAt bytes number → IsFirstBad bytes number
unfolding IsBadAt IsFirstBad
bad_first bytes number (lines, are, bad) = (lines, are, (bad_law lines number).0 bad)
