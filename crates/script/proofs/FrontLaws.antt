-- The bytes that are read decide what the bytes are.
use Rattle.std.proofs.Common.{◌≡◌, ◌+◌, ℕ, List, Option, Result, Ok, Err, ltb, length, length-take, take, subst, sym, refl, arith}
use Rattle.std.proofs.lemmas.Bool.Decides.{nat_tests}
use Rattle.std.specs.List.{AllZip}
use Rattle.std.specs.Str.Lines.{lines}
use Rattle.script.specs.declared.limits.TheConstants.{SCRIPT_BYTES}
use Rattle.script.proofs.OneScript.{take_take}
use Rattle.script.specs.Line.{IsLine}
use Rattle.script.specs.Rules.{FrontDecides, IsFirstBad, IsFirstBreak, IsToldBy, KeepsRules, Tells}
use Rattle.script.specs.Script.{script_of, IsScript, IsBadAt, ReadsAs}
use Rattle.script.specs.Text.{lines_in_bounds}
use Rattle.script.specs.declared.line.Line.{Line}
use Rattle.script.specs.declared.structure.Script.{Script}

same_far : (m : ℕ) (bytes : List ℕ) → ltb m (length (take (m + 1) bytes)) ≡ ltb m (length bytes)
same_far m bytes = grind (arith, nat_tests, length-take (m + 1) bytes)

-- the lines of the first m + 1 bytes are those of the bytes
front_lines : (m : ℕ) (bytes : List ℕ) → lines_in_bounds (ltb m (length (take (m + 1) bytes))) (lines (take (m + 1) (take (m + 1) bytes))) ≡ lines_in_bounds (ltb m (length bytes)) (lines (take (m + 1) bytes))
front_lines m bytes = rw (same_far m bytes, take_take (m + 1) (m + 1) bytes (omega arith)) refl

-- what a script and a first bad line say of the lines alone
abbrev Good : Script → List (Option (List ℕ)) → Type 0
Good script texts = (said : List Line) × AllZip IsLine texts said × (script_of said ≡ Ok script)

abbrev BadFirst : ℕ → List (Option (List ℕ)) → Type 0
BadFirst number texts = (said : List Line) × AllZip IsLine (take number texts) said × (script_of said ≡ Err number)

reads : (bytes : List ℕ) (answer : Result Script ℕ) → ReadsAs (take (SCRIPT_BYTES + 1) bytes) answer → ReadsAs bytes answer
unfolding IsScript IsBadAt
reads bytes (Ok script) is = subst (Good script) (front_lines SCRIPT_BYTES bytes) is
reads bytes (Err number) is = subst (BadFirst number) (front_lines SCRIPT_BYTES bytes) is

back : (bytes : List ℕ) (answer : Result Script ℕ) → ReadsAs bytes answer → ReadsAs (take (SCRIPT_BYTES + 1) bytes) answer
unfolding IsScript IsBadAt
back bytes (Ok script) is = subst (Good script) (sym (front_lines SCRIPT_BYTES bytes)) is
back bytes (Err number) is = subst (BadFirst number) (sym (front_lines SCRIPT_BYTES bytes)) is

-- and by the rules
abbrev Told : Script → List (Option (List ℕ)) → Type 0
Told script texts = (said : List Line) × AllZip IsLine texts said × KeepsRules said × Tells said script

abbrev BreaksFirst : ℕ → List (Option (List ℕ)) → Type 0
BreaksFirst number texts = (said : List Line) × AllZip IsLine (take number texts) said × IsFirstBreak said number

told : (bytes : List ℕ) (script : Script) → IsToldBy (take (SCRIPT_BYTES + 1) bytes) script → IsToldBy bytes script
unfolding IsToldBy
told bytes script is = subst (Told script) (front_lines SCRIPT_BYTES bytes) is

first_bad : (bytes : List ℕ) (n : ℕ) → IsFirstBad (take (SCRIPT_BYTES + 1) bytes) n → IsFirstBad bytes n
unfolding IsFirstBad
first_bad bytes n is = subst (BreaksFirst n) (front_lines SCRIPT_BYTES bytes) is

pub front_decides : FrontDecides
front_decides = record {
  reads = reads;
  only = λ bytes answer only other is. only other (back bytes other is);
  told = told;
  first_bad = first_bad;
}
