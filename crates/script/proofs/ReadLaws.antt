-- What is known while a script is read.
use Rattle.std.proofs.Common.{◌≡◌, ◌+◌, ◌<◌, ◌≤◌, ◌++◌, ◌==◌, ◌&&◌, ◌⊎◌, ℕ, Bool, true, false, cond, ltb, List, [], ◌∷◌, Option, Some, None, Result, Ok, Err, IfOk, IfErr, inl, inr, length, take, ap, sym, refl, ◌∙◌, arith, append_assoc, length-append, length-take}
use Rattle.std.proofs.lemmas.Bool.Decides.{nat_tests}
use Rattle.std.proofs.lemmas.List.{take_at, append-nil, take_all}
use Rattle.std.specs.List.{AllZip}
use Rattle.std.specs.Str.Lines.{lines}
use Rattle.retro_base.specs.declared.refusal.Refusal.{Refusal}
use Rattle.retro_base.specs.declared.refusal.Refusal.TheVariants.{OutOfMemory, BadScript}
use Rattle.script.specs.declared.limits.TheConstants.{SCRIPT_BYTES}
use Rattle.script.proofs.FirstLine.{lines-some}
use Rattle.script.proofs.FitLaws.{DraftFits, step_fits, finished_fits}
use Rattle.script.specs.Limits.{LineFits, ScriptFits}
use Rattle.script.proofs.OneScript.{OnlyLine, only_good, only_bad}
use Rattle.script.proofs.ToldLaws.{bad_first}
use Rattle.script.specs.Line.{IsLine}
use Rattle.script.specs.Rules.{IsFirstBad, IsRefused}
use Rattle.script.specs.Script.{step, finished, script_from, script_of, IsScript, IsBadAt, IsOnlyReading}
use Rattle.script.specs.Text.{in_bounds, lines_in_bounds, script_lines}
use Rattle.script.specs.declared.draft.ScriptSoFar.{ScriptSoFar}
use Rattle.script.specs.declared.draft.ScriptSoFar.TheVariants as draft
use Rattle.script.specs.declared.line.Line.{Line}
use Rattle.script.specs.declared.line.Line.TheVariants.{Bad}
use Rattle.script.specs.declared.structure.Script.{Script}

-- whether the script goes too far
abbrev pub goes_too_far : List ℕ → Bool
goes_too_far bytes = ltb SCRIPT_BYTES (length bytes)

-- the first line in bounds: it goes too far where nothing more follows
abbrev pub first_bounded : Bool → List ℕ → List ℕ → Option (List ℕ)
first_bounded too_far first more = cond (too_far && (length more == 0)) None (in_bounds first)

-- Some lines were read, and the rest of the bytes was not: the lines before say what was read, and the line after them has this number.
pub record HasRead (bytes rest : List ℕ) (number : ℕ) (state : ScriptSoFar) : Type 0 where
  pub before : List (Option (List ℕ))
  pub said : List Line
  pub whole : script_lines bytes ≡ before ++ lines_in_bounds (goes_too_far bytes) (lines rest)
  pub are : AllZip IsLine before said
  pub only : AllZip OnlyLine before said
  pub count : number ≡ length before + 1
  pub goes_on : (more : List Line) → script_of (said ++ more) ≡ script_from number state more
  pub fits : DraftFits state
  pub short : number + length rest ≤ SCRIPT_BYTES + 2
  pub behind : goes_too_far bytes ≡ true → 0 < length rest

-- what is read of bytes that go too far is some
front_some : (m : ℕ) (bytes rest : List ℕ) → rest ≡ take (m + 1) bytes → ltb m (length bytes) ≡ true → 0 < length rest
front_some m bytes rest e far =
    let behind : m < length bytes = grind (arith, nat_tests, far) in
    omega (arith, ap length e, length-take (m + 1) bytes)

pub read_none : (bytes rest : List ℕ) → rest ≡ take (SCRIPT_BYTES + 1) bytes → length rest ≤ SCRIPT_BYTES + 1 → HasRead bytes rest 1 draft.Empty
read_none bytes rest e h = record {
  before = [];
  said = [];
  whole = ap (λ xs. lines_in_bounds (goes_too_far bytes) (lines xs)) (sym e);
  are = tt;
  only = tt;
  count = refl;
  goes_on = λ more. refl;
  fits = tt;
  short = omega arith;
  behind = front_some SCRIPT_BYTES bytes rest e;
}

step_bad : (state : ScriptSoFar) → step state Bad ≡ None
step_bad draft.Empty = refl
step_bad (draft.Open p) = refl

-- a line that goes too far may not stand anywhere, so that a line which may stand there leaves bytes to read
behind_next : (too_far : Bool) (first more : List ℕ) (state next : ScriptSoFar) (line : Line) → IsLine (first_bounded too_far first more) line → step state line ≡ Some next → too_far ≡ true → 0 < length more
behind_next true first (b ∷ more) state next line is stepped far = omega arith
behind_next true first [] state next line is stepped far =
    let none : step state line ≡ None = ap (step state) is ∙ step_bad state in
    cc
behind_next false first more state next line is stepped far = cc

are_push : {A B : Type 0} (R : A → B → Type 0) (xs : List A) (ys : List B) (x : A) (y : B) → AllZip R xs ys → R x y → AllZip R (xs ++ x ∷ []) (ys ++ y ∷ [])
are_push R [] [] x y all one = (one, tt)
are_push R [] (b ∷ ys) x y all one = absurd all
are_push R (a ∷ xs) [] x y all one = absurd all
are_push R (a ∷ xs) (b ∷ ys) x y all one = (all.0, are_push R xs ys x y all.1 one)

-- the first of the lines in bounds
last_bounded : (too_far : Bool) (first : List ℕ) → lines_in_bounds too_far (first ∷ []) ≡ first_bounded too_far first [] ∷ []
last_bounded true first = refl
last_bounded false first = refl

more_bounded : (too_far : Bool) (first second : List ℕ) (others : List (List ℕ)) (more : List ℕ) → (length more == 0) ≡ false
    → lines_in_bounds too_far (first ∷ second ∷ others) ≡ first_bounded too_far first more ∷ lines_in_bounds too_far (second ∷ others)
more_bounded true first second others more e = rw e refl
more_bounded false first second others more e = refl

some_bounded : (too_far : Bool) (first more second : List ℕ) (parts others : List (List ℕ)) → parts ≡ second ∷ others → (length more == 0) ≡ false
    → lines_in_bounds too_far (first ∷ parts) ≡ first_bounded too_far first more ∷ lines_in_bounds too_far parts
some_bounded too_far first more second parts others e some = rw e (more_bounded too_far first second others more some)

all_bounded : (too_far : Bool) (first more : List ℕ) → lines_in_bounds too_far (first ∷ lines more) ≡ first_bounded too_far first more ∷ lines_in_bounds too_far (lines more)
all_bounded too_far first [] = last_bounded too_far first
all_bounded too_far first (b ∷ bs) =
    let some = lines-some (b ∷ bs) (omega arith) in
    some_bounded too_far first (b ∷ bs) some.0 (lines (b ∷ bs)) some.1 some.2 (grind (arith, nat_tests))

-- the lines of what was read, and one more
whole_more : (bytes rest more first : List ℕ) (number : ℕ) (state : ScriptSoFar) (h : HasRead bytes rest number state) → lines rest ≡ first ∷ lines more
    → script_lines bytes ≡ (h.before ++ first_bounded (goes_too_far bytes) first more ∷ []) ++ lines_in_bounds (goes_too_far bytes) (lines more)
whole_more bytes rest more first number state h split =
    rw append_assoc (h.whole ∙ ap (λ xs. h.before ++ xs) (ap (lines_in_bounds (goes_too_far bytes)) split ∙ all_bounded (goes_too_far bytes) first more))

pub read_more : (bytes rest more first : List ℕ) (number : ℕ) (state next : ScriptSoFar) (line : Line) → HasRead bytes rest number state → lines rest ≡ first ∷ lines more → length more < length rest
    → IsLine (first_bounded (goes_too_far bytes) first more) line → OnlyLine (first_bounded (goes_too_far bytes) first more) line → LineFits line → step state line ≡ Some next → HasRead bytes more (number + 1) next
read_more bytes rest more first number state next line h split shorter is only fits stepped = record {
  before = h.before ++ first_bounded (goes_too_far bytes) first more ∷ [];
  said = h.said ++ line ∷ [];
  whole = whole_more bytes rest more first number state h split;
  are = are_push IsLine h.before h.said (first_bounded (goes_too_far bytes) first more) line h.are is;
  only = are_push OnlyLine h.before h.said (first_bounded (goes_too_far bytes) first more) line h.only only;
  count = omega (arith, h.count, length-append h.before (first_bounded (goes_too_far bytes) first more ∷ []));
  goes_on = λ others. rw append_assoc (h.goes_on (line ∷ others) ∙ rw stepped refl);
  fits = rw stepped at (step_fits state line h.fits fits);
  short = omega (arith, h.short);
  behind = behind_next (goes_too_far bytes) first more state next line is stepped;
}

-- the first bad line, that the bytes are nothing else, and that it is the first by the rules
abbrev pub IsBadOnlyAt : List ℕ → ℕ → Type 0
IsBadOnlyAt bytes number = IsBadAt bytes number × IsOnlyReading bytes (Err number) × IsFirstBad bytes number

-- the line that may not stand there is bad
pub bad_line : (bytes rest more first : List ℕ) (number : ℕ) (state : ScriptSoFar) (line : Line) → HasRead bytes rest number state → lines rest ≡ first ∷ lines more
    → IsLine (first_bounded (goes_too_far bytes) first more) line → OnlyLine (first_bounded (goes_too_far bytes) first more) line → step state line ≡ None → IsBadOnlyAt bytes number
unfolding IsScript IsBadAt
bad_line bytes rest more first number state line h split is only stopped =
    let new = first_bounded (goes_too_far bytes) first more in
    let here = h.before ++ new ∷ [] in
    let cut : take number (script_lines bytes) ≡ here =
    rw (whole_more bytes rest more first number state h split)
    (take_at here (lines_in_bounds (goes_too_far bytes) (lines more)) number (omega (arith, h.count, length-append h.before (new ∷ [])))) in
    let bad : script_of (h.said ++ line ∷ []) ≡ Err number = h.goes_on (line ∷ []) ∙ rw stopped refl in
    let here_bad : IsBadAt bytes number =
    (h.said ++ line ∷ [], rw cut (are_push IsLine h.before h.said new line h.are is), bad) in (
      here_bad,
      only_bad bytes (h.said ++ line ∷ []) number (rw cut (are_push OnlyLine h.before h.said new line h.only only)) bad,
      bad_first bytes number here_bad,
    )

all_read : (bytes rest : List ℕ) (number : ℕ) (state : ScriptSoFar) (h : HasRead bytes rest number state) → length rest ≡ 0 → script_lines bytes ≡ h.before
all_read bytes [] number state h e = h.whole ∙ append-nil h.before
all_read bytes (b ∷ bs) number state h e = absurd (omega arith)

-- the answer at the end of the lines
end_said : (bytes rest : List ℕ) (number : ℕ) (state : ScriptSoFar) (h : HasRead bytes rest number state) → script_of h.said ≡ finished number state
end_said bytes rest number state h = ap script_of (sym (append-nil h.said)) ∙ h.goes_on []

pub end_good : (bytes rest : List ℕ) (number : ℕ) (state : ScriptSoFar) (answer : Result Script Refusal) → HasRead bytes rest number state → length rest ≡ 0
    → IfOk answer (λ script. finished number state ≡ Ok script) → IfOk answer (IsScript bytes)
unfolding IsScript IsBadAt
end_good bytes rest number state (Ok script) h none good =
    (h.said, rw (all_read bytes rest number state h none) h.are, end_said bytes rest number state h ∙ good)
end_good bytes rest number state (Err refusal) h none good = tt

pub end_only : (bytes rest : List ℕ) (number : ℕ) (state : ScriptSoFar) (answer : Result Script Refusal) → HasRead bytes rest number state → length rest ≡ 0
    → IfOk answer (λ script. finished number state ≡ Ok script) → IfOk answer (λ script. IsOnlyReading bytes (Ok script))
end_only bytes rest number state (Ok script) h none good =
    only_good bytes h.said script (rw (all_read bytes rest number state h none) h.only) (end_said bytes rest number state h ∙ good)
end_only bytes rest number state (Err refusal) h none good = tt

pub end_fits : (bytes rest : List ℕ) (number : ℕ) (state : ScriptSoFar) (answer : Result Script Refusal) → HasRead bytes rest number state
    → IfOk answer (λ script. finished number state ≡ Ok script) → IfOk answer ScriptFits
end_fits bytes rest number state (Ok script) h good = finished_fits number state script h.fits good
end_fits bytes rest number state (Err refusal) h good = tt

bad_end : (bytes rest : List ℕ) (number : ℕ) (state : ScriptSoFar) → HasRead bytes rest number state → length rest ≡ 0 → finished number state ≡ Err number → IsBadOnlyAt bytes number
unfolding IsScript IsBadAt
bad_end bytes rest number state h none bad =
    let all : take number (script_lines bytes) ≡ h.before = rw (all_read bytes rest number state h none) (take_all number h.before (omega (arith, h.count))) in
    let answer : script_of h.said ≡ Err number = end_said bytes rest number state h ∙ bad in
    let here : IsBadAt bytes number = (h.said, rw all h.are, answer) in
    (here, only_bad bytes h.said number (rw all h.only) answer, bad_first bytes number here)

abbrev EndsBadly : ℕ → ScriptSoFar → Refusal → Type 0
EndsBadly number state refusal = (refusal ≡ OutOfMemory) ⊎ ((refusal ≡ BadScript number) × (finished number state ≡ Err number))

pub end_bad : (bytes rest : List ℕ) (number : ℕ) (state : ScriptSoFar) (answer : Result Script Refusal) → HasRead bytes rest number state → length rest ≡ 0
    → IfErr answer (EndsBadly number state) → IfErr answer (IsRefused bytes)
end_bad bytes rest number state (Ok script) h none bad = tt
end_bad bytes rest number state (Err refusal) h none (inl memory) = rw memory tt
end_bad bytes rest number state (Err refusal) h none (inr (e, bad)) = rw e (bad_end bytes rest number state h none bad)

-- what was read to its end is no longer than a script
pub end_short : (bytes rest : List ℕ) (number : ℕ) (state : ScriptSoFar) → HasRead bytes rest number state → length rest ≡ 0 → length bytes ≤ SCRIPT_BYTES
end_short bytes rest number state h none = by_test (goes_too_far bytes) refl
  where
    by_test : (far : Bool) → goes_too_far bytes ≡ far → length bytes ≤ SCRIPT_BYTES
    by_test true e = let some : 0 < length rest = h.behind e in absurd (omega arith)
    by_test false e = grind (arith, nat_tests, e)
