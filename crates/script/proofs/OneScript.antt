-- Bytes are one script, or bad first at one line.
use Rattle.std.proofs.Common.{◌≡◌, ◌+◌, ◌≤◌, ℕ, zero, suc, Bool, true, false, cond, List, [], ◌∷◌, Option, Some, None, Ok, Err, take, ap, sym, refl, ◌∙◌, inl, inr, arith}
use Rattle.std.proofs.lemmas.Bool.{cases_lt}
use Rattle.std.specs.List.{AllZip}
use Rattle.std.specs.Option.{option_map_or}
use Rattle.script.specs.Line.{IsLine, IsOnly}
use Rattle.script.specs.Script.{is_closed, step, finished, script_from, script_of, IsScript, IsBadAt, IsOnlyReading}
use Rattle.script.specs.Text.{script_lines}
use Rattle.script.specs.declared.draft.ScriptSoFar.{ScriptSoFar}
use Rattle.script.specs.declared.draft.ScriptSoFar.TheVariants as draft
use Rattle.script.specs.declared.line.Line.{Line}
use Rattle.script.specs.declared.structure.Script.{Script}

pub take_take : {X : Type 0} (m n : ℕ) (xs : List X) → m ≤ n → take m (take n xs) ≡ take m xs
take_take zero n xs h = refl
take_take (suc m) zero xs h = absurd (omega arith)
take_take (suc m) (suc n) [] h = refl
take_take (suc m) (suc n) (x ∷ xs) h = ap (λ ys. x ∷ ys) (take_take m n xs (omega arith))

end_number : (empty : Bool) (script : Script) (m n : ℕ) → cond empty (Ok script) (Err m) ≡ Err n → n ≡ m
end_number true script m n e = cc
end_number false script m n e = cc

finished_number : (m n : ℕ) (state : ScriptSoFar) → finished m state ≡ Err n → n ≡ m
finished_number m n draft.Empty e = cc
finished_number m n (draft.Open p) e = end_number (is_closed p.session) _ m n e

-- lines that are bad at the last of their first ones are bad there
cut_next : (lines : List Line) (k m n : ℕ) (next : Option ScriptSoFar) → ((state : ScriptSoFar) → script_from (m + 1) state (take k lines) ≡ Err n → script_from (m + 1) state lines ≡ Err n)
    → option_map_or (λ state. script_from (m + 1) state (take k lines)) next (Err m) ≡ Err n → option_map_or (λ state. script_from (m + 1) state lines) next (Err m) ≡ Err n
cut_next lines k m n None go_on e = e
cut_next lines k m n (Some state) go_on e = go_on state e

cut_from : (lines : List Line) (k m n : ℕ) (state : ScriptSoFar) → n + 1 ≡ m + k → script_from m state (take k lines) ≡ Err n → script_from m state lines ≡ Err n
cut_from [] zero m n state h e = e
cut_from [] (suc k) m n state h e = e
cut_from (line ∷ lines) zero m n state h e = let same = finished_number m n state e in absurd (omega arith)
cut_from (line ∷ lines) (suc k) m n state h e = cut_next lines k m n (step state line) (λ next e'. cut_from lines k (m + 1) n next (omega arith) e') e

cut_bad : (lines : List Line) (n : ℕ) → script_of (take n lines) ≡ Err n → script_of lines ≡ Err n
cut_bad lines n e = cut_from lines n 1 n draft.Empty (omega arith) e

-- this line is nothing else
abbrev pub OnlyLine : Option (List ℕ) → Line → Type 0
OnlyLine bytes line = IsOnly (IsLine bytes) line

all_take : {A B : Type 0} (R : A → B → Type 0) (n : ℕ) (xs : List A) (ys : List B) → AllZip R xs ys → AllZip R (take n xs) (take n ys)
all_take R zero xs ys all = tt
all_take R (suc n) [] [] all = tt
all_take R (suc n) [] (y ∷ ys) all = absurd all
all_take R (suc n) (x ∷ xs) [] all = absurd all
all_take R (suc n) (x ∷ xs) (y ∷ ys) all = (all.0, all_take R n xs ys all.1)

cons_same : {X : Type 0} (x y : X) (xs ys : List X) → x ≡ y → xs ≡ ys → x ∷ xs ≡ y ∷ ys
cons_same x y xs ys e f = cc

same_lines : (xs : List (Option (List ℕ))) (lines others : List Line) → AllZip OnlyLine xs lines → AllZip IsLine xs others → others ≡ lines
same_lines [] [] [] only are = refl
same_lines [] (l ∷ lines) others only are = absurd only
same_lines [] [] (o ∷ others) only are = absurd are
same_lines (x ∷ xs) [] others only are = absurd only
same_lines (x ∷ xs) (l ∷ lines) [] only are = absurd are
same_lines (x ∷ xs) (l ∷ lines) (o ∷ others) only are = cons_same o l others lines (only.0 o are.0) (same_lines xs lines others only.1 are.1)

pub only_good : (bytes : List ℕ) (lines : List Line) (script : Script) → AllZip OnlyLine (script_lines bytes) lines → script_of lines ≡ Ok script → IsOnlyReading bytes (Ok script)
unfolding IsScript IsBadAt
only_good bytes lines script only good (Ok other) (others, are, e) = sym e ∙ ap script_of (same_lines (script_lines bytes) lines others only are) ∙ good
only_good bytes lines script only good (Err n) (others, are, e) =
    let same = same_lines (take n (script_lines bytes)) (take n lines) others (all_take OnlyLine n (script_lines bytes) lines only) are in
    sym (cut_bad lines n (ap script_of (sym same) ∙ e)) ∙ good

-- of two lists of first lines, the longer holds the shorter
cut_only : (xs : List (Option (List ℕ))) (lines others : List Line) (m n : ℕ) → m ≤ n → AllZip OnlyLine (take n xs) lines → AllZip IsLine (take m xs) others → others ≡ take m lines
cut_only xs lines others m n h only are =
    same_lines (take m xs) (take m lines) others (rw take_take at (all_take OnlyLine m (take n xs) lines only)) are

cut_are : (xs : List (Option (List ℕ))) (lines others : List Line) (m n : ℕ) → m ≤ n → AllZip OnlyLine (take m xs) lines → AllZip IsLine (take n xs) others → take m others ≡ lines
cut_are xs lines others m n h only are =
    same_lines (take m xs) lines (take m others) only (rw take_take at (all_take IsLine m (take n xs) others are))

pub only_bad : (bytes : List ℕ) (lines : List Line) (number : ℕ) → AllZip OnlyLine (take number (script_lines bytes)) lines → script_of lines ≡ Err number → IsOnlyReading bytes (Err number)
unfolding IsScript IsBadAt
only_bad bytes lines number only bad (Ok other) (others, are, e) =
    let same = same_lines (take number (script_lines bytes)) lines (take number others) only (all_take IsLine number (script_lines bytes) others are) in
    sym e ∙ cut_bad others number (ap script_of same ∙ bad)
only_bad bytes lines number only bad (Err n) (others, are, e) =
    elim (cases_lt number n) [
      | inl l ↦ sym e ∙ cut_bad others number (ap script_of (cut_are (script_lines bytes) lines others number n (omega arith) only are) ∙ bad)
      | inr g ↦ sym (cut_bad lines n (ap script_of (sym (cut_only (script_lines bytes) lines others n number g only are)) ∙ e)) ∙ bad
    ]
