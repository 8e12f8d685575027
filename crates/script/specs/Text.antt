-- The lines of a script, and what counts of each.
use Rattle.std.specs.Prelude.{◌+◌, ◌-◌, ◌==◌, ◌&&◌, ◌||◌, ℕ, Bool, true, List, [], ◌∷◌, Option, Some, None}
use Rattle.std.specs.Prelude.{length, take, drop, nat_eq, nat_lt, slice_index, codes, if◌then◌else◌}
use Rattle.std.specs.List.{starts_with, prefix_len, suffix_len}
use Rattle.std.specs.Str.{str_eq_ignore_ascii_case}
use Rattle.std.specs.Str.Lines.{lines}
use Rattle.retro_base.specs.declared.limits.TheConstants.{LINE_BYTES}
use Rattle.script.specs.declared.limits.TheConstants.{SCRIPT_BYTES}
use Rattle.sql_lexer.specs.Lexes.{is_blank}

-- a line, or none where it is too long
abbrev pub in_bounds : List ℕ → Option (List ℕ)
in_bounds line = if nat_lt LINE_BYTES (length line) then None else Some line

-- the lines in bounds; where they go too far, the last is none
abbrev pub lines_in_bounds : Bool → List (List ℕ) → List (Option (List ℕ))
lines_in_bounds too_far [] = []
lines_in_bounds too_far (line ∷ []) = (if too_far then None else in_bounds line) ∷ []
lines_in_bounds too_far (line ∷ next ∷ more) = in_bounds line ∷ lines_in_bounds too_far (next ∷ more)

-- The lines of a script, without their ends: none stands for a line that is longer than LINE_BYTES, and for the one
-- that holds the first byte behind SCRIPT_BYTES. What stands behind that byte is not read.
abbrev pub script_lines : List ℕ → List (Option (List ℕ))
script_lines bytes = lines_in_bounds (nat_lt SCRIPT_BYTES (length bytes)) (lines (take (SCRIPT_BYTES + 1) bytes))

-- without the blanks and tabs at the front
abbrev pub trim_front : List ℕ → List ℕ
trim_front bytes = drop (prefix_len is_blank bytes) bytes

-- without the blanks and tabs at the end
abbrev pub trim_back : List ℕ → List ℕ
trim_back bytes = take (length bytes - suffix_len is_blank bytes) bytes

-- without one `;` at the end
abbrev pub drop_semicolon : List ℕ → List ℕ
drop_semicolon bytes = if slice_index bytes (length bytes - 1) == 59 then take (length bytes - 1) bytes else bytes

-- what counts of a line: blanks and tabs at both ends are dropped, then one `;` at the end and the blanks and tabs
-- before it
abbrev pub text_of : List ℕ → List ℕ
text_of line = trim_back (drop_semicolon (trim_back (trim_front line)))

-- empty, or a comment
abbrev pub is_skipped : List ℕ → Bool
is_skipped text = (length text == 0) || starts_with nat_eq text (codes "#") || starts_with nat_eq text (codes "--")

-- PHASE alone, in any case
abbrev pub is_phase : List ℕ → Bool
is_phase text = str_eq_ignore_ascii_case text (codes "PHASE")

-- the end, a blank or a tab
abbrev pub ends_word : List ℕ → Bool
ends_word [] = true
ends_word (b ∷ bs) = is_blank b

-- SESSION, in any case, and then the end, a blank or a tab
abbrev pub is_session : List ℕ → Bool
is_session text = str_eq_ignore_ascii_case (take 7 text) (codes "SESSION") && ends_word (drop 7 text)

-- what follows the word SESSION, without blanks and tabs
abbrev pub session_name : List ℕ → List ℕ
session_name text = trim_front (drop 7 text)
