-- The visible text is that of the lines that are shown.
use Rattle.std.proofs.Common.{◌≡◌, ◌+◌, ◌++◌, ℕ, true, false, List, [], ◌∷◌, codes, Option, Some, None, refl, ap, sym, ◌∙◌}
use Rattle.std.specs.Prelude.{option_map}
use Rattle.std.specs.Fmt.{decimal}
use Rattle.retro_base.specs.Device.{device_name}
use Rattle.retro_base.specs.declared.who.Who.{Who}
use Rattle.history.specs.declared.journal.Line.{Line}
use Rattle.history.specs.declared.journal.What.{What}
use Rattle.history.specs.declared.journal.What.TheVariants as line
use Rattle.session.specs.Plan.{Plan}
use Rattle.session.specs.Texts.{value_text}
use Rattle.session.specs.Visible.{newest_behind, shown_line, visible_text, what_text}
use Rattle.transcript_laws.specs.Laws.{ShownLinesTellText}
use Rattle.transcript_laws.specs.Shown.{Shown, Done, RolledBack, Looked, LookedAll, Unlooked, DroppedBelow, RefusedBy, Faulted, shown, shown_lines, shown_of}

-- what is printed of a line, behind a snapshot of this number
abbrev pub said_text : ℕ → Shown → List ℕ
said_text newest (Done false) = codes "done"
said_text newest (Done true) = codes "done as " ++ decimal (newest + 1)
said_text newest RolledBack = codes "rolled back"
said_text newest (Looked snapshot) = codes "looked " ++ decimal snapshot
said_text newest LookedAll = codes "looked all"
said_text newest Unlooked = codes "unlooked"
said_text newest (DroppedBelow below) = codes "dropped below " ++ decimal below
said_text newest (RefusedBy number) = codes "refused " ++ decimal number
said_text newest (Faulted device count) = codes "fault " ++ device_name device ++ value_text count

abbrev pub newest_with : Option Shown → ℕ → ℕ
newest_with (Some (Done true)) newest = newest + 1
newest_with said newest = newest

what_said : (newest : ℕ) (what : What) → what_text newest what ≡ option_map (said_text newest) (shown what)
what_said newest (line.Done None writes) = refl
what_said newest (line.Done (Some label) writes) = refl
what_said newest what = refl

newest_said : (newest : ℕ) (what : What) → newest_behind what newest ≡ newest_with (shown what) newest
newest_said newest (line.Done None writes) = refl
newest_said newest (line.Done (Some label) writes) = refl
newest_said newest what = refl

-- the text of lines that are shown so
abbrev pub text_of : Plan → ℕ → List (Who × Shown) → List ℕ
text_of plan newest [] = []
text_of plan newest (s ∷ more) = shown_line plan s.0 (Some (said_text newest s.1)) ++ text_of plan
    (newest_with (Some s.1) newest) more

pub text_is : (plan : Plan) (newest : ℕ) (lines : List Line) → visible_text plan newest lines
    ≡ text_of plan newest (shown_lines lines)
text_is plan newest [] = refl
text_is plan newest (l ∷ lines) = by_shown (shown l.what) refl (λ n. text_is plan n lines)
  where
    by_shown : (s : Option Shown) → shown l.what ≡ s
        → ((n : ℕ) → visible_text plan n lines ≡ text_of plan n (shown_lines lines))
        → shown_line plan l.who (what_text newest l.what) ++ visible_text plan (newest_behind l.what newest) lines
        ≡ text_of plan newest (shown_of l.who s ++ shown_lines lines)
    by_shown None e rest =
        ap (λ (text : Option (List ℕ)). shown_line plan l.who text ++ visible_text plan
        (newest_behind l.what newest) lines) (what_said newest l.what ∙ ap (option_map (said_text newest)) e)
        ∙ ap (λ (n : ℕ). visible_text plan n lines)
        (newest_said newest l.what ∙ ap (λ (o : Option Shown). newest_with o newest) e)
        ∙ rest newest
    by_shown (Some said) e rest =
        ap (λ (text : Option (List ℕ)). shown_line plan l.who text ++ visible_text plan
        (newest_behind l.what newest) lines) (what_said newest l.what ∙ ap (option_map (said_text newest)) e)
        ∙ ap (λ (text : List ℕ). shown_line plan l.who (Some (said_text newest said)) ++ text)
        (ap (λ (n : ℕ). visible_text plan n lines)
        (newest_said newest l.what ∙ ap (λ (o : Option Shown). newest_with o newest) e)
        ∙ rest (newest_with (Some said) newest))

pub tell_text : ShownLinesTellText
tell_text plan newest one other same =
    text_is plan newest one ∙ ap (text_of plan newest) same ∙ sym (text_is plan newest other)
