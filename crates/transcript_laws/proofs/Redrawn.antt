-- The journal drawn again from what is shown of it: the same worlds, and what is open is the same where all is shown.
use Rattle.std.proofs.Common.{◌≡◌, ◌++◌, ℕ, Bool, true, false, cond, List, [], ◌∷◌, Option, Some, None, map, filter, refl, ap, sym, ◌∙◌, append_assoc}
use Rattle.std.specs.Prelude.{unwrap_or, option_map}
use Rattle.std.specs.List.{AllByRecursion}
use Rattle.retro_base.specs.declared.refusal.Refusal.TheVariants.{OutOfMemory}
use Rattle.retro_base.specs.declared.who.Who.{Who}
use Rattle.history.specs.declared.journal.FailedCall.TheVariants.{Read}
use Rattle.history.specs.declared.journal.Line.{Line}
use Rattle.history.specs.declared.journal.What.{What}
use Rattle.history.specs.declared.journal.What.TheVariants.{Began, Done, RolledBack, Looked, LookedAll, Unlooked, Dropped, Refused, Fault}
use Rattle.history.specs.Lines.{begins}
use Rattle.history.specs.Sound.{same_item}
use Rattle.journal_law.specs.Fates.{Fate, began_of, fate, fate_behind, fate_with}
use Rattle.journal_law.specs.Language.{Commit, Kind, Language, Transaction, after_of, kind_of}
use Rattle.journal_law.specs.Lawful.{AtEach, CommitsAs, IsEnding, KeepsRules, Opening}
use Rattle.journal_law.specs.Own.{line, own}
use Rattle.journal_law.specs.Shows.{step, world}
use Rattle.journal_law.specs.World.{World, behind}
use Rattle.transcript_laws.specs.Shown.{Shown, shown, shown_lines, shown_of}
use Rattle.transcript_laws.specs.Shown as seen

-- the label that the script gives
abbrev pub label_of : Option Kind → Option (List ℕ)
label_of (Some (Transaction (Commit label))) = label
label_of kind = None

-- a line of an item of this kind that is shown so
abbrev pub told : Option Kind → Shown → What
told kind (seen.Done false) = Done None []
told kind (seen.Done true) = Done (Some (unwrap_or (label_of kind) [])) []
told kind seen.RolledBack = RolledBack
told kind (seen.Looked snapshot) = Looked snapshot
told kind seen.LookedAll = LookedAll
told kind seen.Unlooked = Unlooked
told kind (seen.DroppedBelow below) = Dropped below
told kind (seen.RefusedBy number) = Refused OutOfMemory
told kind (seen.Faulted device count) = Fault device count Read

abbrev pub told_by : Option Kind → Option Shown → What
told_by kind None = Began
told_by kind (Some said) = told kind said

label_is : (kind : Option Kind) (label : List ℕ) → CommitsAs (Some label) kind → unwrap_or (label_of kind) [] ≡ label
label_is (Some (Transaction (Commit given))) label e = ap (λ (o : Option (List ℕ)). unwrap_or o []) (sym e)
label_is kind label e = absurd e

pub behind_told : {X : Type 0} (kind : Option Kind) (what : What) (after : X) (now : World X) → IsEnding kind what
    → behind after what now ≡ behind after (told_by kind (shown what)) now
behind_told kind (Done None writes) after now e = refl
behind_told kind (Done (Some label) writes) after now e =
    ap (λ (l : List ℕ). behind after (Done (Some l) []) now) (sym (label_is kind label e))
behind_told kind what after now e = refl

-- without the number of a refusal
abbrev pub plain : Shown → Shown
plain (seen.RefusedBy number) = seen.RefusedBy 1
plain said = said

-- the last line of an item as it is shown, and the worlds at it and where the item began
pub record Seen (X : Type 0) : Type 0 where
  pub at : World X
  pub last : Option Shown
  pub began : Option (World X)

abbrev pub seen_by : {X : Type 0} → Fate X → Seen X
seen_by f = record { at = f.now; last = option_map plain (shown f.last); began = f.began }

abbrev seen_as : {X : Type 0} → World X → Option Shown → Bool → Option (World X) → Option (Seen X)
seen_as at last opening began = Some (record { at = at; last = last; began = cond opening (Some at) began })

abbrev pub IsShown : What → Type 0
IsShown what = (said : Shown) × (shown what ≡ Some said)

shown_told : (kind : Option Kind) (said : Shown) → option_map plain (shown (told kind said)) ≡ Some (plain said)
shown_told kind (seen.Done false) = refl
shown_told kind (seen.Done true) = refl
shown_told kind seen.RolledBack = refl
shown_told kind (seen.Looked snapshot) = refl
shown_told kind seen.LookedAll = refl
shown_told kind seen.Unlooked = refl
shown_told kind (seen.DroppedBelow below) = refl
shown_told kind (seen.RefusedBy number) = refl
shown_told kind (seen.Faulted device count) = refl

-- a look begins
abbrev pub opens : Option Shown → Bool
opens (Some (seen.Looked snapshot)) = true
opens (Some seen.LookedAll) = true
opens said = false

begins_shown : (what : What) (said : Shown) → shown what ≡ Some said → begins what ≡ opens (Some said)
begins_shown Began said e = cc
begins_shown what said e = ap opens e

opens_told : (kind : Option Kind) (said : Shown) → opens (Some said) ≡ begins (told kind said)
opens_told kind (seen.Done false) = refl
opens_told kind (seen.Done true) = refl
opens_told kind said = refl

pub began_seen : {X : Type 0} (known other : Option (Fate X)) → option_map seen_by known ≡ option_map seen_by other
    → began_of known ≡ began_of other
began_seen None None same = refl
began_seen None (Some g) same = cc
began_seen (Some f) None same = cc
began_seen {X} (Some f) (Some g) same =
    let is : seen_by f ≡ seen_by g = cc in
    ap (λ (s : Seen X). s.began) is

module _ (L : Language) (items : Who → Option L.Item) where
  abbrev pub Ends : Line → Type 0
  Ends l = IsEnding (kind_of L (items l.who)) l.what

  -- the lines of a lawful journal end as the script says
  pub ends_in : (o : Opening L) (journal : List Line) → AtEach L items (KeepsRules L items o) journal
      → (before lines rest : List Line) → journal ≡ before ++ (lines ++ rest) → AllByRecursion Ends lines
  ends_in o journal rules before [] rest e = tt
  ends_in o journal rules before (l ∷ lines) rest e = (
    (rules before (lines ++ rest) l e).ending,
    ends_in o journal rules (before ++ l ∷ []) lines rest (e ∙ sym (append_assoc before (l ∷ []) (lines ++ rest))),
  )

  abbrev pub told_line : Who × Shown → Line
  told_line s = line s.0 (told (kind_of L (items s.0)) s.1)

  abbrev pub told_lines : List (Who × Shown) → List Line
  told_lines ss = map told_line ss

  -- a line makes of a world what it makes as it is shown
  step_told : (now : World L.Tables) (l : Line) (s : Option Shown) → Ends l → shown l.what ≡ s
      → step L items now l ≡ behind (after_of L (items l.who) now.current) (told_by (kind_of L (items l.who)) s) now
  step_told now l s ends e =
      behind_told (kind_of L (items l.who)) l.what (after_of L (items l.who) now.current) now ends
      ∙ ap (λ (o : Option Shown). behind (after_of L (items l.who) now.current)
      (told_by (kind_of L (items l.who)) o) now) e

  pub world_told : (now : World L.Tables) (lines : List Line) → AllByRecursion Ends lines
      → world L items now lines ≡ world L items now (told_lines (shown_lines lines))
  world_told now [] ends = refl
  world_told now (l ∷ lines) ends = by_shown (shown l.what) refl (λ next. world_told next lines ends.1)
    where
      by_shown : (s : Option Shown) → shown l.what ≡ s
          → ((next : World L.Tables) → world L items next lines ≡ world L items next (told_lines (shown_lines lines)))
          → world L items (step L items now l) lines
          ≡ world L items now (told_lines (shown_of l.who s ++ shown_lines lines))
      by_shown None e rest =
          ap (λ (w : World L.Tables). world L items w lines) (step_told now l None ends.0 e) ∙ rest now
      by_shown (Some said) e rest =
          ap (λ (w : World L.Tables). world L items w lines) (step_told now l (Some said) ends.0 e)
          ∙ rest (step L items now (told_line (l.who, said)))

  -- so lines that are shown alike leave one world
  pub world_alike : (now : World L.Tables) (one other : List Line) → AllByRecursion Ends one → AllByRecursion Ends other
      → shown_lines one ≡ shown_lines other → world L items now one ≡ world L items now other
  world_alike now one other ends others same =
      world_told now one ends
      ∙ ap (λ (ss : List (Who × Shown)). world L items now (told_lines ss)) same
      ∙ sym (world_told now other others)

  module _ (who : Who) where
    -- what became of an item all of whose lines are shown
    fate_told : (now : World L.Tables) (known other : Option (Fate L.Tables)) (lines : List Line)
        → AllByRecursion Ends lines → AllByRecursion IsShown (own who lines)
        → option_map seen_by known ≡ option_map seen_by other
        → option_map seen_by (fate_behind L items who now known lines)
        ≡ option_map seen_by (fate_behind L items who now other (told_lines (shown_lines lines)))
    fate_told now known other [] ends all same = same
    fate_told now known other (l ∷ lines) ends all same =
        by_test (same_item l.who who) (shown l.what) refl refl all
        (λ next more others rest is. fate_told next more others lines ends.1 rest is)
      where
        k : Option Kind
        k = kind_of L (items l.who)

        here : (said : Shown) → shown l.what ≡ Some said
            → option_map seen_by (Some (fate_with now l.what known))
            ≡ option_map seen_by (Some (fate_with now (told k said) other))
        here said e =
            ap (λ (s : Option Shown). seen_as now s (begins l.what) (began_of known))
            (ap (option_map plain) e ∙ sym (shown_told k said))
            ∙ ap (λ (b : Bool). seen_as now (option_map plain (shown (told k said))) b (began_of known))
            (begins_shown l.what said e ∙ opens_told k said)
            ∙ ap (seen_as now (option_map plain (shown (told k said))) (begins (told k said)))
            (began_seen known other same)

        by_test : (mine : Bool) (s : Option Shown) → same_item l.who who ≡ mine → shown l.what ≡ s
            → AllByRecursion IsShown (map (λ (x : Line). x.what)
            (cond mine (l ∷ filter (λ (x : Line). same_item x.who who) lines)
            (filter (λ (x : Line). same_item x.who who) lines)))
            → ((next : World L.Tables) (more others : Option (Fate L.Tables)) → AllByRecursion IsShown (own who lines)
            → option_map seen_by more ≡ option_map seen_by others
            → option_map seen_by (fate_behind L items who next more lines)
            ≡ option_map seen_by (fate_behind L items who next others (told_lines (shown_lines lines))))
            → option_map seen_by (fate_behind L items who (step L items now l)
            (cond mine (Some (fate_with now l.what known)) known) lines)
            ≡ option_map seen_by (fate_behind L items who now other
            (told_lines (shown_of l.who s ++ shown_lines lines)))
        by_test true None m e all rest =
            let hidden : None ≡ Some all.0.0 = sym e ∙ all.0.1 in
            cc
        by_test false None m e all rest =
            ap (λ (w : World L.Tables). option_map seen_by (fate_behind L items who w known lines))
            (step_told now l None ends.0 e)
            ∙ rest now known other all same
        by_test true (Some said) m e all rest =
            let next = step L items now (told_line (l.who, said)) in
            ap (λ (w : World L.Tables). option_map seen_by
            (fate_behind L items who w (Some (fate_with now l.what known)) lines))
            (step_told now l (Some said) ends.0 e)
            ∙ rest next (Some (fate_with now l.what known)) (Some (fate_with now (told k said) other)) all.1
            (here said e)
            ∙ ap (λ (b : Bool). option_map seen_by
            (fate_behind L items who next (cond b (Some (fate_with now (told k said) other)) other)
            (told_lines (shown_lines lines)))) (sym m)
        by_test false (Some said) m e all rest =
            let next = step L items now (told_line (l.who, said)) in
            ap (λ (w : World L.Tables). option_map seen_by (fate_behind L items who w known lines))
            (step_told now l (Some said) ends.0 e)
            ∙ rest next known other all same
            ∙ ap (λ (b : Bool). option_map seen_by
            (fate_behind L items who next (cond b (Some (fate_with now (told k said) other)) other)
            (told_lines (shown_lines lines)))) (sym m)

    -- so it is the same by lines that are shown alike
    pub fate_alike : (now : World L.Tables) (one other : List Line) → AllByRecursion Ends one
        → AllByRecursion Ends other
        → AllByRecursion IsShown (own who one) → AllByRecursion IsShown (own who other)
        → shown_lines one ≡ shown_lines other
        → option_map seen_by (fate L items who now one) ≡ option_map seen_by (fate L items who now other)
    fate_alike now one other ends others all all_others same =
        fate_told now None None one ends all refl
        ∙ ap (λ (ss : List (Who × Shown)). option_map seen_by (fate L items who now (told_lines ss))) same
        ∙ sym (fate_told now None None other others all_others refl)
