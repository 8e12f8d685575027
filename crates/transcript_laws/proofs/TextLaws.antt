-- What the text of visible lines decides of two lawful journals.
use Rattle.std.proofs.Common.{◌≡◌, ◌+◌, ◌++◌, ◌<◌, inl, inr, ℕ, true, List, [], ◌∷◌, length, Option, Some, None, refl, sym, subst, ◌∙◌, append_assoc, append-nil, arith}
use Rattle.std.specs.Prelude.{is_some, slice_get}
use Rattle.std.specs.Option.{option_and_then, option_map, option_map_or}
use Rattle.std.proofs.lemmas.List.{length-map}
use Rattle.std.proofs.lemmas.Option.{slice_get_within}
use Rattle.retro_base.specs.declared.limits.TheConstants.{SESSIONS}
use Rattle.retro_base.specs.declared.who.Who.{Who}
use Rattle.history.specs.declared.journal.Line.{Line}
use Rattle.journal_law.specs.Lawful.{AtEach, IsKnown, KeepsRules, Opening}
use Rattle.journal_law.specs.World.{newest}
use Rattle.session.specs.Plan.{Item, Plan, item_in_phase, item_of, names_at, names_of, numbered}
use Rattle.session.specs.Sql.{sql}
use Rattle.session.specs.declared.plan.SessionPlan.{SessionPlan}
use Rattle.session.specs.declared.plan.Task.{Task}
use Rattle.transcript_laws.specs.Apart.{AreOfSeats, AreTold, HasNames, IsNamed}
use Rattle.transcript_laws.specs.Laws.{BeginsAs, LawfulIsTold, LeavesAs, MayBegin, MayLeave, TextDecidesReplies, TextDecidesResults, TextDecidesTables}
use Rattle.transcript_laws.specs.Shown.{shown_lines}
use Rattle.transcript_laws.proofs.Laws.{decide_replies, decide_results, decide_tables}
use Rattle.transcript_laws.proofs.Told.{tell_lines}

-- an item's session has a name
item_named : (plan : Plan) (who : Who) → is_some (item_of plan who) ≡ true
    → who.session < length (names_at plan who.phase)
item_named plan who is = by_phase (numbered plan who.phase) is
  where
    by_session : (sessions : List SessionPlan) (found : Option SessionPlan) → slice_get sessions who.session ≡ found
        → is_some {T = Item} (option_map (λ (task : Task). record { names = names_of sessions; task = task })
        (option_and_then (λ (session : SessionPlan). numbered session.tasks who.item) found)) ≡ true
        → who.session < length (names_of sessions)
    by_session sessions None e is = cc
    by_session sessions (Some session) e is =
        let inside : who.session < length sessions = slice_get_within sessions who.session session e in
        omega (arith, inside, length-map sessions (λ (s : SessionPlan). s.name))

    by_phase : (found : Option (List SessionPlan)) → is_some {T = Item} (option_and_then (item_in_phase who) found) ≡ true
        → who.session < length (option_map_or names_of found [])
    by_phase None is = cc
    by_phase (Some sessions) is = by_session sessions (slice_get sessions who.session) refl is

known_named : (plan : Plan) (l : Line) → IsKnown l.who (item_of plan l.who) l.what → l.who.session < SESSIONS + 2
    → IsNamed plan l.who
known_named plan l (inl is) few = inl (item_named plan l.who is)
known_named plan l (inr (worker, fault)) few = inr (worker, few)

module _ (size : ℕ) (plan : Plan) (o : Opening (sql size)) where
  lines_told : (before lines after journal : List Line) → AtEach (sql size) (item_of plan) (KeepsRules (sql size) (item_of plan) o) journal
      → journal ≡ before ++ (lines ++ after) → AreOfSeats lines → AreTold plan lines
  lines_told before [] after journal rules whole seats = tt
  lines_told before (l ∷ lines) after journal rules whole seats =
      let known = (rules before (lines ++ after) l whole).known in
      let more : journal ≡ (before ++ l ∷ []) ++ (lines ++ after) = whole ∙ sym (append_assoc before (l ∷ []) (lines ++ after)) in
      ((known_named plan l known seats.0.0, seats.0.1), lines_told (before ++ l ∷ []) lines after journal rules more seats.1)

  told : (front : List Line) → MayBegin size plan o front → AreOfSeats front → AreTold plan front
  told front begins seats = lines_told [] front begins.rest (front ++ begins.rest) begins.leaves.lawful.at_each refl seats

  -- a journal begins with all its lines
  whole : (text : List ℕ) (journal : List Line) → LeavesAs size plan o text journal → BeginsAs size plan o text journal
  whole text journal left = record {
    begins = record { rest = []; leaves = subst (MayLeave size plan o) (sym (append-nil journal)) left.leaves };
    seats = left.seats;
    is = left.is;
  }

  shown_same : (text : List ℕ) (one other : List Line) → HasNames plan → BeginsAs size plan o text one
      → BeginsAs size plan o text other → shown_lines one ≡ shown_lines other
  shown_same text one other names a b =
      tell_lines plan (newest o.tables) one other names (told one a.begins a.seats) (told other b.begins b.seats)
      (sym a.is ∙ b.is)

pub lawful_told : LawfulIsTold
lawful_told size plan o front begins seats = told size plan o front begins seats

pub text_tables : TextDecidesTables
text_tables size plan o text one other names a b =
    decide_tables size plan o one other a.begins b.begins (shown_same size plan o text one other names a b)

pub text_replies : TextDecidesReplies
text_replies size plan o text one other names a b =
    decide_replies size plan o one other a.leaves b.leaves
    (shown_same size plan o text one other names (whole size plan o text one a) (whole size plan o text other b))

pub text_results : TextDecidesResults
text_results size plan o text one other names a b =
    decide_results size plan o one other a.leaves b.leaves
    (shown_same size plan o text one other names (whole size plan o text one a) (whole size plan o text other b))
