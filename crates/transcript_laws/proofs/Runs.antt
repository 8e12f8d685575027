-- The lines of one item of a run: nothing stands behind its end, and all but those of a transaction are shown.
use Rattle.std.proofs.Common.{◌≡◌, ◌++◌, Bool, true, false, cond, List, [], ◌∷◌, map, filter, refl, ap, sym, subst, ◌∙◌}
use mathlib.Core.Bool.{true≢false}
use Rattle.std.specs.List.{AllByRecursion}
use Rattle.retro_base.specs.declared.who.Who.{Who}
use Rattle.history.specs.declared.journal.Line.{Line}
use Rattle.history.specs.declared.journal.What.{What}
use Rattle.history.specs.declared.journal.What.TheVariants.{Began, Done, Overlapped, RolledBack, Looked, LookedAll, Unlooked, Dropped, Refused, Fault}
use Rattle.history.specs.Sound.{same_item}
use Rattle.journal_law.specs.Language.{AsOf, DropBelow, Kind, OverAll, Transaction}
use Rattle.journal_law.specs.Lawful.{AreAttempts, EndsLook, IsRun}
use Rattle.journal_law.specs.Own.{line, own}
use Rattle.journal_law.proofs.Journal.{own_append}
use Rattle.journal_law.proofs.Lasts.{same_itself}
use Rattle.transcript_laws.proofs.Redrawn.{IsShown}

-- a line ends its attempt, its look or its drop, and is no overlap
abbrev pub closes : What → Bool
closes Began = false
closes (Overlapped session item) = false
closes (Looked snapshot) = false
closes LookedAll = false
closes what = true

abbrev EndsOnce : List What → Type 0
EndsOnce [] = Unit {0}
EndsOnce (what ∷ []) = Unit {0}
EndsOnce (what ∷ next ∷ whats) = (closes what ≡ false) × EndsOnce (next ∷ whats)

once_more : (what : What) (whats : List What) → closes what ≡ false → EndsOnce whats → EndsOnce (what ∷ whats)
once_more what [] stays once = tt
once_more what (next ∷ whats) stays once = (stays, once)

attempts_once : (whats : List What) → AreAttempts whats → EndsOnce whats
attempts_once [] run = tt
attempts_once (Began ∷ Overlapped session item ∷ whats) run =
    (refl, once_more (Overlapped session item) whats refl (attempts_once whats run))
attempts_once (Began ∷ Done label writes ∷ []) run = (refl, tt)
attempts_once (Began ∷ RolledBack ∷ []) run = (refl, tt)
attempts_once (Began ∷ Refused why ∷ []) run = (refl, tt)
attempts_once (Began ∷ Fault device count call ∷ []) run = (refl, tt)
attempts_once whats run = absurd run

look_once : (whats : List What) → EndsLook whats → EndsOnce whats
look_once (Unlooked ∷ []) run = tt
look_once (Refused why ∷ []) run = tt
look_once (Fault device count call ∷ []) run = tt
look_once whats run = absurd run

run_once : (kind : Kind) (whats : List What) → IsRun kind whats → EndsOnce whats
run_once (Transaction end) whats run = attempts_once whats run.0
run_once kind [] run = tt
run_once (AsOf snapshot) (Looked number ∷ whats) run = once_more (Looked number) whats refl (look_once whats run)
run_once (AsOf snapshot) (Refused why ∷ []) run = tt
run_once OverAll (LookedAll ∷ whats) run = once_more LookedAll whats refl (look_once whats run)
run_once (DropBelow below) (Dropped number ∷ []) run = tt
run_once (DropBelow below) (Refused why ∷ []) run = tt
run_once (DropBelow below) (Fault device count call ∷ []) run = tt
run_once kind whats run = absurd run

none_behind : (before : List What) (what : What) (after : List What) → EndsOnce (before ++ what ∷ after)
    → closes what ≡ true → after ≡ []
none_behind [] what [] once ended = refl
none_behind [] what (next ∷ after) once ended = absurd (true≢false (sym ended ∙ once.0))
none_behind (b ∷ []) what after once ended = none_behind [] what after once.1 ended
none_behind (b ∷ c ∷ before) what after once ended = none_behind (c ∷ before) what after once.1 ended

pub own_split : (who : Who) (before after : List Line) (what : What)
    → own who (before ++ line who what ∷ after) ≡ own who before ++ what ∷ own who after
own_split who before after what =
    own_append who before (line who what ∷ after)
    ∙ ap (λ (mine : Bool). own who before ++ map (λ (l : Line). l.what)
    (cond mine (line who what ∷ filter (λ (l : Line). same_item l.who who) after)
    (filter (λ (l : Line). same_item l.who who) after))) (same_itself who)

-- no line of the item stands behind its end
pub own_behind : (kind : Kind) (who : Who) (before after : List Line) (what : What)
    → IsRun kind (own who (before ++ line who what ∷ after)) → closes what ≡ true → own who after ≡ []
own_behind kind who before after what run ended =
    none_behind (own who before) what (own who after)
    (subst EndsOnce (own_split who before after what)
    (run_once kind (own who (before ++ line who what ∷ after)) run)) ended

-- ---- what is shown

abbrev pub NoTransaction : Kind → Type 0
NoTransaction (Transaction end) = ⊥
NoTransaction kind = Unit {0}

look_shown : (whats : List What) → EndsLook whats → AllByRecursion IsShown whats
look_shown (Unlooked ∷ []) run = ((_, refl), tt)
look_shown (Refused why ∷ []) run = ((_, refl), tt)
look_shown (Fault device count call ∷ []) run = ((_, refl), tt)
look_shown whats run = absurd run

pub run_shown : (kind : Kind) (whats : List What) → NoTransaction kind → IsRun kind whats → AllByRecursion IsShown whats
run_shown (Transaction end) whats reads run = absurd reads
run_shown kind [] reads run = tt
run_shown (AsOf snapshot) (Looked number ∷ whats) reads run = ((_, refl), look_shown whats run)
run_shown (AsOf snapshot) (Refused why ∷ []) reads run = ((_, refl), tt)
run_shown OverAll (LookedAll ∷ whats) reads run = ((_, refl), look_shown whats run)
run_shown (DropBelow below) (Dropped number ∷ []) reads run = ((_, refl), tt)
run_shown (DropBelow below) (Refused why ∷ []) reads run = ((_, refl), tt)
run_shown (DropBelow below) (Fault device count call ∷ []) reads run = ((_, refl), tt)
run_shown kind whats reads run = absurd run

pub shown_front : (xs ys : List What) → AllByRecursion IsShown (xs ++ ys) → AllByRecursion IsShown xs
shown_front [] ys all = tt
shown_front (x ∷ xs) ys all = (all.0, shown_front xs ys all.1)
