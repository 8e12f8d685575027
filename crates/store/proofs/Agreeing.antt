-- A page that no other item changed since a transaction began is as it was then.
use Rattle.std.proofs.Common.{◌≡◌, ◌++◌, ◌∙◌, ℕ, List, [], ◌∷◌, drop, take, Option, Some, None, refl, sym, ap}
use Rattle.std.specs.Option.{option_or}
use Rattle.std.proofs.lemmas.List.{take-append-drop}
use Rattle.retro_base.specs.declared.who.Who.{Who}
use Rattle.history.specs.declared.journal.Line.{Line}
use Rattle.history.specs.declared.journal.What.{What}
use Rattle.history.specs.declared.journal.What.TheVariants.{Began, Done, Overlapped, RolledBack, Looked, LookedAll, Unlooked, Dropped, Refused, Fault}
use Rattle.history.specs.Journal.{pages_after_journal, pages_behind}
use Rattle.history.specs.LineLaws.{NoCommitOf}
use Rattle.history.specs.Lines.{changed_since}
use Rattle.history.proofs.Effects.{unchanged_stays}
use Rattle.journal_law.specs.Pages.{Pages, page_step, page_world}
use Rattle.journal_law.specs.World.{World}
use Rattle.store.proofs.Edited.{written_at}

step_current : (world : World Pages) (who : Who) (what : What) → (page_step world (record { who = who; what = what })).current ≡ pages_behind world.current what
step_current world who Began = refl
step_current world who (Done None writes) = refl
step_current world who (Done (Some label) writes) = refl
step_current world who (Overlapped session item) = refl
step_current world who RolledBack = refl
step_current world who (Looked snapshot) = refl
step_current world who LookedAll = refl
step_current world who Unlooked = refl
step_current world who (Dropped below) = refl
step_current world who (Refused why) = refl
step_current world who (Fault device count call) = refl

pub current_is : (world : World Pages) (lines : List Line) → (page_world world lines).current ≡ pages_after_journal world.current lines
current_is world [] = refl
current_is world (l ∷ lines) = current_is (page_step world l) lines ∙ ap (λ (pages : Pages). pages_after_journal pages lines) (step_current world l.who l.what)

after_append : (pages : Pages) (lines more : List Line) → pages_after_journal pages (lines ++ more) ≡ pages_after_journal (pages_after_journal pages lines) more
after_append pages [] more = refl
after_append pages (l ∷ lines) more = after_append (pages_behind pages l.what) lines more

pub unchanged_agrees : (world : World Pages) (who : Who) (page began : ℕ) (lines : List Line) → changed_since who page began lines ≡ None → NoCommitOf who (drop began lines) → (page_world world lines).current page ≡ (page_world world (take began lines)).current page
unchanged_agrees world who page began lines none own =
    ap (λ (l : List Line). (page_world world l).current page) (sym (take-append-drop began lines))
    ∙ (ap (λ (f : Pages). f page) (current_is world (take began lines ++ drop began lines) ∙ after_append world.current (take began lines) (drop began lines))
    ∙ (unchanged_stays (pages_after_journal world.current (take began lines)) who page (drop began lines) none own ∙ ap (λ (f : Pages). f page) (sym (current_is world (take began lines)))))

-- pages that are the same at one page before a journal are so behind it
pub after_at : (one other : Pages) (page : ℕ) (lines : List Line) → one page ≡ other page → pages_after_journal one lines page ≡ pages_after_journal other lines page
after_at one other page [] same = same
after_at one other page (l ∷ lines) same = after_at (pages_behind one l.what) (pages_behind other l.what) page lines (behind_at l.what) where
  behind_at : (what : What) → pages_behind one what page ≡ pages_behind other what page
  behind_at (Done label writes) = written_at writes page one other same
  behind_at Began = same
  behind_at (Overlapped session item) = same
  behind_at RolledBack = same
  behind_at (Looked snapshot) = same
  behind_at LookedAll = same
  behind_at Unlooked = same
  behind_at (Dropped below) = same
  behind_at (Refused why) = same
  behind_at (Fault device count call) = same

-- ---- what is refused by neither of two tests

pub or_none : {X : Type 0} (one other : Option X) → option_or one other ≡ None → (one ≡ None) × (other ≡ None)
or_none None other e = (refl, e)
or_none (Some x) other e = absurd (cc e)
