-- Lines that a seat adds, and that they fit.
use Rattle.std.proofs.Common.{◌≡◌, ◌∙◌, ◌++◌, ℕ, Bool, cond, List, [], ◌∷◌, map, Option, refl, ap, sym, subst, append_assoc, append-nil}
use Rattle.std.specs.List.{AllByRecursion}
use Rattle.retro_base.specs.declared.who.Who.{Who}
use Rattle.history.specs.declared.journal.Line.{Line}
use Rattle.history.specs.declared.journal.What.{What}
use Rattle.history.specs.declared.journal.What.TheVariants.{Began}
use Rattle.journal_law.specs.Facts.{AreOthers, Fits}
use Rattle.journal_law.specs.Language.{Language}
use Rattle.journal_law.specs.Own.{SinceBegan, line, own}
use Rattle.journal_law.specs.Seating.{Sane}
use Rattle.journal_law.specs.Seats.{Attempt, Moves, Open, View, lines_before, one}
use Rattle.journal_law.proofs.Journal.{own_append, own_others}
use Rattle.journal_law.proofs.Lasts.{same_itself, since_stays}
use Rattle.journal_law.proofs.Seating.{adds, waits}
use Rattle.seat_pager.specs.Transaction.{GoesOn, Paging}
use Rattle.session.specs.OneItem.{OfItem}
use Rattle.session.specs.Attempts.{Added, IsTrying}

of_others : (who : Who) (session : ℕ) (others : List Line) → who.session ≡ session → AreOthers session others → AllByRecursion (OfItem who) others
of_others who session [] mine apart = tt
of_others who session (l ∷ others) mine apart = (λ same. absurd (apart.0 (same ∙ mine)), of_others who session others mine apart.1)

all_append : {X : Type 0} (P : X → Type 0) (xs ys : List X) → AllByRecursion P xs → AllByRecursion P ys → AllByRecursion P (xs ++ ys)
all_append P [] ys one two = two
all_append P (x ∷ xs) ys one two = (one.0, all_append P xs ys one.1 two)

pub none_mine : (who : Who) (session : ℕ) (others : List Line) → who.session ≡ session → AreOthers session others → own who others ≡ []
none_mine who session others mine apart = own_others who others (subst (λ (n : ℕ). AreOthers n others) (sym mine) apart)

pub own_line : (who : Who) (what : What) → own who (one who what) ≡ what ∷ []
own_line who what = ap (λ (mine : Bool). map (λ (l : Line). l.what) (cond mine (one who what) [])) (same_itself who)

module _ (L : Language) (items : Who → Option L.Item) (who : Who) where
  -- only others have added lines
  pub added_none : (old new : View) → who.session ≡ old.session → Moves old new [] → Sane L items old → Added L items who old new []
  added_none old new mine moves sane = record {
    session = moves.session;
    opened = moves.opened;
    more = moves.others;
    front = moves.front ∙ append-nil (old.front ++ moves.others);
    of_item = of_others who old.session moves.others mine moves.apart;
    says = none_mine who old.session moves.others mine moves.apart;
    fits = waits L items old new moves sane;
  }

  -- a line of the item that fits
  pub added_line : (old new : View) (what : What) → who.session ≡ old.session → (moves : Moves old new (one who what)) → Fits L items old.opened (lines_before old new moves) (line who what) → Sane L items old
      → Added L items who old new (what ∷ [])
  added_line old new what mine moves fit sane = record {
    session = moves.session;
    opened = moves.opened;
    more = moves.others ++ one who what;
    front = moves.front ∙ append_assoc old.front moves.others (one who what);
    of_item = all_append (OfItem who) moves.others (one who what) (of_others who old.session moves.others mine moves.apart) (λ same. refl, tt);
    says =
        own_append who moves.others (one who what) ∙ ap (λ (whats : List What). whats ++ own who (one who what)) (none_mine who old.session moves.others mine moves.apart)
        ∙ own_line who what;
    fits = adds L items old new who what moves fit sane;
  }

  pub added_on : (a b c : View) (xs ys : List What) → Added L items who a b xs → Added L items who b c ys → Added L items who a c (xs ++ ys)
  added_on a b c xs ys first second = record {
    session = second.session ∙ first.session;
    opened = second.opened ∙ first.opened;
    more = first.more ++ second.more;
    front = second.front ∙ ap (λ (ls : List Line). ls ++ second.more) first.front ∙ append_assoc a.front first.more second.more;
    of_item = all_append (OfItem who) first.more second.more first.of_item second.of_item;
    says = own_append who first.more second.more ∙ ap (λ (whats : List What). whats ++ own who second.more) first.says ∙ ap (λ (whats : List What). xs ++ whats) second.says;
    fits = second.fits;
  }

-- ---- an open attempt

same_attempt : (a b : Attempt) → Open a ≡ Open b → a ≡ b
same_attempt a b e = cc

pub trying_is : (who : Who) (view : View) (t : IsTrying who view) (a : Attempt) → view.work ≡ Open a → a ≡ t.attempt
trying_is who view t a is = same_attempt a t.attempt (sym is ∙ t.is_open)

pub trying_on : (who : Who) (old new : Paging) → who.session ≡ old.view.session → GoesOn old new → IsTrying who old.view → IsTrying who new.view
trying_on who old new mine goes trying =
    let same = goes.attempt trying.attempt trying.is_open in
    let others = goes.moves.others in
    let stays : SinceBegan who (old.view.front ++ others) trying.attempt.since (trying.rest ++ others) =
    since_stays who Began old.view.front trying.attempt.since trying.rest others trying.began (none_mine who old.view.session others mine goes.moves.apart) in
    record {
      attempt = same.attempt;
      is_open = same.is_open;
      is_who = same.who ∙ trying.is_who;
      rest = trying.rest ++ others;
      began =
          subst (λ (ls : List Line). SinceBegan who new.view.front ls (trying.rest ++ others)) (sym same.since)
          (subst (λ (ls : List Line). SinceBegan who ls trying.attempt.since (trying.rest ++ others)) (sym (goes.moves.front ∙ append-nil (old.view.front ++ others))) stays);
    }
