-- An item goes on, line by line, in any language.
use Rattle.std.proofs.Common.{◌≡◌, ◌++◌, ℕ, Bool, cond, List, [], ◌∷◌, Option, map, refl, ap, sym, subst, ◌∙◌, append_assoc, append-nil}
use Rattle.std.specs.List.{AllByRecursion}
use Rattle.retro_base.specs.declared.who.Who.{Who}
use Rattle.history.specs.declared.journal.Line.{Line}
use Rattle.history.specs.declared.journal.What.{What}
use Rattle.journal_law.specs.Facts.{AreOthers, Fits}
use Rattle.journal_law.specs.Language.{Language}
use Rattle.journal_law.specs.Own.{line, own}
use Rattle.journal_law.specs.Seating.{Sane}
use Rattle.journal_law.specs.Seats.{Moves, View, lines_before}
use Rattle.journal_law.proofs.Journal.{own_append, own_others}
use Rattle.journal_law.proofs.Lasts.{same_itself}
use Rattle.journal_law.proofs.Seating as seating
use Rattle.session.specs.OneItem.{OfItem}

-- ---- lines

pub all_append : {X : Type 0} (P : X → Type 0) (xs ys : List X) → AllByRecursion P xs → AllByRecursion P ys → AllByRecursion P (xs ++ ys)
all_append P [] ys one two = two
all_append P (x ∷ xs) ys one two = (one.0, all_append P xs ys one.1 two)

-- lines of other sessions are of no item of this one
of_others : (who : Who) (session : ℕ) (lines : List Line) → who.session ≡ session → AreOthers session lines → AllByRecursion (OfItem who) lines
of_others who session [] mine apart = tt
of_others who session (line ∷ lines) mine apart = (λ same. absurd (apart.0 (same ∙ mine)), of_others who session lines mine apart.1)

-- what the lines behind those of other sessions say of an item
pub own_behind : (who : Who) (session : ℕ) (front others : List Line) → who.session ≡ session → AreOthers session others → own who (front ++ others) ≡ own who front
own_behind who session front others mine apart =
    own_append who front others
    ∙ ap (λ (whats : List What). own who front ++ whats) (own_others who others (subst (λ (n : ℕ). AreOthers n others) (sym mine) apart))
    ∙ append-nil (own who front)

-- and behind a line of its own
pub own_and : (who : Who) (front : List Line) (what : What) → own who (front ++ line who what ∷ []) ≡ own who front ++ what ∷ []
own_and who front what =
    own_append who front (line who what ∷ [])
    ∙ ap (λ (mine : Bool). own who front ++ map (λ (l : Line). l.what) (cond mine (line who what ∷ []) [])) (same_itself who)

-- ---- what is known of an item along its calls

module _ (L : Language) (items : Who → Option L.Item) where
  -- its session has added lines of this item alone, which say this, and they fit
  pub record HasGone (who : Who) (old new : View) (whats : List What) : Type 0 where
    pub session : new.session ≡ old.session
    pub opened : new.opened ≡ old.opened
    pub more : List Line
    pub front : new.front ≡ old.front ++ more
    pub of_item : AllByRecursion (OfItem who) more
    pub fits : Sane L items new
    pub says : own who new.front ≡ whats

  pub starts : (who : Who) (view : View) → Sane L items view → own who view.front ≡ [] → HasGone who view view []
  starts who view fits fresh = record {
    session = refl;
    opened = refl;
    more = [];
    front = sym (append-nil view.front);
    of_item = tt;
    fits = fits;
    says = fresh;
  }

  -- others add lines
  pub waits : (who : Who) (old now new : View) (whats : List What) → who.session ≡ old.session → HasGone who old now whats → Moves now new [] → HasGone who old new whats
  waits who old now new whats mine gone moves =
      let session : who.session ≡ now.session = mine ∙ sym gone.session in
      let front : new.front ≡ now.front ++ moves.others = moves.front ∙ append-nil (now.front ++ moves.others) in
      record {
        session = moves.session ∙ gone.session;
        opened = moves.opened ∙ gone.opened;
        more = gone.more ++ moves.others;
        front = front ∙ ap (λ (ls : List Line). ls ++ moves.others) gone.front ∙ append_assoc old.front gone.more moves.others;
        of_item = all_append (OfItem who) gone.more moves.others gone.of_item (of_others who now.session moves.others session moves.apart);
        fits = seating.waits L items now new moves gone.fits;
        says = ap (own who) front ∙ own_behind who now.session now.front moves.others session moves.apart ∙ gone.says;
      }

  -- the session adds a line of the item
  pub adds : (who : Who) (old now new : View) (whats : List What) (what : What) → who.session ≡ old.session → HasGone who old now whats → Moves now new (line who what ∷ [])
      → Sane L items new → HasGone who old new (whats ++ what ∷ [])
  adds who old now new whats what mine gone moves fits =
      let session : who.session ≡ now.session = mine ∙ sym gone.session in
      let one = line who what ∷ [] in
      record {
        session = moves.session ∙ gone.session;
        opened = moves.opened ∙ gone.opened;
        more = gone.more ++ (moves.others ++ one);
        front =
            moves.front
            ∙ ap (λ (ls : List Line). (ls ++ moves.others) ++ one) gone.front
            ∙ append_assoc (old.front ++ gone.more) moves.others one
            ∙ append_assoc old.front gone.more (moves.others ++ one);
        of_item = all_append (OfItem who) gone.more (moves.others ++ one) gone.of_item
            (all_append (OfItem who) moves.others one (of_others who now.session moves.others session moves.apart) (λ same. refl, tt));
        fits = fits;
        says =
            ap (own who) moves.front
            ∙ own_and who (now.front ++ moves.others) what
            ∙ ap (λ (ws : List What). ws ++ what ∷ []) (own_behind who now.session now.front moves.others session moves.apart ∙ gone.says);
      }

  -- which fits
  pub adds_fit : (who : Who) (old now new : View) (whats : List What) (what : What) → who.session ≡ old.session → HasGone who old now whats → (moves : Moves now new (line who what ∷ []))
      → Fits L items now.opened (lines_before now new moves) (line who what) → HasGone who old new (whats ++ what ∷ [])
  adds_fit who old now new whats what mine gone moves fits = adds who old now new whats what mine gone moves (seating.adds L items now new who what moves fits gone.fits)
