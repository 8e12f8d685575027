-- The last line of an item, and what follows of it.
use Rattle.std.proofs.Common.{◌≡◌, ◌++◌, Bool, true, false, cond, List, [], ◌∷◌, Option, Some, None, map, filter, refl, ap, ◌∙◌, append_assoc, append-nil, arith}
use Rattle.std.proofs.lemmas.Bool.Decides.{nat_tests}
use Rattle.retro_base.specs.declared.who.Who.{Who}
use Rattle.history.specs.declared.journal.Line.{Line}
use Rattle.history.specs.declared.journal.What.{What}
use Rattle.history.specs.Lines.{begins}
use Rattle.history.specs.Sound.{same_item}
use Rattle.journal_law.specs.Fates.{Fate, began_of, fate, fate_behind, fate_with}
use Rattle.journal_law.specs.Language.{Language}
use Rattle.journal_law.specs.Lawful.{IsOverlapOf}
use Rattle.journal_law.specs.Own.{SinceLine, last_behind, last_of, line, own}
use Rattle.journal_law.specs.Shows.{step, world}
use Rattle.journal_law.specs.World.{World}
use Rattle.journal_law.proofs.Journal.{fate_append, own_append}

pub same_itself : (who : Who) → same_item who who ≡ true
same_itself who = grind (arith, nat_tests)

last_append : (last : Option What) (xs ys : List What) → last_behind last (xs ++ ys) ≡ last_behind (last_behind last xs) ys
last_append last [] ys = refl
last_append last (x ∷ xs) ys = last_append (Some x) xs ys

own_line : (who : Who) (what : What) → own who (line who what ∷ []) ≡ what ∷ []
own_line who what = ap (λ (mine : Bool). map (λ (l : Line). l.what) (cond mine (line who what ∷ []) [])) (same_itself who)

-- what its last line says
pub last_there : (who : Who) (what : What) (lines since rest : List Line) → SinceLine who what lines since rest → last_of who lines ≡ Some what
last_there who what lines since rest at =
    let split : own who lines ≡ (own who since ++ what ∷ []) ++ [] =
    ap (own who) at.whole ∙ own_append who (since ++ line who what ∷ []) rest
    ∙ ap (λ (whats : List What). own who (since ++ line who what ∷ []) ++ whats) at.none
    ∙ ap (λ (whats : List What). whats ++ []) (own_append who since (line who what ∷ []) ∙ ap (λ (whats : List What). own who since ++ whats) (own_line who what)) in
    ap (last_behind None) (split ∙ append-nil (own who since ++ what ∷ [])) ∙ last_append None (own who since) (what ∷ [])

-- it stays its last while others add lines
pub since_stays : (who : Who) (what : What) (lines since rest more : List Line) → SinceLine who what lines since rest → own who more ≡ [] → SinceLine who what (lines ++ more) since (rest ++ more)
since_stays who what lines since rest more at none = record {
  whole = ap (λ (ls : List Line). ls ++ more) at.whole ∙ append_assoc (since ++ line who what ∷ []) rest more;
  none = own_append who rest more ∙ ap (λ (whats : List What). whats ++ own who more) at.none ∙ none;
}

-- and so does an overlap since then
pub overlap_stays : (who other : Who) (lines more : List Line) → IsOverlapOf who other lines → own who more ≡ [] → IsOverlapOf who other (lines ++ more)
overlap_stays who other lines more is none = record {
  apart = is.apart;
  since = is.since;
  rest = is.rest ++ more;
  began = since_stays who _ lines is.since is.rest more is.began none;
  front = is.front;
  more = is.more ++ more;
  place = ap (λ (ls : List Line). ls ++ more) is.place ∙ append_assoc is.front is.more more;
  trying = is.trying;
}

module _ (L : Language) (items : Who → Option L.Item) where
  -- nothing becomes of an item by lines that are not its own
  pub no_fate_own : (who : Who) (now : World L.Tables) (known : Option (Fate L.Tables)) (lines : List Line) → own who lines ≡ [] → fate_behind L items who now known lines ≡ known
  no_fate_own who now known [] none = refl
  no_fate_own who now known (l ∷ lines) none = by_test (same_item l.who who) none (no_fate_own who (step L items now l) known lines)
    where
      by_test : (mine : Bool) → map (λ (x : Line). x.what) (cond mine (l ∷ filter (λ (x : Line). same_item x.who who) lines) (filter (λ (x : Line). same_item x.who who) lines)) ≡ []
          → (own who lines ≡ [] → fate_behind L items who (step L items now l) known lines ≡ known)
          → fate_behind L items who (step L items now l) (cond mine (Some (fate_with now l.what known)) known) lines ≡ known
      by_test true none rest = cc
      by_test false none rest = rest none

  -- what a line of an item makes of it
  pub fate_line : (who : Who) (what : What) (tables : World L.Tables) (before : List Line)
      → fate L items who tables (before ++ line who what ∷ []) ≡ Some (fate_with (world L items tables before) what (fate L items who tables before))
  fate_line who what tables before =
      fate_append L items who tables None before (line who what ∷ [])
      ∙ ap (λ (mine : Bool). cond mine (Some (fate_with (world L items tables before) what (fate L items who tables before))) (fate L items who tables before)) (same_itself who)

  -- and so does its last one
  pub fate_last : (who : Who) (what : What) (tables : World L.Tables) (lines since rest : List Line) → SinceLine who what lines since rest
      → fate L items who tables lines ≡ Some (fate_with (world L items tables since) what (fate L items who tables since))
  fate_last who what tables lines since rest at =
      ap (fate L items who tables) at.whole ∙ fate_append L items who tables None (since ++ line who what ∷ []) rest
      ∙ no_fate_own who (world L items tables (since ++ line who what ∷ [])) (fate L items who tables (since ++ line who what ∷ [])) rest at.none
      ∙ fate_line who what tables since

  -- the world in which an attempt or a look began is that at its line
  pub began_there : (who : Who) (what : What) (tables : World L.Tables) (lines since rest : List Line) → begins what ≡ true → SinceLine who what lines since rest
      → began_of (fate L items who tables lines) ≡ Some (world L items tables since)
  began_there who what tables lines since rest opens at =
      ap began_of (fate_last who what tables lines since rest at)
      ∙ ap (λ (opening : Bool). cond opening (Some (world L items tables since)) (began_of (fate L items who tables since))) opens
