-- Lines of a journal, and what is shown of them.
use Rattle.std.proofs.Common.{◌≡◌, ◌++◌, List, [], ◌∷◌, Option, Some, None, refl, ap, sym, subst, ◌∙◌, append_assoc}
use Rattle.retro_base.specs.declared.who.Who.{Who}
use Rattle.history.specs.declared.journal.Line.{Line}
use Rattle.history.specs.declared.journal.What.{What}
use Rattle.journal_law.specs.Own.{line}
use Rattle.transcript_laws.specs.Shown.{Shown, shown, shown_lines, shown_of}

pub shown_append : (xs ys : List Line) → shown_lines (xs ++ ys) ≡ shown_lines xs ++ shown_lines ys
shown_append [] ys = refl
shown_append (l ∷ xs) ys =
    ap (λ (more : List (Who × Shown)). shown_of l.who (shown l.what) ++ more) (shown_append xs ys)
    ∙ sym (append_assoc (shown_of l.who (shown l.what)) (shown_lines xs) (shown_lines ys))

-- a line of these that is shown so, behind those that are shown so
pub record IsPlace (lines : List Line) (front : List (Who × Shown)) (who : Who) (said : Shown) : Type 0 where
  pub before : List Line
  pub what : What
  pub after : List Line
  pub whole : lines ≡ before ++ line who what ∷ after
  pub is : shown what ≡ Some said
  pub in_front : shown_lines before ≡ front

-- behind one line more
place_behind : (l : Line) (lines : List Line) (s : Option Shown) (front : List (Who × Shown)) (who : Who) (said : Shown)
    → shown l.what ≡ s → IsPlace lines front who said → IsPlace (l ∷ lines) (shown_of l.who s ++ front) who said
place_behind l lines s front who said e p = record {
  before = l ∷ p.before;
  what = p.what;
  after = p.after;
  whole = ap (λ (ls : List Line). l ∷ ls) p.whole;
  is = p.is;
  in_front =
      ap (λ (o : Option Shown). shown_of l.who o ++ shown_lines p.before) e
      ∙ ap (λ (ss : List (Who × Shown)). shown_of l.who s ++ ss) p.in_front;
}

-- what is shown has its line
pub place_of : (lines : List Line) (front rest : List (Who × Shown)) (who : Who) (said : Shown)
    → shown_lines lines ≡ front ++ (who, said) ∷ rest → IsPlace lines front who said
place_of [] [] rest who said e = cc
place_of [] (s ∷ front) rest who said e = cc
place_of (l ∷ lines) front rest who said e =
    by_shown (shown l.what) front refl e (λ front e. place_of lines front rest who said e)
  where
    by_shown : (s : Option Shown) (front : List (Who × Shown)) → shown l.what ≡ s
        → shown_of l.who s ++ shown_lines lines ≡ front ++ (who, said) ∷ rest
        → ((front : List (Who × Shown)) → shown_lines lines ≡ front ++ (who, said) ∷ rest
        → IsPlace lines front who said)
        → IsPlace (l ∷ lines) front who said
    by_shown None front e same next = place_behind l lines None front who said e (next front same)
    by_shown (Some s) [] e same next =
        let pair : (l.who, s) ≡ (who, said) = cc in
        let mine : l.who ≡ who = ap (λ (p : Who × Shown). p.0) pair in
        let says : s ≡ said = ap (λ (p : Who × Shown). p.1) pair in
        record {
          before = [];
          what = l.what;
          after = lines;
          whole = ap (λ (w : Who). line w l.what ∷ lines) mine;
          is = e ∙ ap (λ (x : Shown). Some x) says;
          in_front = refl;
        }
    by_shown (Some s) (f ∷ front) e same next =
        let head : (l.who, s) ≡ f = cc in
        let tail : shown_lines lines ≡ front ++ (who, said) ∷ rest = cc in
        subst (λ (s : Who × Shown). IsPlace (l ∷ lines) (s ∷ front) who said) head
        (place_behind l lines (Some s) front who said e (next front tail))
