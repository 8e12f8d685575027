-- Marks whose numbers leave none out.
use Rattle.std.proofs.Common.{◌≡◌, ◌<◌, ◌≤◌, ◌+◌, ◌∙◌, inl, inr, ℕ, Bool, true, false, cond, eqb, leb, List, [], ◌∷◌, ◌++◌, length, Some, None, refl, sym, subst, arith}
use Rattle.std.proofs.lemmas.Bool.{eq-eqb, or_left, or_right, cases_eq}
use Rattle.history.specs.declared.entry.Base.{Base}
use Rattle.history.specs.declared.entry.Mark.{Mark}
use Rattle.history.specs.declared.entry.Change.TheVariants.{Commit, Drop}
use Rattle.history.specs.Marks.{is_retained, oldest, newest, kept_marks}
use Rattle.history.specs.History.{capturing}
use Rattle.history.specs.Writes.{pages_of}
use Rattle.history.proofs.MarkLaws.{retained-oldest, retained-newest}
use Rattle.records.specs.Entries.{IsNumberedFrom}
use Rattle.records.specs.Laws.{NumberedStays, RetainedBetween}
use Rattle.records.proofs.Spelling.{newest-numbered}

numbered-push : (number : ℕ) (marks : List Mark) (mark : Mark) → IsNumberedFrom number marks → mark.number ≡ number + length marks → IsNumberedFrom number (marks ++ mark ∷ [])
numbered-push number [] mark h e = (omega (arith, e), tt)
numbered-push number (first ∷ marks) mark h e = (h.0, numbered-push (number + 1) marks mark h.1 (omega (arith, e)))

next_numbered : (marks : List Mark) (mark : Mark) → IsNumberedFrom (oldest marks) marks → mark.number ≡ newest marks + 1 → IsNumberedFrom (oldest (marks ++ mark ∷ [])) (marks ++ mark ∷ [])
next_numbered [] mark h e = (refl, tt)
next_numbered (first ∷ marks) mark h e = numbered-push first.number (first ∷ marks) mark h (omega (arith, e, newest-numbered first.number first marks h))

numbered-kept : (number below : ℕ) (marks : List Mark) → IsNumberedFrom number marks → IsNumberedFrom (oldest (kept_marks below marks)) (kept_marks below marks)
numbered-kept number below [] h = tt
numbered-kept number below (mark ∷ marks) h = go (leb below mark.number) (numbered-kept (number + 1) below marks h.1) where
  go : (b : Bool) → IsNumberedFrom (oldest (kept_marks below marks)) (kept_marks below marks) → IsNumberedFrom (oldest (cond b (mark ∷ marks) (kept_marks below marks))) (cond b (mark ∷ marks) (kept_marks below marks))
  go true again = (refl, subst (λ n. IsNumberedFrom (n + 1) marks) (sym h.0) h.1)
  go false again = again

pub numbered-retained : (first number : ℕ) (marks : List Mark) → IsNumberedFrom first marks → first ≤ number → number < first + length marks → is_retained number marks ≡ true
numbered-retained first number [] h le lt = absurd (omega (arith, le, lt))
numbered-retained first number (mark ∷ marks) h le lt = elim (cases_eq first number) [
  | inl is ↦ or_left (eqb mark.number number) (is_retained number marks) (eq-eqb mark.number number (h.0 ∙ is))
  | inr other ↦ or_right (eqb mark.number number) (is_retained number marks) (numbered-retained (first + 1) number marks h.1 (omega (arith, le, other)) (omega (arith, lt)))
]

between : (base : Base) (number : ℕ) → IsNumberedFrom (oldest base.marks) base.marks → oldest base.marks ≤ number → number ≤ newest base.marks → is_retained number base.marks ≡ true
between base number numbered le up = go base.marks numbered le up where
  go : (marks : List Mark) → IsNumberedFrom (oldest marks) marks → oldest marks ≤ number → number ≤ newest marks → is_retained number marks ≡ true
  go [] h a b = absurd (omega (arith, a, b))
  go (mark ∷ marks) h a b = numbered-retained mark.number number (mark ∷ marks) h a (omega (arith, b, newest-numbered mark.number mark marks h))

pub retained_between : RetainedBetween
retained_between base number right numbered = (
  λ kept. (retained-oldest base.captures 0 0 number base.marks right.marks kept, retained-newest base.captures 0 0 number base.marks right.marks kept),
  λ inside. between base number numbered inside.0 inside.1,
)

pub numbered_stays : NumberedStays
numbered_stays base (Commit None writes) numbered = numbered
numbered_stays base (Commit (Some label) writes) numbered =
    next_numbered base.marks (record { number = newest base.marks + 1; label = label; start = base.captures + length (pages_of (capturing base writes)) }) numbered refl
numbered_stays base (Drop below) numbered = numbered-kept (oldest base.marks) below base.marks numbered
